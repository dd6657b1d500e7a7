use Rattle.std.proofs.Common.{◌∙◌, subst, sym}
use Rattle.mm_keeper.specs.Entries.{Entry}
use Rattle.mm_check.specs.Inside.Stopping.{NamesBefore}
use Rattle.mm_check.proofs.Passing.{same_entry}
use Rattle.mm_check.proofs.front.expect_not_before.Goals as goal

pub returns-in-Ok-clause-before : goal.returns-in-Ok-clause-before
returns-in-Ok-clause-before g c = λ maps e h.
    subst (λ (z : Entry). NamesBefore z c.judge_front.result) (same_entry (c.in-Ok.entry.key.now, c.in-Ok.entry.value.now) e (sym (c.in-Ok.ensures.lent maps) ∙ h)) c.judge_front.ensures.before

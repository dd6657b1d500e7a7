use Rattle.std.proofs.Common.{◌∷◌, ◌∙◌, subst, sym}
use Rattle.mm_keeper.specs.Entries.{Entry}
use Rattle.mm_check.specs.Blame.{first_difference}
use Rattle.mm_check.specs.Inside.Stopping.{GoesOn}
use Rattle.mm_check.proofs.Passing.{same_entry}
use Rattle.mm_check.proofs.behind.compare_at.Goals as goal

pub returns-in-Ok-clause-differs : goal.returns-in-Ok-clause-differs
returns-in-Ok-clause-differs g c = λ maps e h stored due.
    subst (λ (z : Entry). GoesOn (first_difference (z ∷ stored) ((c.args.key.now, c.args.value.now) ∷ due)) (λ _. first_difference stored due) c.compare.result)
    (same_entry (c.in-Ok.entry.key.now, c.in-Ok.entry.value.now) e (sym (c.in-Ok.ensures.lent maps) ∙ h)) (c.compare.ensures.differs stored due)

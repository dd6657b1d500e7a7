use Rattle.std.proofs.Common.{sym, subst, Option, IfOk, IfErr}
use Rattle.mm_keeper.specs.Entries.{Entry}
use Rattle.mm_keeper_lists.specs.Found.{Tells, Blames}
use Rattle.mm_keeper_lists.proofs.looking.label_at.Goals as goal

pub returns-in-Ok-clause-value : goal.returns-in-Ok-clause-value
returns-in-Ok-clause-value g c = λ maps. subst (λ (z : Option Entry). IfOk c.label_in.result (λ o. Tells c.args.word.now z o)) (sym (c.in-Ok.ensures.lent maps)) (c.label_in.ensures.value c.in-Ok.entry.value.now)

pub returns-in-Ok-clause-blame : goal.returns-in-Ok-clause-blame
returns-in-Ok-clause-blame g c = λ maps. subst (λ (z : Option Entry). IfErr c.label_in.result (λ e. Blames c.args.word.now z e)) (sym (c.in-Ok.ensures.lent maps)) (c.label_in.ensures.blame c.in-Ok.entry.value.now)

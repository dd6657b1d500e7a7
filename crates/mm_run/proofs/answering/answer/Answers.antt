use Rattle.std.proofs.Common.{refl}
use Rattle.mm_tree.specs.declared.refusal.Refusal.TheVariants as refusal
use Rattle.mm_run.specs.Answers.{Answers}
use Rattle.mm_run.specs.Inside.Carrying.{said}
use Rattle.mm_run.specs.Steps.{Allows}
use Rattle.mm_run.proofs.Answered.{refuses}
use Rattle.mm_run.proofs.Carrying.{carried_still}
use Rattle.mm_run.proofs.answering.answer.Goals as goal

pub returns-in-None-clause-answer : goal.returns-in-None-clause-answer
unfolding Answers Allows
returns-in-None-clause-answer g c = λ f r.
    rw c.in-None.is (carried_still g.K.Keeper.has_maps g.K.Keeper.is_sound g.K.Keeper.seen g.K.Keeper.is_spent g.K.Keeper.moment g.K.Keeper.left_since g.met.K.Keeper.only_kept said _ _ f c.args.store.now.keeper _ _ c.args.store.now.sound r (refuses f refusal.Command) tt refl)

pub returns-in-Some-clause-answer : goal.returns-in-Some-clause-answer
unfolding Answers Allows
returns-in-Some-clause-answer g c = λ f r. rw c.in-Some.is (c.answer_line.ensures.answer f r)

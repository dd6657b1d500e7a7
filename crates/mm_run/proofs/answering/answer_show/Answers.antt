use Rattle.std.proofs.Common.{refl, inl, inr}
use Rattle.mm_host.specs.declared.damage.Fault.TheVariants as fault
use Rattle.mm_command.specs.Replies.{reply_text}
use Rattle.mm_tree.specs.declared.refusal.Refusal.TheVariants as refusal
use Rattle.mm_run.proofs.Answered.{refuses}
use Rattle.mm_run.proofs.Carrying.{carried_as, carried_still, handed_on, not_answered}
use Rattle.mm_run.proofs.answering.answer_show.Goals as goal

pub returns-in_err-read_label-clause-answer : goal.returns-in_err-read_label-clause-answer
returns-in_err-read_label-clause-answer g c = λ f r.
    carried_still g.K.Keeper.has_maps g.K.Keeper.is_sound g.K.Keeper.seen g.K.Keeper.is_spent g.K.Keeper.moment g.K.Keeper.left_since g.met.K.Keeper.only_kept reply_text _ _ f c.args.store.now.keeper _ _ c.args.store.now.sound r (not_answered c.from_residual.result _ _ c.from_residual.ensures.1) (handed_on c.from_residual.result fault.Memory tt c.from_residual.ensures.1) (inl refl)

pub returns-in-None-clause-answer : goal.returns-in-None-clause-answer
returns-in-None-clause-answer g c = λ f r.
    carried_still g.K.Keeper.has_maps g.K.Keeper.is_sound g.K.Keeper.seen g.K.Keeper.is_spent g.K.Keeper.moment g.K.Keeper.left_since g.met.K.Keeper.only_kept reply_text _ _ f c.args.store.now.keeper _ _ c.args.store.now.sound r (inr ((rw c.in-None.is at c.in_ok-read_label.ensures), refuses f refusal.Label)) tt (inl refl)

pub returns-in-Some-clause-answer : goal.returns-in-Some-clause-answer
returns-in-Some-clause-answer g c = λ f r.
    let label = (rw c.in-Some.is at c.in_ok-read_label.ensures) in
    carried_as g.K.Keeper.has_maps g.K.Keeper.is_sound g.K.Keeper.seen g.K.Keeper.is_spent g.K.Keeper.moment g.K.Keeper.left_since reply_text _ _ _ _ f c.args.store.now.keeper c.answer_found.new.store.keeper _ _ _
    (λ reply later p. inl (c.in-Some.label, label.0, label.1, p)) (λ n p. inr (c.in-Some.label, label.0, label.1, p)) (c.answer_found.ensures.answer f r)

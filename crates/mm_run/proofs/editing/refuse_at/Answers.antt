use Rattle.std.proofs.Common.{sym, arith}
use Rattle.mm_command.specs.Replies.{reply_text}
use Rattle.mm_run.specs.Inside.Edits.{look_cost, planned}
use Rattle.mm_run.proofs.Answered.{refuses_first, refuses_target}
use Rattle.mm_run.proofs.Carrying.{carried_read, handed_on, not_answered}
use Rattle.mm_run.proofs.editing.refuse_at.Goals as goal

pub returns-in-None-clause-answer : goal.returns-in-None-clause-answer
returns-in-None-clause-answer g c = λ options f r.
    let ground = c.refusal_at.ensures.ground in
    carried_read g.K.Keeper.has_maps g.K.Keeper.is_sound g.K.Keeper.seen g.K.Keeper.is_spent g.K.Keeper.moment g.K.Keeper.left_since g.met.K.Keeper.only_kept reply_text _ _ f c.args.store.now.keeper c.refusal_at.new.store.keeper _ _ _ c.args.store.now.sound r ground.maps.0 ground.same ground.any_moment
    (refuses_first (planned options c.args.edit.now f).target c.args.otherwise f (sym (rw c.in-None.is at (c.in_ok-refusal_at.ensures.value options f r.0)))) tt (look_cost c.args.edit.now f, omega arith, c.refusal_at.ensures.cost f r.0)

pub returns-in-Some-clause-answer : goal.returns-in-Some-clause-answer
returns-in-Some-clause-answer g c = λ options f r.
    let ground = c.refusal_at.ensures.ground in
    carried_read g.K.Keeper.has_maps g.K.Keeper.is_sound g.K.Keeper.seen g.K.Keeper.is_spent g.K.Keeper.moment g.K.Keeper.left_since g.met.K.Keeper.only_kept reply_text _ _ f c.args.store.now.keeper c.refusal_at.new.store.keeper _ _ _ c.args.store.now.sound r ground.maps.0 ground.same ground.any_moment
    (refuses_target (planned options c.args.edit.now f).target c.args.otherwise _ f (sym (rw c.in-Some.is at (c.in_ok-refusal_at.ensures.value options f r.0)))) tt (look_cost c.args.edit.now f, omega arith, c.refusal_at.ensures.cost f r.0)

pub returns-in_err-refusal_at-clause-answer : goal.returns-in_err-refusal_at-clause-answer
returns-in_err-refusal_at-clause-answer g c = λ options f r.
    let ground = c.refusal_at.ensures.ground in
    carried_read g.K.Keeper.has_maps g.K.Keeper.is_sound g.K.Keeper.seen g.K.Keeper.is_spent g.K.Keeper.moment g.K.Keeper.left_since g.met.K.Keeper.only_kept reply_text _ _ f c.args.store.now.keeper c.refusal_at.new.store.keeper _ _ _ c.args.store.now.sound r ground.maps.0 ground.same ground.any_moment
    (not_answered c.from_residual.result _ _ c.from_residual.ensures.1) (handed_on c.from_residual.result c.in_err-refusal_at.field-0.0 (c.in_err-refusal_at.ensures.undamaged f r.0) c.from_residual.ensures.1)
    (look_cost c.args.edit.now f, omega arith, c.refusal_at.ensures.cost f r.0)

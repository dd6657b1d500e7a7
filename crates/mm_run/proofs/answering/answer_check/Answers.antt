use Rattle.std.proofs.Common.{ap, arith, length, refl}
use Rattle.mm_command.specs.Replies.{reply_text, verdict_text}
use Rattle.mm_run.specs.Steps.{check_cost}
use Rattle.mm_run.proofs.Carrying.{carried_read}
use Rattle.mm_run.proofs.answering.answer_check.Goals as goal

pub returns-in-Ok-clause-answer : goal.returns-in-Ok-clause-answer
returns-in-Ok-clause-answer g c = λ f r.
    let ground = c.check.ensures.ground in
    carried_read g.K.Keeper.has_maps g.K.Keeper.is_sound g.K.Keeper.seen g.K.Keeper.is_spent g.K.Keeper.moment g.K.Keeper.left_since g.met.K.Keeper.only_kept reply_text _ _ f c.args.store.now.keeper c.check.new.self.keeper _ _ _ c.args.store.now.sound r ground.maps.0 ground.same ground.any_moment
    (record { text = ap verdict_text (c.in-Ok.ensures.sound f r.0); same = refl }) tt (check_cost f, omega arith, omega (arith, c.check.ensures.cost r.0.0, ap length r.0.2))

pub returns-in-Err-clause-answer : goal.returns-in-Err-clause-answer
returns-in-Err-clause-answer g c = λ f r.
    let ground = c.check.ensures.ground in
    carried_read g.K.Keeper.has_maps g.K.Keeper.is_sound g.K.Keeper.seen g.K.Keeper.is_spent g.K.Keeper.moment g.K.Keeper.left_since g.met.K.Keeper.only_kept reply_text _ _ f c.args.store.now.keeper c.check.new.self.keeper _ _ _ c.args.store.now.sound r ground.maps.0 ground.same ground.any_moment
    tt (c.in-Err.ensures.undamaged r.0.0) (check_cost f, omega arith, omega (arith, c.check.ensures.cost r.0.0, ap length r.0.2))

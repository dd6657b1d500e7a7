use Rattle.std.proofs.Common.{arith}
use Rattle.mm_command.specs.Replies.{reply_text}
use Rattle.mm_tree.specs.Edits.{found}
use Rattle.mm_run.specs.Steps.{node_cost}
use Rattle.mm_run.proofs.Answered.{found_absent, found_shown, show_within}
use Rattle.mm_run.proofs.Carrying.{carried_read}
use Rattle.mm_run.proofs.answering.answer_found.Goals as goal

pub returns-in-Ok-clause-answer : goal.returns-in-Ok-clause-answer
returns-in-Ok-clause-answer g c = λ f r.
    let x = c.args.label.now in
    let ground = c.show.ensures.ground in
    carried_read g.K.Keeper.has_maps g.K.Keeper.is_sound g.K.Keeper.seen g.K.Keeper.is_spent g.K.Keeper.moment g.K.Keeper.left_since g.met.K.Keeper.only_kept reply_text _ _ f c.args.store.now.keeper c.show.new.self.keeper _ _ _ c.args.store.now.sound r ground.maps.0 ground.same ground.any_moment
    (found_shown (found x f) _ f (c.in-Ok.ensures.shown f r.0)) tt (node_cost x f, omega arith, show_within x f _ _ _ r.0.2 (c.show.ensures.cost r.0.0))

pub returns-in-Err-Refused-clause-answer : goal.returns-in-Err-Refused-clause-answer
returns-in-Err-Refused-clause-answer g c = λ f r.
    let x = c.args.label.now in
    let ground = c.show.ensures.ground in
    carried_read g.K.Keeper.has_maps g.K.Keeper.is_sound g.K.Keeper.seen g.K.Keeper.is_spent g.K.Keeper.moment g.K.Keeper.left_since g.met.K.Keeper.only_kept reply_text _ _ f c.args.store.now.keeper c.show.new.self.keeper _ _ _ c.args.store.now.sound r ground.maps.0 ground.same ground.any_moment
    (found_absent (found x f) _ f (rw c.in-Err-Refused.field-0-is at (c.in-Err-Refused.ensures.absent f r.0)).0 (rw c.in-Err-Refused.field-0-is at (c.in-Err-Refused.ensures.absent f r.0)).1) tt (node_cost x f, omega arith, show_within x f _ _ _ r.0.2 (c.show.ensures.cost r.0.0))

pub returns-in-Err-Fault-clause-answer : goal.returns-in-Err-Fault-clause-answer
returns-in-Err-Fault-clause-answer g c = λ f r.
    let x = c.args.label.now in
    let ground = c.show.ensures.ground in
    carried_read g.K.Keeper.has_maps g.K.Keeper.is_sound g.K.Keeper.seen g.K.Keeper.is_spent g.K.Keeper.moment g.K.Keeper.left_since g.met.K.Keeper.only_kept reply_text _ _ f c.args.store.now.keeper c.show.new.self.keeper _ _ _ c.args.store.now.sound r ground.maps.0 ground.same ground.any_moment
    tt (rw c.in-Err-Fault.field-0-is at (c.in-Err-Fault.ensures.absent f r.0)) (node_cost x f, omega arith, show_within x f _ _ _ r.0.2 (c.show.ensures.cost r.0.0))

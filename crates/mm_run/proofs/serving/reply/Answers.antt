use Rattle.std.proofs.Common.{refl, sym}
use Rattle.mm_run.specs.Inside.Carrying.{said}
use Rattle.mm_run.proofs.Carrying.{stands_along}
use Rattle.mm_run.proofs.Finishing.{broke_as, finished, leaves_now, moment_finished, not_spent, sink-still, stands_as, store_answers}
use Rattle.mm_run.proofs.serving.reply.Goals as goal

pub returns-in-Err-clause-answer : goal.returns-in-Err-clause-answer
returns-in-Err-clause-answer g c = λ f r.
    broke_as g.K.Keeper.has_maps g.K.Keeper.seen g.K.Keeper.moment g.K.Keeper.left_since c.args.options.now c.args.command f _ _ c.status_at.result c.in-Err.fault c.answer.new.store.keeper c.status_at.ensures.is
    (not_spent _ c.in-Err.fault c.requires.unspent c.in-Err.ensures.stands.spent) (c.in-Err.ensures.answer f r).undamaged refl

pub returns-in-Err-clause-any_moment : goal.returns-in-Err-clause-any_moment
returns-in-Err-clause-any_moment g c = λ f r. (c.in-Err.ensures.answer f r).any_moment c.requires.unspent

pub returns-in-Err-clause-steps : goal.returns-in-Err-clause-steps
returns-in-Err-clause-steps g c = λ f r. (c.in-Err.ensures.answer f r).steps

pub returns-in-Err-clause-stands : goal.returns-in-Err-clause-stands
returns-in-Err-clause-stands g c = stands_as g.K.Keeper.over g.K.Keeper.has_maps g.K.Keeper.is_spent g.K.Keeper.fault_count c.args.store.now.keeper c.answer.new.store.keeper c.status_at.result c.in-Err.fault c.status_at.ensures.is
    (not_spent _ c.in-Err.fault c.requires.unspent c.in-Err.ensures.stands.spent) c.in-Err.ensures.stands

pub returns-in-Err-clause-sink_faults : goal.returns-in-Err-clause-sink_faults
returns-in-Err-clause-sink_faults g c = sym (sink-still c.status_at.result _ c.status_at.ensures.sort)

pub returns-in-Err-clause-sort : goal.returns-in-Err-clause-sort
returns-in-Err-clause-sort g c = store_answers c.status_at.result c.status_at.ensures.sort

pub returns-in-Ok-clause-answer : goal.returns-in-Ok-clause-answer
returns-in-Ok-clause-answer g c = λ f r.
    let h = (c.in-Ok.ensures.answer f r).answered in
    let maps = c.finish.ensures.stands.maps.0 h.2.0.0 in
    finished g.K.Keeper.has_maps g.K.Keeper.seen g.K.Keeper.moment g.K.Keeper.left_since c.args.options.now c.args.command f _ _ c.finish.result (said c.in-Ok.reply) h.0 c.answer.new.store.keeper c.finish.new.store.keeper h.1 h.2
    c.finish.ensures.stands.maps.0 c.finish.ensures.same
    (leaves_now g.K.Keeper.moment g.K.Keeper.left_since c.answer.new.store.keeper c.finish.new.store.keeper h.0 (λ t m le left. g.met.K.Keeper.counts_now c.finish.new.store.keeper t m maps le left) (c.finish.ensures.any_moment h.0 h.2))
    (c.finish.ensures.told h.2.0.0)

pub returns-in-Ok-clause-any_moment : goal.returns-in-Ok-clause-any_moment
returns-in-Ok-clause-any_moment g c = λ f r.
    let h = (c.in-Ok.ensures.answer f r).answered in
    moment_finished g.K.Keeper.moment g.K.Keeper.left_since c.args.options.now c.args.command f c.args.store.now.keeper c.answer.new.store.keeper c.finish.new.store.keeper (said c.in-Ok.reply) h.0 h.1
    ((c.answer.ensures.answer f r).any_moment c.requires.unspent) (c.finish.ensures.any_moment h.0 h.2)

pub returns-in-Ok-clause-steps : goal.returns-in-Ok-clause-steps
returns-in-Ok-clause-steps g c = λ f r. (c.answer.ensures.answer f r).steps

pub returns-in-Ok-clause-stands : goal.returns-in-Ok-clause-stands
returns-in-Ok-clause-stands g c = stands_along g.K.Keeper.over g.K.Keeper.has_maps g.K.Keeper.is_spent g.K.Keeper.fault_count c.args.store.now.keeper c.answer.new.store.keeper c.finish.new.store.keeper _ c.in-Ok.ensures.stands c.finish.ensures.stands

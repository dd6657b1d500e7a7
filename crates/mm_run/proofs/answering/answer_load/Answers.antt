use Rattle.std.proofs.Common.{sym}
use Rattle.mm_command.specs.Replies.{reply_text}
use Rattle.mm_run.specs.Answers.{AnswersBytes, planned_load, taken}
use Rattle.mm_run.specs.Steps.{AllowsBytes}
use Rattle.mm_run.proofs.Answered.{taken_allows, taken_as, taken_refused, taken_refused_allows}
use Rattle.mm_run.proofs.Carrying.{carried_as, carried_still}
use Rattle.mm_run.proofs.answering.answer_load.Goals as goal

pub returns-in-Err-clause-answer : goal.returns-in-Err-clause-answer
returns-in-Err-clause-answer g c = λ f r.
    let t = taken c.args.options.now c.args.payload in
    carried_still g.K.Keeper.has_maps g.K.Keeper.is_sound g.K.Keeper.seen g.K.Keeper.is_spent g.K.Keeper.moment g.K.Keeper.left_since g.met.K.Keeper.only_kept reply_text _ _ f c.args.store.now.keeper _ _ c.args.store.now.sound r (taken_refused t c.in-Err.refusal _ f (sym c.in-Err.ensures)) tt (taken_refused_allows t c.in-Err.refusal _ (sym c.in-Err.ensures))

pub returns-in-Ok-clause-answer : goal.returns-in-Ok-clause-answer
returns-in-Ok-clause-answer g c = λ f r.
    let t = taken c.args.options.now c.args.payload in
    carried_as g.K.Keeper.has_maps g.K.Keeper.is_sound g.K.Keeper.seen g.K.Keeper.is_spent g.K.Keeper.moment g.K.Keeper.left_since reply_text _ _ _ _ f c.args.store.now.keeper c.answer_bytes.new.store.keeper _ _ _
    (λ reply later p. taken_as t c.in-Ok.bytes (λ bytes. AnswersBytes (planned_load c.args.options.now f) bytes f reply later) f reply later (sym c.in-Ok.ensures) p)
    (λ n p. taken_allows t c.in-Ok.bytes (λ bytes. AllowsBytes 0 (planned_load c.args.options.now f) bytes f n) n (sym c.in-Ok.ensures) p)
    (c.answer_bytes.ensures.answer c.args.options.now c.requires.limit f r)

use Rattle.std.proofs.Common.{sym, refl, inl, inr}
use Rattle.mm_host.specs.declared.damage.Fault.TheVariants as fault
use Rattle.mm_command.specs.Replies.{refused_text, reply_text}
use Rattle.mm_run.specs.Answers.{AnswersBytes, AnswersLabel, Refuses, planned_insert, taken}
use Rattle.mm_run.specs.Steps.{AllowsBytes, AllowsLabel, node_cost}
use Rattle.mm_tree.specs.declared.refusal.Refusal.TheVariants as refusal
use Rattle.mm_run.proofs.Answered.{refuses, taken_allows, taken_as, taken_refused, taken_refused_allows}
use Rattle.mm_run.proofs.Carrying.{carried_as, carried_still, handed_on, not_answered}
use Rattle.mm_run.proofs.answering.answer_insert.Goals as goal

pub returns-in-Err-clause-answer : goal.returns-in-Err-clause-answer
returns-in-Err-clause-answer g c = λ f r.
    let t = taken c.args.options.now c.args.payload in
    carried_still g.K.Keeper.has_maps g.K.Keeper.is_sound g.K.Keeper.seen g.K.Keeper.is_spent g.K.Keeper.moment g.K.Keeper.left_since g.met.K.Keeper.only_kept reply_text _ _ f c.args.store.now.keeper _ _ c.args.store.now.sound r (taken_refused t c.in-Err.refusal _ f (sym c.in-Err.ensures)) tt (taken_refused_allows t c.in-Err.refusal _ (sym c.in-Err.ensures))

pub returns-in_err-read_label-in-Ok-clause-answer : goal.returns-in_err-read_label-in-Ok-clause-answer
returns-in_err-read_label-in-Ok-clause-answer g c = λ f r.
    let t = taken c.args.options.now c.args.payload in
    carried_still g.K.Keeper.has_maps g.K.Keeper.is_sound g.K.Keeper.seen g.K.Keeper.is_spent g.K.Keeper.moment g.K.Keeper.left_since g.met.K.Keeper.only_kept reply_text _ _ f c.args.store.now.keeper _ _ c.args.store.now.sound r (not_answered c.from_residual.result _ _ c.from_residual.ensures.1) (handed_on c.from_residual.result fault.Memory tt c.from_residual.ensures.1) (taken_allows t c.in-Ok.bytes (λ bytes. AllowsLabel c.args.text.now (λ x. AllowsBytes (node_cost x f) (planned_insert c.args.options.now c.args.place x f) bytes f 0) 0) 0 (sym c.in-Ok.ensures) (inl refl))

pub returns-in-None-clause-answer : goal.returns-in-None-clause-answer
returns-in-None-clause-answer g c = λ f r.
    let t = taken c.args.options.now c.args.payload in
    carried_still g.K.Keeper.has_maps g.K.Keeper.is_sound g.K.Keeper.seen g.K.Keeper.is_spent g.K.Keeper.moment g.K.Keeper.left_since g.met.K.Keeper.only_kept reply_text _ _ f c.args.store.now.keeper _ _ c.args.store.now.sound r
    (taken_as t c.in-Ok.bytes (λ bytes. AnswersLabel c.args.text.now (λ x. AnswersBytes (planned_insert c.args.options.now c.args.place x f) bytes f (refused_text refusal.Label) f) (Refuses f refusal.Label (refused_text refusal.Label) f)) f (refused_text refusal.Label) f (sym c.in-Ok.ensures)
    (inr ((rw c.in-None.is at c.in_ok-read_label-in-Ok.ensures), refuses f refusal.Label)))
    tt
    (taken_allows t c.in-Ok.bytes (λ bytes. AllowsLabel c.args.text.now (λ x. AllowsBytes (node_cost x f) (planned_insert c.args.options.now c.args.place x f) bytes f 0) 0) 0 (sym c.in-Ok.ensures) (inl refl))

pub returns-in-Some-clause-answer : goal.returns-in-Some-clause-answer
returns-in-Some-clause-answer g c = λ f r.
    let t = taken c.args.options.now c.args.payload in
    let label = (rw c.in-Some.is at c.in_ok-read_label-in-Ok.ensures) in
    carried_as g.K.Keeper.has_maps g.K.Keeper.is_sound g.K.Keeper.seen g.K.Keeper.is_spent g.K.Keeper.moment g.K.Keeper.left_since reply_text _ _ _ _ f c.args.store.now.keeper c.answer_bytes.new.store.keeper _ _ _
    (λ reply later p. taken_as t c.in-Ok.bytes (λ bytes. AnswersLabel c.args.text.now (λ x. AnswersBytes (planned_insert c.args.options.now c.args.place x f) bytes f reply later) (Refuses f refusal.Label reply later)) f reply later (sym c.in-Ok.ensures)
    (inl (c.in-Some.target, label.0, label.1, p)))
    (λ n p. taken_allows t c.in-Ok.bytes (λ bytes. AllowsLabel c.args.text.now (λ x. AllowsBytes (node_cost x f) (planned_insert c.args.options.now c.args.place x f) bytes f n) n) n (sym c.in-Ok.ensures) (inr (c.in-Some.target, label.0, label.1, p)))
    (c.answer_bytes.ensures.answer c.args.options.now c.requires.limit f r)

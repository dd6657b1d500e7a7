use Rattle.std.proofs.Common.{◌≤◌, refl, inl, inr}
use Rattle.mm_host.specs.declared.damage.Fault.TheVariants as fault
use Rattle.mm_command.specs.Replies.{refused_text, reply_text, shown_count}
use Rattle.mm_tree.specs.Edits.{delete, delete_refusal, subtree_size}
use Rattle.mm_tree.specs.declared.refusal.Refusal.TheVariants as refusal
use Rattle.mm_run.specs.Answers.{AnswersEdit, AnswersLabel, Refuses}
use Rattle.mm_run.specs.Steps.{AllowsLabel, edit_cost, weighed}
use Rattle.mm_run.proofs.Answered.{locked, locked_allows, refuses, unlocked_allows, unlocked_as}
use Rattle.mm_run.proofs.Carrying.{carried_as, carried_still, handed_on, not_answered}
use Rattle.mm_run.proofs.answering.answer_delete.Goals as goal

pub returns-then-options-clause-answer : goal.returns-then-options-clause-answer
returns-then-options-clause-answer g c = λ f r.
    carried_still g.K.Keeper.has_maps g.K.Keeper.is_sound g.K.Keeper.seen g.K.Keeper.is_spent g.K.Keeper.moment g.K.Keeper.left_since g.met.K.Keeper.only_kept reply_text _ _ f c.args.store.now.keeper _ _ c.args.store.now.sound r (locked c.args.options.now.read_only _ f c.if-options.true) tt (locked_allows c.args.options.now.read_only _ c.if-options.true)

pub returns-in_err-read_label-clause-answer : goal.returns-in_err-read_label-clause-answer
returns-in_err-read_label-clause-answer g c = λ f r.
    carried_still g.K.Keeper.has_maps g.K.Keeper.is_sound g.K.Keeper.seen g.K.Keeper.is_spent g.K.Keeper.moment g.K.Keeper.left_since g.met.K.Keeper.only_kept reply_text _ _ f c.args.store.now.keeper _ _ c.args.store.now.sound r (not_answered c.from_residual.result _ _ c.from_residual.ensures.1) (handed_on c.from_residual.result fault.Memory tt c.from_residual.ensures.1) (unlocked_allows c.args.options.now.read_only _ 0 c.if-options.false (inl refl))

pub returns-in-None-clause-answer : goal.returns-in-None-clause-answer
returns-in-None-clause-answer g c = λ f r.
    carried_still g.K.Keeper.has_maps g.K.Keeper.is_sound g.K.Keeper.seen g.K.Keeper.is_spent g.K.Keeper.moment g.K.Keeper.left_since g.met.K.Keeper.only_kept reply_text _ _ f c.args.store.now.keeper _ _ c.args.store.now.sound r (unlocked_as c.args.options.now.read_only (AnswersLabel c.args.text.now (λ x. AnswersEdit (delete_refusal x f) x (shown_count (subtree_size x f)) (delete x f) f (refused_text refusal.Label) f) (Refuses f refusal.Label (refused_text refusal.Label) f)) f (refused_text refusal.Label) f c.if-options.false (inr ((rw c.in-None.is at c.in_ok-read_label.ensures), refuses f refusal.Label))) tt (unlocked_allows c.args.options.now.read_only _ 0 c.if-options.false (inl refl))

pub returns-in-Some-clause-answer : goal.returns-in-Some-clause-answer
returns-in-Some-clause-answer g c = λ f r.
    let label = (rw c.in-Some.is at c.in_ok-read_label.ensures) in
    let b = c.args.options.now.read_only in
    carried_as g.K.Keeper.has_maps g.K.Keeper.is_sound g.K.Keeper.seen g.K.Keeper.is_spent g.K.Keeper.moment g.K.Keeper.left_since reply_text _ _ _ _ f c.args.store.now.keeper c.apply.new.store.keeper _ _ _
    (λ reply later p. unlocked_as b (AnswersLabel c.args.text.now (λ x. AnswersEdit (delete_refusal x f) x (shown_count (subtree_size x f)) (delete x f) f reply later) (Refuses f refusal.Label reply later)) f reply later c.if-options.false (inl (c.in-Some.target, label.0, label.1, p)))
    (λ n p. unlocked_allows b (AllowsLabel c.args.text.now (λ x. n ≤ edit_cost f (weighed (delete_refusal x f) (delete x f) f)) n) n c.if-options.false (inr (c.in-Some.target, label.0, label.1, p)))
    (c.apply.ensures.answer f r)

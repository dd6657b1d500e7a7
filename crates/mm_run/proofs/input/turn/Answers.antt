use Rattle.std.proofs.Common.{ap, ◌∙◌}
use Rattle.mm_run.specs.Turns.{rest_of}
use Rattle.mm_run.proofs.Inputs.{moment_left, turns_failed}
use Rattle.mm_run.proofs.input.turn.Goals as goal

pub returns-in-Ok-Answered-clause-any_moment : goal.returns-in-Ok-Answered-clause-any_moment
returns-in-Ok-Answered-clause-any_moment g c = λ f r bytes known.
    moment_left g.K.Keeper.moment g.K.Keeper.left_since c.args.options.now f _ _ bytes c.args.store.now.keeper c.next_turn.new.store.keeper c.input.view_is c.if-input.false
    (c.next_turn.ensures.any_moment f r bytes (ap (rest_of g.S.Source.left) c.input.view_is ∙ known))

pub returns-in-Ok-Last-clause-any_moment : goal.returns-in-Ok-Last-clause-any_moment
returns-in-Ok-Last-clause-any_moment g c = λ f r bytes known.
    moment_left g.K.Keeper.moment g.K.Keeper.left_since c.args.options.now f _ _ bytes c.args.store.now.keeper c.next_turn.new.store.keeper c.input.view_is c.if-input.false
    (c.next_turn.ensures.any_moment f r bytes (ap (rest_of g.S.Source.left) c.input.view_is ∙ known))

pub returns-in-Ok-Ended-clause-any_moment : goal.returns-in-Ok-Ended-clause-any_moment
returns-in-Ok-Ended-clause-any_moment g c = λ f r bytes known.
    moment_left g.K.Keeper.moment g.K.Keeper.left_since c.args.options.now f _ _ bytes c.args.store.now.keeper c.next_turn.new.store.keeper c.input.view_is c.if-input.false
    (c.next_turn.ensures.any_moment f r bytes (ap (rest_of g.S.Source.left) c.input.view_is ∙ known))

pub returns-in-Err-clause-turn : goal.returns-in-Err-clause-turn
returns-in-Err-clause-turn g c = λ f r.
    turns_failed g.K.Keeper.has_maps g.K.Keeper.seen g.K.Keeper.moment g.K.Keeper.left_since c.args.options.now g.S.Source.left _ _ _ f _ _ _ c.next_turn.new.store.keeper c.in-Err.status
    c.input.view_is c.if-input.false c.if-input.false (c.in-Err.ensures.turn f r)

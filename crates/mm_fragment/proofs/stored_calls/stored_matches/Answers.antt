use Rattle.std.proofs.Common.{sym, subst, IfErr}
use Rattle.mm_image.specs.Ground.{HoldsImage}
use Rattle.mm_lists.specs.Causes.{BlamesOnly}
use Rattle.mm_keeper_lists.specs.Found.{IsDamageOf}
use Rattle.mm_keeper_lists.specs.Facts.Blaming.{blamed_before}
use Rattle.mm_fragment.proofs.Naming.{lists_below}
use Rattle.mm_fragment.proofs.stored_calls.stored_matches.Goals as goal

pub returns-clause-value : goal.returns-clause-value
returns-clause-value g c = λ f t h k. c.matches.ensures.value f t (subst (λ z. HoldsImage g.K.Keeper.has_maps g.K.Keeper.seen z f) (sym c.new-lists.ensures.same) h) k

pub returns-clause-blame : goal.returns-clause-blame
returns-clause-blame g c = λ maps.
    let same = c.new-lists.ensures.same in
    let told = blamed_before g.K.Keeper.over g.K.Keeper.has_maps g.K.Keeper.tells g.K.Keeper.seen g.K.Keeper.written g.K.Keeper.changes g.K.Keeper.moment g.K.Keeper.left_since
    c.new-lists.result.keeper.now c.matches.new.lists.keeper.now c.matches.ensures.leaves.ground.1 c.matches.result c.matches.ensures.leaves.blame (subst g.K.Keeper.has_maps (sym same) maps) in
    lists_below c.matches.result (g.K.Keeper.seen c.args.keeper.now).now c.args.root.now.label.now (subst (λ z. IfErr c.matches.result (BlamesOnly (IsDamageOf (g.K.Keeper.seen z).now))) same told)

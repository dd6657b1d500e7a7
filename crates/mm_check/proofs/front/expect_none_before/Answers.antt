use Rattle.mm_check.proofs.Fronting.{fronts_at, none_first}
use Rattle.mm_check.proofs.front.expect_none_before.Goals as goal

pub returns-in-Some-clause-fronts : goal.returns-in-Some-clause-fronts
returns-in-Some-clause-fronts g c = λ maps.
    fronts_at (g.K.Keeper.seen c.args.keeper.now) (g.K.Keeper.seen c.up.new.self) c.in_ok-spot.field-0 c.in-Some.spot c.expect_not_before.result (c.up.ensures.same maps) c.in-Some.is (c.in_ok-spot.ensures.found maps) (c.expect_not_before.ensures.before (c.up.ensures.keeps.maps.0 maps))

pub returns-in-None-clause-fronts : goal.returns-in-None-clause-fronts
returns-in-None-clause-fronts g c = λ maps. none_first (g.K.Keeper.seen c.args.keeper.now) c.in_ok-spot.field-0 c.in-None.is (c.in_ok-spot.ensures.found maps)

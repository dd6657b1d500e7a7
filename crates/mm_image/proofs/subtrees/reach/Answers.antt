use Rattle.std.proofs.lemmas.Result.{err_from_is_err_and}
use Rattle.std.proofs.Common.{◌∙◌}
use Rattle.mm_image.specs.Facts.Grounds.{ground_along}
use Rattle.mm_image.proofs.Reaching.{reach_err}
use Rattle.mm_image.proofs.Spots.{spot_stands}
use Rattle.mm_image.proofs.subtrees.reach.Goals as goal

pub from_first-requires-clause-stands : goal.from_first-requires-clause-stands
from_first-requires-clause-stands g c = λ later.
    let maps = c.get.ensures.keeps.maps.1 later in
    spot_stands (g.K.Keeper.seen c.args.keeper.now) (g.K.Keeper.seen c.get.new.self) c.in-Some.spot c.in_ok-spot.field-0 c.as_slice.result.now (c.get.ensures.same maps) c.in-Some.is (c.in_ok-spot.ensures.found maps)

pub returns-in_err-from_first-in-Some-clause-reaches : goal.returns-in_err-from_first-in-Some-clause-reaches
returns-in_err-from_first-in-Some-clause-reaches g c = λ maps.
    let later = c.get.ensures.keeps.maps.0 maps in
    let p = err_from_is_err_and c.from_residual-in_err-from_first-in-Some.result c.from_residual-in_err-from_first-in-Some.ensures.1 in
    rw (p.1, p.2) (reach_err c.args.label.now (g.K.Keeper.seen c.args.keeper.now) (g.K.Keeper.seen c.get.new.self) c.in-Some.spot c.in_ok-spot.field-0 c.as_slice.result.now c.args.steps.now c.get.new.steps c.from_first.new.steps
    c.in_err-from_first-in-Some.field-0.0 (g.met.K.Keeper.sorted c.args.keeper.now c.requires maps).rises (c.get.ensures.same maps) c.in-Some.is (c.as_slice.ensures ∙ c.in_ok-key.ensures) (c.in_ok-spot.ensures.found maps) c.get.ensures.step
    (c.in_err-from_first-in-Some.ensures.damaged later) (c.from_first.ensures.cost later))

pub returns-in_ok-from_first-in-Some-clause-ground : goal.returns-in_ok-from_first-in-Some-clause-ground
returns-in_ok-from_first-in-Some-clause-ground g c =
    ground_along g.K.Keeper.over g.K.Keeper.has_maps g.K.Keeper.tells g.K.Keeper.seen g.K.Keeper.written g.K.Keeper.changes g.K.Keeper.moment g.K.Keeper.left_since c.args.keeper.now c.get.new.self c.from_first.new.keeper g.met.K.Keeper.counts_now
    (record { device = c.get.ensures.keeps.device; maps = c.get.ensures.keeps.maps; same = c.get.ensures.same; quiet = c.get.ensures.quiet; any_moment = c.get.ensures.any_moment })
    c.from_first.ensures.ground

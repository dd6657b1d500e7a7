use Rattle.std.proofs.Common.{◌<◌, length, get_or, [], sym, ◌∙◌, subst}
use Rattle.mm_keeper.specs.Facts.Blocked.{place-in_range}
use Rattle.mm_keeper.proofs.sorted_map.SortedMap.after.Goals as goal

pub spot_after-requires-clause-block : goal.spot_after-requires-clause-block
spot_after-requires-clause-block c =
    let spot = c.args.spot in
    let e = c.as_slice.ensures.value ∙ c.self.view_is in
    subst (λ t. spot.block < length t) (sym e) (place-in_range c.args.self.now spot.block spot.index c.requires).0

pub spot_after-requires-clause-index : goal.spot_after-requires-clause-index
spot_after-requires-clause-index c =
    let spot = c.args.spot in
    let e = c.as_slice.ensures.value ∙ c.self.view_is in
    subst (λ t. spot.index < length (get_or t spot.block [])) (sym e) (place-in_range c.args.self.now spot.block spot.index c.requires).1

use Rattle.std.proofs.Common.{◌≡◌, ◌<◌, ◌≤◌, length, get_or, [], sym, ◌∙◌, subst, arith, inr, ◌⊎◌}
use Rattle.mm_keeper.specs.Facts.Blocked.{place-in_range}
use Rattle.mm_keeper.proofs.sorted_map.SortedMap.before.Goals as goal

pub spot_before-requires-clause-block : goal.spot_before-requires-clause-block
spot_before-requires-clause-block c =
    let spot = c.args.spot in
    let e = c.as_slice.ensures.value ∙ c.self.view_is in
    subst (λ t. spot.block ≤ length t) (sym e) (let r = (place-in_range c.args.self.now spot.block spot.index c.requires) in omega (arith, r.0))

pub spot_before-requires-clause-index : goal.spot_before-requires-clause-index
spot_before-requires-clause-index c =
    let spot = c.args.spot in
    let e = c.as_slice.ensures.value ∙ c.self.view_is in
    subst (λ t. (spot.index ≡ 0) ⊎ (spot.index < length (get_or t spot.block []))) (sym e) (inr (place-in_range c.args.self.now spot.block spot.index c.requires).1)

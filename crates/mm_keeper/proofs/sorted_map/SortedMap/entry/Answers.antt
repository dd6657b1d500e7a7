use Rattle.std.proofs.Common.{◌<◌, length, get_or, [], sym, ◌∙◌, subst}
use Rattle.mm_keeper.specs.Facts.Blocked.{place-in_range}
use Rattle.mm_keeper.proofs.sorted_map.SortedMap.entry.Goals as goal

pub entry_at-requires-clause-block : goal.entry_at-requires-clause-block
entry_at-requires-clause-block c =
    let spot = c.args.spot in
    let e = c.as_slice.ensures.value ∙ c.self.view_is in
    subst (λ t. spot.block < length t) (sym e) (place-in_range c.args.self.now spot.block spot.index c.requires).0

pub entry_at-requires-clause-index : goal.entry_at-requires-clause-index
entry_at-requires-clause-index c =
    let spot = c.args.spot in
    let e = c.as_slice.ensures.value ∙ c.self.view_is in
    subst (λ t. spot.index < length (get_or t spot.block [])) (sym e) (place-in_range c.args.self.now spot.block spot.index c.requires).1

use Rattle.std.proofs.Common.{sym, ◌∙◌}
use Rattle.mm_keeper.specs.Blocks.{joined}
use Rattle.mm_keeper.specs.Facts.Spots.{spot-rank, last-some, last-before, spot-index}
use Rattle.mm_keeper.proofs.sorted_map.find_down.Goals as goal

pub returns-then-found : goal.returns-then-found
returns-then-found c =
    let bs = c.args.blocks.now in
    let k = c.args.key.now in
    let l = c.locate-found.ensures in
    let spot = c.locate-found.result.0 in
    last-some (joined bs) k _ (spot-rank k bs spot.block spot.index l.at c.requires.some l.within l.index) (sym l.has ∙ c.if-found.true)

pub spot_before-requires-clause-index : goal.spot_before-requires-clause-index
spot_before-requires-clause-index c =
    let l = c.locate-found.ensures in
    let spot = c.locate-found.result.0 in
    spot-index c.args.key.now c.args.blocks.now spot.block spot.index l.at l.index

pub returns-else-found : goal.returns-else-found
returns-else-found c =
    let bs = c.args.blocks.now in
    let k = c.args.key.now in
    let l = c.locate-found.ensures in
    let spot = c.locate-found.result.0 in
    c.spot_before.ensures ∙ last-before (joined bs) k _ (spot-rank k bs spot.block spot.index l.at c.requires.some l.within l.index) (sym l.has ∙ c.if-found.false)

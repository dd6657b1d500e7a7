use Rattle.std.proofs.Common.{sym, ◌∙◌}
use Rattle.mm_keeper.specs.Blocks.{joined}
use Rattle.mm_keeper.specs.Facts.Spots.{spot-rank, index-some}
use Rattle.mm_keeper.proofs.sorted_map.find.Goals as goal

pub returns-then-found : goal.returns-then-found
returns-then-found c =
    let bs = c.args.blocks.now in
    let k = c.args.key.now in
    let l = c.locate-found.ensures in
    let spot = c.locate-found.result.0 in
    index-some (joined bs) k _ (spot-rank k bs spot.block spot.index l.at c.requires.some l.within l.index) (sym l.has ∙ c.if-found.true)

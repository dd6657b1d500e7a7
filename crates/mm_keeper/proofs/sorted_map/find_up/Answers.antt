use Rattle.std.proofs.Common.{arith}
use Rattle.mm_keeper.specs.Facts.Spots.{up-in, up-none}
use Rattle.mm_keeper.proofs.sorted_map.find_up.Goals as goal

pub returns-then-spot-blocks : goal.returns-then-spot-blocks
returns-then-spot-blocks c =
    let l = c.locate.ensures in
    let spot = c.locate.result.0 in
    up-in c.args.key.now c.args.blocks.now spot.block spot.index l.at c.requires.some c.if-spot-blocks.true l.index

pub returns-else-spot-blocks : goal.returns-else-spot-blocks
returns-else-spot-blocks c = up-none c.args.key.now c.args.blocks.now c.locate.result.0.block c.locate.ensures.at (omega arith)

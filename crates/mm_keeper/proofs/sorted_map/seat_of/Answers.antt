use Rattle.std.proofs.Common.{arith}
use Rattle.mm_keeper.specs.Facts.Blocked.{last_seat}
use Rattle.mm_keeper.proofs.sorted_map.seat_of.Goals as goal

pub returns-then-at-blocks-clause-front : goal.returns-then-at-blocks-clause-front
returns-then-at-blocks-clause-front c = (last_seat c.args.key.now c.args.blocks.now c.block_of-at.result c.block_of-at.ensures.at (omega arith)).0

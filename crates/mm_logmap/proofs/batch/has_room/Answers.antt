use Rattle.std.proofs.Common.{arith}
use Rattle.mm_keeper.specs.Blocks.{joined}
use Rattle.mm_logmap.proofs.Fitting.{room}
use Rattle.mm_logmap.proofs.batch.has_room.Goals as goal

pub returns : goal.returns
returns c = λ yes. room c.args.key.now c.args.value.now (joined c.args.map.now) (omega (arith, c.if-weight-more.false, c.weight.ensures))

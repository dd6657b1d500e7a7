use Rattle.std.proofs.Common.{◌*◌}
use Rattle.mm_check.proofs.Judging.{piece_taken}
use Rattle.mm_check.proofs.pieces.piece_of.Goals as goal

pub returns : goal.returns
returns c = piece_taken c.args.content.now (1000 * c.args.number) c.min.result 1000 c.min.ensures

use Rattle.std.proofs.Common.{◌≡◌, ◌++◌, drop}
use Rattle.mm_image.specs.Inside.Cutting.{join}
use Rattle.mm_image.proofs.gathering.joined.Given as goal

abbrev pub invariant-loop-piece : goal.invariant-loop-piece
invariant-loop-piece l = l.bytes.items ++ join (drop l.piece-index l.pieces) ≡ join l.pieces

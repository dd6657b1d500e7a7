use Rattle.std.proofs.Common.{map, drop}
use Rattle.mm_label.proofs.Texts.{FoundSoFar}
use Rattle.mm_label.proofs.decimal.numbers.Given as goal

abbrev pub invariant-loop-piece : goal.invariant-loop-piece
invariant-loop-piece l = FoundSoFar (map (λ piece. piece.now) l.pieces) (map (λ piece. piece.now) (drop l.piece-index l.pieces)) l.found.items

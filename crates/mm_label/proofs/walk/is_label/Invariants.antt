use Rattle.std.proofs.Common.{length}
use Rattle.mm_label.proofs.HeldFacts.{SpelledSoFar}
use Rattle.mm_label.proofs.walk.is_label.Given as goal

abbrev pub invariant-loop-rest : goal.invariant-loop-rest
invariant-loop-rest l = SpelledSoFar l.bytes l.rest l.odd

abbrev pub decreases-loop-rest : goal.decreases-loop-rest
decreases-loop-rest l = length l.rest

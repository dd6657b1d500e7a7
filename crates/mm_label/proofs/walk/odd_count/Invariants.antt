use Rattle.std.proofs.Common.{length}
use Rattle.mm_label.proofs.HeldFacts.{Counted}
use Rattle.mm_label.proofs.walk.odd_count.Given as goal

abbrev pub invariant-loop-c : goal.invariant-loop-c
invariant-loop-c l = Counted l.bytes l.rest l.count

abbrev pub decreases-loop-c : goal.decreases-loop-c
decreases-loop-c l = length l.rest

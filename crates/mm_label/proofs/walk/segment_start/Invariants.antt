use Rattle.std.proofs.Common.{length}
use Rattle.mm_label.proofs.HeldFacts.{Cutting}
use Rattle.mm_label.proofs.walk.segment_start.Given as goal

abbrev pub invariant-loop-c : goal.invariant-loop-c
invariant-loop-c l = Cutting l.bytes l.rest l.cut l.odd

abbrev pub decreases-loop-c : goal.decreases-loop-c
decreases-loop-c l = length l.rest

use Rattle.std.proofs.Common.{length}
use Rattle.mm_label.proofs.Shared.{Shared}
use Rattle.mm_label.proofs.walk.common_length.Given as goal

abbrev pub invariant-loop-c : goal.invariant-loop-c
invariant-loop-c l = Shared l.a l.b l.left l.right l.length

abbrev pub decreases-loop-c : goal.decreases-loop-c
decreases-loop-c l = length l.left

use Rattle.std.proofs.Common.{length}
use Rattle.mm_fragment.proofs.Piles.{Stacking}
use Rattle.mm_fragment.proofs.rebuilding.stacked.Given as goal

abbrev pub invariant-loop-node : goal.invariant-loop-node
invariant-loop-node l = Stacking l.fn.nodes l.left l.stack

abbrev pub decreases-loop-node : goal.decreases-loop-node
decreases-loop-node l = length l.left

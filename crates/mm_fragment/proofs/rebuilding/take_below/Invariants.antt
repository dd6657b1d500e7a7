use Rattle.std.proofs.Common.{length}
use Rattle.mm_fragment.proofs.Piles.{Taking}
use Rattle.mm_fragment.proofs.rebuilding.take_below.Given as goal

abbrev pub invariant-loop-below : goal.invariant-loop-below
invariant-loop-below l = Taking l.x l.fn.stack l.stack l.below

abbrev pub decreases-loop-below : goal.decreases-loop-below
decreases-loop-below l = length l.stack

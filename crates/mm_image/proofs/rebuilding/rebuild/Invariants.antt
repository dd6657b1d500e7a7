use Rattle.std.proofs.Common.{length}
use Rattle.mm_image.proofs.Trees.{Piling}
use Rattle.mm_image.proofs.rebuilding.rebuild.Given as goal

abbrev pub invariant-loop-label : goal.invariant-loop-label
invariant-loop-label l = Piling l.fn.nodes.items l.left.items l.trees.items

abbrev pub decreases-loop-label : goal.decreases-loop-label
decreases-loop-label l = length l.left.items

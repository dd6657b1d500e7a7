use Rattle.std.proofs.Common.{length}
use Rattle.mm_tree.proofs.calls.+is_subset.Given as goal

abbrev pub decreases-is_subset : goal.decreases-is_subset
decreases-is_subset l = length l.row.now

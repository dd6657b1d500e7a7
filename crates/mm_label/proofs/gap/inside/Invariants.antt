use Rattle.std.proofs.Common.{◌≡◌, ◌++◌, IsTrue, length}
use Rattle.mm_label.specs.Label.{all_in_range}
use Rattle.mm_label.specs.Between.{inside}
use Rattle.mm_label.proofs.gap.inside.Given as goal

abbrev pub invariant-loop-left : goal.invariant-loop-left
invariant-loop-left l = IsTrue (all_in_range l.left) × IsTrue (all_in_range l.right) × (l.out.items ++ inside l.left l.right ≡ inside l.fn.left l.fn.right)

abbrev pub decreases-loop-left : goal.decreases-loop-left
decreases-loop-left l = length l.left

use Rattle.std.proofs.Common.{◌≡◌, ◌+◌, length}
use Rattle.mm_elca.specs.Inside.Stack.{Parted, Falling}
use Rattle.mm_elca.proofs.stack.take_below.Given as goal

abbrev pub invariant-loop-under : goal.invariant-loop-under
invariant-loop-under l = record {
  parted : Falling l.fn.stack → Parted l.x l.fn.stack l.stack l.under;
  count : length l.stack + length l.under ≡ length l.fn.stack;
}

abbrev pub decreases-loop-under : goal.decreases-loop-under
decreases-loop-under l = length l.stack

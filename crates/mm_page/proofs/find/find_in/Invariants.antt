use Rattle.std.proofs.Common.{◌≤◌, ◌-◌, length}
use Rattle.mm_keeper.specs.Entries.{rank}
use Rattle.mm_page.specs.Leaf.{entries_of}
use Rattle.mm_page.proofs.find.find_in.Given as goal

abbrev pub invariant-halving : goal.invariant-halving
invariant-halving l = record {
  low : l.low ≤ rank (entries_of l.bytes) l.key;
  high : rank (entries_of l.bytes) l.key ≤ l.high;
  most : l.high ≤ length (entries_of l.bytes);
}

abbrev pub decreases-halving : goal.decreases-halving
decreases-halving l = l.high - l.low

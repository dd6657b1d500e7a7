use Rattle.std.proofs.Common.{◌≡◌, ◌≤◌, ◌-◌, []}
use Rattle.mm_page.specs.Leaf.{count_of, start_of}
use Rattle.mm_page.specs.Rules.{fault_from}
use Rattle.mm_page.specs.Inside.Rows.{AreCells}
use Rattle.mm_page.proofs.rules.fault_in.Given as goal

abbrev pub invariant-walk : goal.invariant-walk
invariant-walk l = record {
  within : l.at ≤ 4096;
  fault : fault_from l.bytes (count_of l.bytes) 0 (start_of l.bytes) [] ≡ fault_from l.bytes (l.count - l.i) l.i l.at l.last;
  cells : AreCells l.bytes (l.count - l.i) l.i l.at l.last → AreCells l.bytes (count_of l.bytes) 0 (start_of l.bytes) [];
}

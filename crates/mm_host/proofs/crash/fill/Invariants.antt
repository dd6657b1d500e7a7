use Rattle.std.proofs.Common.{◌≡◌, ◌≤◌, ◌<◌, ◌-◌, ℕ, max, length, get_or}
use Rattle.std.specs.Prelude.{nat_le, nat_lt, if◌then◌else◌}
use Rattle.mm_host.proofs.crash.fill.Given as goal

abbrev pub invariant-loop-k : goal.invariant-loop-k
invariant-loop-k l = record {
  start : l.from ≤ l.k;
  stop : l.k ≤ max l.from l.end;
  long : length l.bytes.items ≡ length l.fn.bytes.items;
  each : (j : ℕ) → j < length l.fn.bytes.items → get_or l.bytes.items j 0 ≡ (if nat_le l.from j then (if nat_lt j l.k then l.byte else get_or l.fn.bytes.items j 0) else get_or l.fn.bytes.items j 0);
}

abbrev pub decreases-loop-k : goal.decreases-loop-k
decreases-loop-k l = l.end - l.k

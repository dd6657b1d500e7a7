use Rattle.std.proofs.Common.{◌≡◌, ◌≤◌, ℕ, false, length, drop}
use Rattle.mm_host.specs.MemoryDisk.{is_synced}
use Rattle.mm_host.proofs.crash.unsynced_from.Given as goal

abbrev pub invariant-loop-from : goal.invariant-loop-from
invariant-loop-from l = record {
  within : l.from ≤ length l.calls;
  behind : (k : ℕ) → l.from ≤ k → is_synced l.area (drop k l.calls) ≡ false;
}

abbrev pub decreases-loop-from : goal.decreases-loop-from
decreases-loop-from l = l.from

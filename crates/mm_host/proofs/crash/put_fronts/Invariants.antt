use Rattle.std.proofs.Common.{◌≡◌, ◌≤◌, ◌-◌, length, drop}
use Rattle.mm_host.specs.MemoryDisk.{unsynced, with_front}
use Rattle.mm_host.proofs.crash.put_fronts.Given as goal

abbrev pub invariant-loop-place : goal.invariant-loop-place
invariant-loop-place l = record {
  within : l.place ≤ length l.calls;
  same : with_front l.area l.rest (unsynced (drop l.place l.calls)) l.bytes.items ≡ with_front l.area l.count (unsynced l.calls) l.fn.bytes.items;
}

abbrev pub decreases-loop-place : goal.decreases-loop-place
decreases-loop-place l = length l.calls - l.place

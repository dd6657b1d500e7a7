use Rattle.std.proofs.Common.{◌≡◌, ◌≤◌, ◌<◌, ◌+◌, ◌^◌, ℕ, length}
use Rattle.mm_keeper.specs.Entries.{IsSorted}
use Rattle.mm_keeper.specs.Blocks.{joined}
use Rattle.mm_logmap.specs.Batches.{changes}
use Rattle.mm_logmap.specs.Inside.Spelled.{HasFitKeys}
use Rattle.mm_logmap.proofs.batch.replay.Given as goal

abbrev pub invariant-changes : goal.invariant-changes
invariant-changes l = record {
  near : l.place + length l.rest < 2 ^ 63;
  left : (n : ℕ) × (length l.rest ≤ n) × (changes (length l.fn.payload) l.fn.at l.fn.payload (joined l.fn.map) ≡ changes n l.place l.rest (joined l.map));
  sorted : IsSorted (joined l.fn.map) → IsSorted (joined l.map);
  fit : HasFitKeys (joined l.fn.map) → HasFitKeys (joined l.map);
}

abbrev pub decreases-changes : goal.decreases-changes
decreases-changes l = length l.rest

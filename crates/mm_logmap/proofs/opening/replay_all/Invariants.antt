use Rattle.std.proofs.Common.{◌≡◌, drop}
use Rattle.mm_keeper.specs.Entries.{IsSorted}
use Rattle.mm_keeper.specs.Blocks.{joined}
use Rattle.mm_logmap.specs.Log.{batches}
use Rattle.mm_logmap.specs.Inside.Spelled.{HasFitKeys}
use Rattle.mm_logmap.proofs.opening.replay_all.Given as goal

abbrev pub invariant-records : goal.invariant-records
invariant-records l = record {
  left : batches l.fn.found (joined l.fn.map) ≡ batches (drop l.record-index l.fn.found) (joined l.map);
  sorted : IsSorted (joined l.fn.map) → IsSorted (joined l.map);
  fit : HasFitKeys (joined l.fn.map) → HasFitKeys (joined l.map);
}

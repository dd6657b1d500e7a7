use Rattle.std.proofs.Common.{◌≡◌, false}
use Rattle.mm_run.specs.Turns.{reach_of}
use Rattle.mm_rows.proofs.case.turns.Given as goal

abbrev pub invariant-turns : goal.invariant-turns
invariant-turns g l = record {
  going : l.input.failed ≡ false;
  unspent : l.store.keeper.spent ≡ false;
  kept_limit : l.options.limit ≡ l.store.limit;
}

abbrev pub decreases-turns : goal.decreases-turns
decreases-turns g l = reach_of l.input

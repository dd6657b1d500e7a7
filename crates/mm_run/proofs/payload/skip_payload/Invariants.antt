use Rattle.std.proofs.Common.{◌≡◌}
use Rattle.mm_run.specs.Inside.Input.{rest, reach}
use Rattle.mm_run.proofs.Gathering.{Skips}
use Rattle.mm_run.proofs.payload.skip_payload.Given as goal

abbrev pub invariant-rows : goal.invariant-rows
invariant-rows g l = record {
  skips : Skips l.fn.form (rest (g.S.Source.left l.fn.source) l.fn.buffer) (rest (g.S.Source.left l.source) l.buffer) (reach l.fn.buffer) (reach l.buffer);
  same : l.form ≡ l.fn.form;
  count : g.S.Source.fault_count l.source ≡ g.S.Source.fault_count l.fn.source;
}

abbrev pub decreases-rows : goal.decreases-rows
decreases-rows g l = reach l.buffer

use Rattle.std.proofs.Common.{◌≡◌, false, None}
use Rattle.mm_tree.specs.Numbering.{Labelled}
use Rattle.mm_tree.specs.Trees.{Trees}
use Rattle.mm_run.specs.Inside.Carrying.{Stands}
use Rattle.mm_run.specs.Inside.Input.{rest, reach}
use Rattle.mm_run.specs.Inside.Turning.{Served}
use Rattle.mm_run.specs.Turns.{State}
use Rattle.mm_run.specs.Stores.{Rests}
use Rattle.mm_run.specs.declared.status.Status.{Status}
use Rattle.mm_run.proofs.serving.serve.Given as goal

abbrev pub invariant-turns : goal.invariant-turns
invariant-turns g l = record {
  goes_on : (f : Trees Labelled) → Rests g.K.Keeper.has_maps g.K.Keeper.seen l.fn.store.keeper f → (now : Trees Labelled) × Rests g.K.Keeper.has_maps g.K.Keeper.seen l.store.keeper now × ((end : State) (s : Status)
      → Served l.options (record { rest = rest (g.S.Source.left l.source) l.buffer; reach = reach l.buffer; written = g.W.Sink.written l.sink; forest = now; steps = l.steps }) end s
      → Served l.options (record { rest = rest (g.S.Source.left l.fn.source) l.fn.buffer; reach = reach l.fn.buffer; written = g.W.Sink.written l.fn.sink; forest = f; steps = l.fn.steps }) end s);
  stands : Stands g.K.Keeper.over g.K.Keeper.has_maps g.K.Keeper.is_spent g.K.Keeper.fault_count l.fn.store.keeper l.store.keeper None;
  unspent : g.K.Keeper.is_spent l.store.keeper ≡ false;
  kept_limit : l.store.limit ≡ l.fn.store.limit;
  source_faults : g.S.Source.fault_count l.source ≡ g.S.Source.fault_count l.fn.source;
  sink_faults : g.W.Sink.fault_count l.sink ≡ g.W.Sink.fault_count l.fn.sink;
}

abbrev pub decreases-turns : goal.decreases-turns
decreases-turns g l = reach l.buffer

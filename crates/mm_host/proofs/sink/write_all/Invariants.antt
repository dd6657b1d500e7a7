use Rattle.std.proofs.Common.{◌≡◌, ◌≤◌, ◌-◌, length, take}
use Rattle.std.specs.Io.KnownBytes.{append_known}
use Rattle.mm_host.proofs.sink.write_all.Given as goal

abbrev pub invariant-loop-done : goal.invariant-loop-done
invariant-loop-done g l = record {
  so_far : g.W.Sink.written l.sink ≡ append_known (g.W.Sink.written l.fn.sink) (take l.done l.piece);
  within : l.done ≤ length l.piece;
  count : g.W.Sink.fault_count l.sink ≡ g.W.Sink.fault_count l.fn.sink;
}

abbrev pub decreases-loop-done : goal.decreases-loop-done
decreases-loop-done g l = length l.piece - l.done

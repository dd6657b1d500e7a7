use Rattle.std.proofs.Common.{◌≡◌, drop}
use Rattle.mm_host.specs.Inside.Holding.{bytes_after_all}
use Rattle.mm_host.proofs.crash.replay.Given as goal

abbrev pub invariant-loop-call : goal.invariant-loop-call
invariant-loop-call l = bytes_after_all l.area (drop l.call-index l.calls) l.bytes.items ≡ bytes_after_all l.area l.calls l.made

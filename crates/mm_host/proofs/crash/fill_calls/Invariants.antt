use Rattle.std.proofs.Common.{◌≡◌, ◌<◌, ℕ, [], cond, length, get_or, take}
use Rattle.mm_host.specs.Inside.Holding.{ranges_after_all, is_inside}
use Rattle.mm_host.proofs.crash.fill_calls.Given as goal

abbrev pub invariant-loop-call : goal.invariant-loop-call
invariant-loop-call l = record {
  long : length l.bytes.items ≡ length l.fn.bytes.items;
  each : (k : ℕ) → k < length l.fn.bytes.items → get_or l.bytes.items k 0 ≡ cond (is_inside (ranges_after_all l.area (take l.call-index l.calls) []) k) l.byte (get_or l.fn.bytes.items k 0);
}

use Rattle.std.proofs.Common.{◌<◌, get_or, sym, subst, ◌∙◌}
use Rattle.mm_host.proofs.Left.{fill-step}
use Rattle.mm_host.proofs.crash.fill_calls.Goals as goal

pub loop-call-preserved : goal.loop-call-preserved
loop-call-preserved c = record {
  long = c.fill_call.ensures.len ∙ c.loop-call.invariant.long;
  each = λ k h.
      fill-step c.args.area c.args.calls.now c.loop-call.call-index c.call-item.result c.args.byte (get_or c.args.bytes.now.items k 0) (get_or c.loop-call.bytes.items k 0) (get_or c.fill_call.new.bytes.items k 0) k
      c.loop-call-test.true c.call-item.is (c.loop-call.invariant.each k h) (c.fill_call.ensures.each k (subst (λ n. k < n) (sym c.loop-call.invariant.long) h));
}

use Rattle.std.proofs.Common.{◌∙◌, length-take, length-drop, arith}
use Rattle.mm_host.proofs.Parts.{written-more}
use Rattle.mm_host.proofs.sink.write_all.Goals as goal

pub loop-done-preserved : goal.loop-done-preserved
loop-done-preserved g c = record {
  so_far = written-more _ _ _ _ _ _ c.loop-done.invariant.so_far c.in_ok-done.ensures.bytes.taken;
  within = omega (arith, simp (length-take, length-drop) at c.in_ok-done.ensures.bound);
  count = c.in_ok-done.ensures.cause.answered ∙ c.loop-done.invariant.count;
}

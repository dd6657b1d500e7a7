use Rattle.std.proofs.Common.{arith, ℕ, sym, ap, ◌∙◌, length, get_or, []}
use Rattle.std.proofs.lemmas.List.{get_or_default}
use Rattle.mm_tree.specs.Search.{list_of, worded}
use Rattle.mm_lists.specs.Full.{Word}
use Rattle.mm_lists.proofs.Shorter.{shorter_within, shorter_more}
use Rattle.mm_lists.specs.Facts.Keeping.{kept_along}
use Rattle.mm_lists.proofs.shortest.find_shortest.Goals as goal

pub loop-i-preserved : goal.loop-i-preserved
loop-i-preserved g c = record {
  kept = λ f. kept_along _ _ _ (c.loop-i.invariant.kept f) (c.count.ensures.leaves.kept f);
  ground = g.met.X.Lists.same_along _ _ _ c.loop-i.invariant.ground c.count.ensures.leaves.ground;
  later = omega (arith, c.count.ensures.leaves.cause.later, c.loop-i.invariant.later);
  unspent = λ e. c.loop-i.invariant.unspent (c.in_ok-size.ensures.leaves.cause.ok e);
  cost = omega arith;
  within = shorter_within _ _ _ _ _ _ _ c.better-best.ensures (omega arith) c.loop-i.invariant.within;
  value = λ f s n. shorter_more (λ (j : ℕ). length (list_of (get_or c.args.words.now j []) (worded f))) _ _ _ _ _ _ c.better-best.ensures
      (ap (λ (w : Word). length (list_of w (worded f))) (sym (c.index-words-i.is ∙ get_or_default c.args.words.now c.loop-i.i c.index-words-i.result [] c.loop-i-test.true)) ∙ sym (c.in_ok-size.ensures.value f ((c.loop-i.invariant.kept f).0 s))) (c.loop-i.invariant.value f s);
}

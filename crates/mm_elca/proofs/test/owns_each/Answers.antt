use Rattle.std.proofs.Common.{arith, ◌≡◌, ◌∙◌, sym, ap, subst, List, [], ◌∷◌, ◌++◌, get_or, take, ◌+◌, ◌&&◌}
use Rattle.std.proofs.lemmas.List.{get_or_default}
use Rattle.mm_tree.specs.Search.{list_of, lists_of, worded}
use Rattle.mm_label.specs.Fronts.{Label}
use Rattle.mm_lists.specs.Full.{Word}
use Rattle.mm_lists.specs.Facts.Keeping.{kept_along}
use Rattle.mm_lists.specs.Facts.Listed.{lists_more}
use Rattle.mm_elca.specs.Inside.Clear.{HaveClear}
use Rattle.mm_elca.proofs.Clearing.{tells_more}
use Rattle.mm_elca.proofs.test.owns_each.Goals as goal

pub loop-word-preserved : goal.loop-word-preserved
loop-word-preserved g c = record {
  kept = λ f. kept_along _ _ _ (c.loop-word.invariant.kept f) (c.own_match.ensures.leaves.kept f);
  ground = g.met.X.Lists.same_along _ _ _ c.loop-word.invariant.ground c.own_match.ensures.leaves.ground;
  later = omega (arith, c.own_match.ensures.leaves.cause.later, c.loop-word.invariant.later);
  unspent = λ e. c.loop-word.invariant.unspent (c.in_ok-here.ensures.leaves.cause.ok e);
  cost = omega (arith, c.own_match.ensures.cost, c.loop-word.invariant.cost);
  value = λ f s a.
      let x = c.args.x.now in
      let ks = c.args.kids.now in
      let i = c.loop-word.word-index in
      let e : c.word-item.result ≡ get_or c.args.words.now i [] = c.word-item.is ∙ get_or_default c.args.words.now i c.word-item.result [] c.loop-word-test.true in
      subst (HaveClear (lists_of (take (i + 1) c.args.words.now) (worded f)) x ks) (sym c.both-so_far.ensures)
      (subst (λ (ls : List (List Label)). HaveClear ls x ks (c.loop-word.so_far && c.in_ok-here.here))
      (ap (λ (q : Word). lists_of (take i c.args.words.now) (worded f) ++ list_of q (worded f) ∷ []) e ∙ sym (lists_more c.args.words.now i (worded f) c.loop-word-test.true))
      (tells_more _ _ ks x c.loop-word.so_far c.in_ok-here.here (c.loop-word.invariant.value f s a) (c.in_ok-here.ensures.value f ((c.loop-word.invariant.kept f).0 s) a)));
}

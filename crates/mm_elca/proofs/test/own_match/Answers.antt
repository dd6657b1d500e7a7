use Rattle.std.proofs.Common.{arith, sym, subst, List, take_all}
use Rattle.mm_tree.specs.Search.{list_of, worded}
use Rattle.mm_label.specs.Fronts.{Label}
use Rattle.mm_lists.specs.Facts.Keeping.{kept_along}
use Rattle.mm_lists.specs.Facts.Nearest.{right_match}
use Rattle.mm_elca.specs.Inside.Clear.{IsFirstClear, HasClear, is_under}
use Rattle.mm_elca.proofs.Clearing.{next_child, past_first, tells, one_more}
use Rattle.mm_elca.proofs.test.own_match.Goals as goal

pub loop-kid-init : goal.loop-kid-init
loop-kid-init g c = record {
  kept = λ f. c.right.ensures.leaves.kept f;
  ground = c.right.ensures.leaves.ground;
  later = c.right.ensures.leaves.cause.later;
  unspent = c.in_ok-found.ensures.leaves.cause.ok;
  cost = omega arith;
  value = λ f s a. past_first _ _ _ (right_match _ _ _ (c.in_ok-found.ensures.value f s));
}

pub loop-kid-preserved : goal.loop-kid-preserved
loop-kid-preserved g c = record {
  kept = λ f. kept_along _ _ _ (c.loop-kid.invariant.kept f) (c.skip.ensures.leaves.kept f);
  ground = g.met.X.Lists.same_along _ _ _ c.loop-kid.invariant.ground c.skip.ensures.leaves.ground;
  later = omega (arith, c.skip.ensures.leaves.cause.later, c.loop-kid.invariant.later);
  unspent = λ e. c.loop-kid.invariant.unspent (c.in_ok-found-2.ensures.leaves.cause.ok e);
  cost = omega (arith, c.skip.ensures.cost, c.loop-kid.invariant.cost);
  value = λ f s a.
      let ms = list_of c.args.word.now (worded f) in
      let k = c.kid-item.result in
      subst (λ (ks : List Label). IsFirstClear ms c.args.x.now ks c.in_ok-found-2.found) (one_more k c.args.kids.now c.loop-kid.kid-index c.loop-kid-test.true c.kid-item.is)
      (c.in_ok-found-2.ensures.value f c.args.x.now _ ((c.loop-kid.invariant.kept f).0 s) (next_child c.args.x.now k c.args.kids.now c.loop-kid.kid-index a c.loop-kid-test.true c.kid-item.is) (c.loop-kid.invariant.value f s a));
}

pub returns-clause-value : goal.returns-clause-value
returns-clause-value g c = λ f s a.
    let ms = list_of c.args.word.now (worded f) in
    let x = c.args.x.now in
    let e = take_all c.loop-kid.kid-index c.args.kids.now (omega arith) in
    subst (HasClear ms x c.args.kids.now) (sym {b = is_under x c.loop-kid.found} c.is_below.ensures)
    (tells ms c.args.kids.now x c.loop-kid.found
    (subst (λ (ks : List Label). IsFirstClear ms x ks c.loop-kid.found) e (c.loop-kid.invariant.value f s a)))

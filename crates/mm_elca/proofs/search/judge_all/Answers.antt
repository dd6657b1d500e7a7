use Rattle.std.proofs.Common.{arith, ap, ◌≡◌, ◌∙◌, ◌+◌, ◌*◌, ℕ, subst, length, [], ◌∷◌, ◌++◌}
use Rattle.mm_tree.specs.Search.{lists_of, worded}
use Rattle.mm_lists.specs.Facts.Keeping.{kept_along}
use Rattle.mm_elca.specs.Owning.{Candidates}
use Rattle.mm_elca.specs.Inside.Gathering.{Ready}
use Rattle.mm_elca.proofs.Judging.{ready_at}
use Rattle.mm_elca.proofs.Stacking.{snoc_length, snoc_joined}
use Rattle.mm_elca.proofs.search.judge_all.Goals as goal

pub loop-x-preserved : goal.loop-x-preserved
loop-x-preserved g c =
    let e : c.loop-x.left ≡ c.pop.new.self ++ c.in-Some.x ∷ [] = c.in-Some.ensures in
    let n : length c.loop-x.left ≡ length c.pop.new.self + 1 = snoc_length _ _ _ e in
    let k = length c.args.words.now in
    let m : 2 * length c.args.words.now * length c.loop-x.left ≡ 2 * length c.args.words.now * length c.pop.new.self + 2 * length c.args.words.now = omega (arith, ap (λ (j : ℕ). 2 * length c.args.words.now * j) n) in
    record {
      kept = λ f. kept_along _ _ _ (c.loop-x.invariant.kept f) (c.judge.ensures.leaves.kept f);
      ground = g.met.X.Lists.same_along _ _ _ c.loop-x.invariant.ground c.judge.ensures.leaves.ground;
      later = omega (arith, c.judge.ensures.leaves.cause.later, c.loop-x.invariant.later);
      unspent = λ u. c.loop-x.invariant.unspent (c.in_ok-judge.ensures.leaves.cause.ok u);
      within = omega (arith, n, c.loop-x.invariant.within);
      cost = omega (arith, m, c.in_ok-judge.ensures.cost, c.loop-x.invariant.cost);
      value = λ f s h.
          let t = c.loop-x.invariant.value f s h in
          let all = lists_of c.args.words.now (worded f) in
          let q : c.args.candidates ≡ c.pop.new.self ++ c.in-Some.x ∷ t.0 = t.1 ∙ snoc_joined c.loop-x.left c.pop.new.self t.0 c.in-Some.x e in
          let r : Ready all c.in-Some.x t.0 = ready_at all c.in-Some.x c.pop.new.self t.0 (subst (Candidates all) q h) in
          (c.in-Some.x ∷ t.0, q, c.in_ok-judge.ensures.stack f t.0 r t.2, c.in_ok-judge.ensures.done f t.0 ((c.loop-x.invariant.kept f).0 s) r t.2 t.3);
    }

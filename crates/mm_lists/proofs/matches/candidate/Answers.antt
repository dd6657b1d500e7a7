use Rattle.std.proofs.Common.{arith, sym, subst, List, [], inl, inr, eq-eqb, ap, ◌∙◌, ◌≡◌, ℕ, get_or, take, ◌++◌, ◌∷◌}
use Rattle.std.proofs.lemmas.Bool.{cases_lt, eqb-true}
use Rattle.std.proofs.lemmas.List.{get_or_default}
use Rattle.mm_tree.specs.Search.{list_of, lists_of, worded}
use Rattle.mm_label.specs.Fronts.{Label, Meets, Within, or_empty}
use Rattle.mm_lists.specs.Full.{Word, IsCandidate}
use Rattle.mm_lists.specs.Facts.Formed.{formed}
use Rattle.mm_lists.specs.Facts.Candidates.{candidate_first}
use Rattle.mm_lists.specs.Facts.Listed.{listed_whole, lists_more, full_at}
use Rattle.mm_lists.specs.Facts.Keeping.{kept_along, kept_same}
use Rattle.mm_lists.proofs.matches.candidate.Goals as goal

pub loop-i-init : goal.loop-i-init
loop-i-init g c = record {
  kept = λ f. kept_same _;
  ground = g.met.X.Lists.same_itself _;
  later = omega arith;
  unspent = λ e. e;
  before = λ h. omega arith;
  past = λ h. omega arith;
  value = λ f w s n h. subst (λ (x : Label). IsCandidate [] c.args.v.now x) (sym c.in_ok-copy.ensures) (candidate_first c.args.v.now (listed_whole _ c.args.v.now (worded f) (formed f w) h));
}

pub loop-i-preserved : goal.loop-i-preserved
loop-i-preserved g c = record {
  kept = λ f. kept_along _ _ _ (c.loop-i.invariant.kept f) (c.narrow_at.ensures.leaves.kept f);
  ground = g.met.X.Lists.same_along _ _ _ c.loop-i.invariant.ground c.narrow_at.ensures.leaves.ground;
  later = omega (arith, c.narrow_at.ensures.leaves.cause.later, c.loop-i.invariant.later);
  unspent = λ e. c.loop-i.invariant.unspent (c.in_ok-x.ensures.leaves.cause.ok e);
  before = λ k. let m = c.loop-i.invariant.before (omega arith) in omega (arith, c.narrow_at.ensures.cost);
  past = λ k. elim (cases_lt c.args.own c.loop-i.i) [
    | inl q ↦ let m = c.loop-i.invariant.past q in omega (arith, c.narrow_at.ensures.cost)
    | inr q ↦ let m = c.loop-i.invariant.before q in let t = c.narrow_at.ensures.skipped (eq-eqb c.loop-i.i c.args.own (omega arith)) in omega arith
  ];
  value = λ f w s n h.
      let e : c.index-words-i.result ≡ get_or c.args.words.now c.loop-i.i [] = c.index-words-i.is ∙ get_or_default c.args.words.now c.loop-i.i c.index-words-i.result [] c.loop-i-test.true in
      subst (λ (ls : List (List Label)). IsCandidate ls c.args.v.now (or_empty c.in_ok-x.x))
      (ap (λ (q : Word). lists_of (take c.loop-i.i c.args.words.now) (worded f) ++ list_of q (worded f) ∷ []) e ∙ sym (lists_more c.args.words.now c.loop-i.i (worded f) c.loop-i-test.true))
      (c.in_ok-x.ensures.value f _ ((c.loop-i.invariant.kept f).0 s)
      (subst (λ (q : Word). Meets [] (list_of q (worded f))) (sym e) (full_at c.args.words.now c.loop-i.i [] (worded f) c.loop-i-test.true n))
      (λ k. subst (λ (q : Word). Within c.args.v.now (list_of q (worded f))) (ap (λ (j : ℕ). get_or c.args.words.now j []) (sym (eqb-true c.loop-i.i c.args.own k)) ∙ sym e) h)
      (c.loop-i.invariant.value f w s n h));
}

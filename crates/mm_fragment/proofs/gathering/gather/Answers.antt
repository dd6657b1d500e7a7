use Rattle.std.proofs.Common.{arith, subst}
use Rattle.mm_lists.specs.Facts.Keeping.{kept_along}
use Rattle.mm_fragment.proofs.Rounds.{Gathered, gathered_first, gathered_more, gathered_ended, gathered_bound, gathered_room, within_some}
use Rattle.mm_fragment.proofs.gathering.gather.Goals as goal

pub loop-init : goal.loop-init
loop-init g c = record {
  kept = λ f. c.right.ensures.leaves.kept f;
  ground = c.right.ensures.leaves.ground;
  later = c.right.ensures.leaves.cause.later;
  unspent = c.in_ok-at.ensures.leaves.cause.ok;
  value = λ f t query s k.
      gathered_first f c.args.root.now.label.now t c.args.root.now.answers.now query c.args.word.now c.args.bit c.args.marks.now c.args.steps.now c.right.new.steps c.in_ok-at.at k (c.in_ok-at.ensures.value f s) c.right.ensures.ticks;
}

pub loop-preserved : goal.loop-preserved
loop-preserved g c = record {
  kept = λ f. kept_along _ _ _ (c.loop.invariant.kept f) (c.pass.ensures.leaves.kept f);
  ground = g.met.X.Lists.same_along _ _ _ c.loop.invariant.ground c.pass.ensures.leaves.ground;
  later = omega (arith, c.pass.ensures.leaves.cause.later, c.loop.invariant.later);
  unspent = λ e. c.loop.invariant.unspent (c.in_ok-at-2.ensures.leaves.cause.ok e);
  value = λ f t query s k.
      let x = c.args.root.now.label.now in
      let w = c.args.word.now in
      let i = within_some x c.loop.at c.in-Some.label c.in-Some.ensures in
      let h = subst (Gathered f x t query w c.args.bit c.args.marks.now c.loop.marks c.args.steps.now c.loop.steps) i.0 (c.loop.invariant.value f t query s k) in
      gathered_more f x t query w c.args.bit c.args.marks.now c.loop.marks c.pass.new.marks c.args.steps.now c.loop.steps c.pass.new.steps _ c.in_ok-at-2.at h
      (c.in_ok-at-2.ensures.value f t query h.done h.passed ((c.loop.invariant.kept f).0 s) k h.walked i.1) c.in_ok-at-2.ensures.ticks;
}

pub returns-in_default-clause-value : goal.returns-in_default-clause-value
returns-in_default-clause-value g c = λ f t query s k.
    gathered_ended f c.args.root.now.label.now t c.args.root.now.answers.now query c.args.word.now c.args.bit c.args.marks.now c.loop.marks c.args.steps.now c.loop.steps c.loop.at k
    (c.loop.invariant.value f t query s k) c.in_default.ensures

pub returns-in_default-clause-cost : goal.returns-in_default-clause-cost
returns-in_default-clause-cost g c = λ f t query s k.
    gathered_bound f c.args.root.now.label.now t query c.args.word.now c.args.bit c.args.marks.now c.loop.marks c.args.steps.now c.loop.steps c.loop.at (c.loop.invariant.value f t query s k)

pub returns-in_err-at-2-clause-cost : goal.returns-in_err-at-2-clause-cost
returns-in_err-at-2-clause-cost g c = λ f t query s k.
    let x = c.args.root.now.label.now in
    let w = c.args.word.now in
    let i = within_some x c.loop.at c.in-Some.label c.in-Some.ensures in
    let h = subst (Gathered f x t query w c.args.bit c.args.marks.now c.loop.marks c.args.steps.now c.loop.steps) i.0 (c.loop.invariant.value f t query s k) in
    omega (arith, c.pass.ensures.most, gathered_room f x c.in-Some.label t c.args.root.now.answers.now query w c.args.bit c.args.marks.now c.loop.marks c.args.steps.now c.loop.steps k h i.1)

pub returns-clause-cost : goal.returns-clause-cost
returns-clause-cost g c = λ f t query s k.
    gathered_bound f c.args.root.now.label.now t query c.args.word.now c.args.bit c.args.marks.now c.loop.marks c.args.steps.now c.loop.steps c.loop.at (c.loop.invariant.value f t query s k)

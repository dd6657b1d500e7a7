use Rattle.std.proofs.Common.{arith, ◌<◌}
use Rattle.mm_fragment.specs.Bound.{full_count}
use Rattle.mm_fragment.specs.Matching.{matches_of, open_nodes}
use Rattle.mm_fragment.specs.Showing.{named_in}
use Rattle.mm_lists.specs.Facts.Keeping.{kept_along}
use Rattle.mm_fragment.proofs.Words.{matches_more, matches_ended, next_bit, pairs_more, cost_part, cost_next}
use Rattle.mm_fragment.proofs.gathering.matches.Goals as goal

pub loop-word-preserved : goal.loop-word-preserved
loop-word-preserved g c = record {
  kept = λ f. kept_along _ _ _ (c.loop-word.invariant.kept f) (c.gather.ensures.leaves.kept f);
  ground = g.met.X.Lists.same_along _ _ _ c.loop-word.invariant.ground c.gather.ensures.leaves.ground;
  later = omega (arith, c.gather.ensures.leaves.cause.later, c.loop-word.invariant.later);
  unspent = λ e. c.loop-word.invariant.unspent (c.in_ok-gather.ensures.leaves.cause.ok e);
  bit = next_bit c.loop-word.word-index c.loop-word.bit c.doubled-bit.result c.loop-word.invariant.bit c.doubled-bit.ensures;
  value = λ f t s k.
      let ws = c.args.words.now in
      let i = c.loop-word.word-index in
      let small : i < 32 = omega (arith, c.loop-word-test.true, c.requires) in
      matches_more ws i c.loop-word.bit c.word-item.result (open_nodes ws (named_in t)) c.loop-word.marks c.gather.new.marks (matches_of 1 ws (open_nodes ws (named_in t)))
      c.loop-word-test.true c.word-item.is (c.loop-word.invariant.bit small) (c.loop-word.invariant.value f t s k) (c.in_ok-gather.ensures.value f t ws ((c.loop-word.invariant.kept f).0 s) k);
  cost = λ f t s k.
      let ws = c.args.words.now in
      omega (
        arith,
        pairs_more ws c.loop-word.word-index c.word-item.result (open_nodes ws (named_in t)) c.loop-word-test.true c.word-item.is,
        c.loop-word.invariant.cost f t s k,
        c.gather.ensures.cost f t ws ((c.loop-word.invariant.kept f).0 s) k,
      );
}

pub returns-in_err-gather-clause-cost : goal.returns-in_err-gather-clause-cost
returns-in_err-gather-clause-cost g c = λ f t s k.
    let ws = c.args.words.now in
    omega (
      arith,
      cost_next ws c.loop-word.word-index (full_count ws (named_in t).1) c.word-item.result (open_nodes ws (named_in t)) c.loop-word-test.true c.word-item.is,
      c.loop-word.invariant.cost f t s k,
      c.gather.ensures.cost f t ws ((c.loop-word.invariant.kept f).0 s) k,
    )

pub returns-clause-value : goal.returns-clause-value
returns-clause-value g c = λ f t s k.
    let ws = c.args.words.now in
    matches_ended ws c.loop-word.word-index (open_nodes ws (named_in t)) c.loop-word.marks (matches_of 1 ws (open_nodes ws (named_in t))) (omega arith) (c.loop-word.invariant.value f t s k)

pub returns-clause-cost : goal.returns-clause-cost
returns-clause-cost g c = λ f t s k.
    let ws = c.args.words.now in
    omega (arith, cost_part ws c.loop-word.word-index (full_count ws (named_in t).1) (open_nodes ws (named_in t)) (omega arith), c.loop-word.invariant.cost f t s k)

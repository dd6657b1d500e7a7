use Rattle.std.proofs.Common.{arith, ap, ◌∙◌, ◌≡◌, ◌+◌, [], get_or, length}
use Rattle.std.proofs.lemmas.List.{get_or_default}
use Rattle.mm_tree.specs.Search.{list_of, lists_of, worded}
use Rattle.mm_lists.specs.Full.{Word}
use Rattle.mm_lists.specs.Lists.{head_of}
use Rattle.mm_lists.specs.Facts.Shortest.{steps_so_far}
use Rattle.mm_elca.proofs.Gathering.{gathering_first, gathering_end, gathered_sorted}
use Rattle.mm_elca.proofs.candidates.gather.Goals as goal

pub loop-i-init : goal.loop-i-init
loop-i-init g c = record {
  kept = λ f. c.first.ensures.leaves.kept f;
  ground = c.first.ensures.leaves.ground;
  later = c.first.ensures.leaves.cause.later;
  unspent = c.in_ok-at.ensures.leaves.cause.ok;
  cost = omega arith;
  count = omega (arith, ap length c.new-found.ensures);
  value = λ f w s n.
      let e : c.index-words-own.result ≡ get_or c.args.words.now c.args.own [] = c.index-words-own.is ∙ get_or_default c.args.words.now c.args.own c.index-words-own.result [] c.requires in
      let h : c.in_ok-at.at ≡ head_of (list_of (get_or c.args.words.now c.args.own []) (worded f)) = c.in_ok-at.ensures.value f s ∙ ap (λ (q : Word). head_of (list_of q (worded f))) e in
      gathering_first (lists_of c.args.words.now (worded f)) (list_of (get_or c.args.words.now c.args.own []) (worded f)) _ c.in_ok-at.at c.new-found.ensures h;
}

pub returns-in_err-pass-clause-cost : goal.returns-in_err-pass-clause-cost
returns-in_err-pass-clause-cost g c =
    let t = steps_so_far (length c.args.words.now) (c.loop-i.i + 1) c.args.size (omega arith) (omega arith) in
    omega (arith, c.pass.ensures.cost, c.loop-i.invariant.cost)

pub returns-clause-value : goal.returns-clause-value
returns-clause-value g c = λ f w s n e.
    let k : c.loop-i.i ≡ length (list_of (get_or c.args.words.now c.args.own []) (worded f)) = omega arith in
    gathered_sorted _ _ _ _ (gathering_end (lists_of c.args.words.now (worded f)) (list_of (get_or c.args.words.now c.args.own []) (worded f)) c.loop-i.i c.loop-i.found c.loop-i.at k (c.loop-i.invariant.value f w s n)) c.in_ok-candidates.ensures.value

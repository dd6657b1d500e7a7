use Rattle.std.proofs.Common.{arith, sym, subst, ap, ◌∙◌, ◌≡◌, ◌+◌, ◌<◌, ℕ, [], List, Option, get_or, length}
use Rattle.std.proofs.lemmas.List.{get_or_default}
use Rattle.mm_tree.specs.Search.{list_of, lists_of, worded}
use Rattle.mm_label.specs.Fronts.{Label, or_empty}
use Rattle.mm_lists.specs.Full.{Word, Deepest}
use Rattle.mm_lists.specs.Lists.{head_of}
use Rattle.mm_lists.specs.Facts.Formed.{formed}
use Rattle.mm_lists.specs.Facts.Listed.{full_at}
use Rattle.mm_slca.specs.Inside.Walk.{Stands, finished}
use Rattle.mm_lists.specs.Facts.Shortest.{steps_so_far}
use Rattle.mm_slca.proofs.Cost.{slca_is}
use Rattle.mm_slca.proofs.Walking.{stands_first, stands_end}
use Rattle.mm_slca.proofs.search.walk_list.Goals as goal

pub loop-i-init : goal.loop-i-init
loop-i-init g c = record {
  kept = λ f. c.first.ensures.leaves.kept f;
  ground = c.first.ensures.leaves.ground;
  later = c.first.ensures.leaves.cause.later;
  unspent = c.in_ok-at.ensures.leaves.cause.ok;
  cost = omega arith;
  value = λ f w s n.
      let ls = lists_of c.args.words.now (worded f) in
      let ms = list_of (get_or c.args.words.now c.args.own []) (worded f) in
      let e : c.index-words-own.result ≡ get_or c.args.words.now c.args.own [] = c.index-words-own.is ∙ get_or_default c.args.words.now c.args.own c.index-words-own.result [] c.requires in
      let h : c.in_ok-at.at ≡ head_of ms = c.in_ok-at.ensures.value f s ∙ ap (λ (q : Word). head_of (list_of q (worded f))) e in
      subst (λ (d : List Label). Stands ls ms 0 d [] c.in_ok-at.at) (sym c.new.ensures)
      (subst (λ (o : Option Label). Stands ls ms 0 [] [] o) (sym h) (stands_first ls ms n));
}

pub returns-in_err-pass-clause-cost : goal.returns-in_err-pass-clause-cost
returns-in_err-pass-clause-cost g c =
    let t = steps_so_far (length c.args.words.now) (c.loop-i.i + 1) c.args.size (omega arith) (omega arith) in
    omega (arith, c.pass.ensures.cost, c.loop-i.invariant.cost)

pub returns-clause-value : goal.returns-clause-value
returns-clause-value g c = λ f w s n e.
    let some : 0 < length c.args.words.now = omega arith in
    let ls = lists_of c.args.words.now (worded f) in
    let ms = list_of (get_or c.args.words.now c.args.own []) (worded f) in
    let k : c.loop-i.i ≡ length ms = omega arith in
    let d : Deepest ls (finished c.loop-i.walk.done (or_empty c.loop-i.walk.held)) = stands_end ls ms _ _ _ (λ z h. full_at c.args.words.now c.args.own z (worded f) c.requires h)
    (subst (λ (i : ℕ). Stands ls ms i c.loop-i.walk.done (or_empty c.loop-i.walk.held) c.loop-i.at) k (c.loop-i.invariant.value f w s n)) in
    c.in_ok-found.ensures ∙ slca_is c.args.words.now (worded f) _ some (formed f w) d

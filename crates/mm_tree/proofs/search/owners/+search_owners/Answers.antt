use Rattle.std.proofs.Common.{◌∙◌, ap, length, refl, sym}
use Rattle.std.proofs.lemmas.List.{length-map}
use Rattle.mm_tree.specs.Elca.{elca}
use Rattle.mm_tree.specs.Inside.Searching.{either, held, held_outside}
use Rattle.mm_tree.proofs.FlagFacts.{never_either, length-either}
use Rattle.mm_tree.proofs.SearchFacts.{seen, inside, words_on, words_end}
use Rattle.mm_tree.proofs.OwnerFacts.{outside_on, outside_end, owners_on, owners_end, below_is, unless_length}
use Rattle.mm_tree.proofs.search.owners.+search_owners.Goals as goal

pub loop-tree-init : goal.loop-tree-init
loop-tree-init t c = record {
  size = ap length c.in_ok-held.ensures ∙ length-map c.args.query.now _;
  size_outside = ap length c.in_ok-outside.ensures ∙ length-map c.args.query.now _;
  words = ap (λ flags. either flags (held c.args.query.now (seen c.args.trees.now))) c.in_ok-held.ensures ∙ never_either _ c.args.query.now;
  outside = ap (λ flags. either flags (held_outside c.args.query.now c.args.query.now (seen c.args.trees.now))) c.in_ok-outside.ensures ∙ never_either _ c.args.query.now;
  labels = refl;
}

pub loop-tree-preserved : goal.loop-tree-preserved
loop-tree-preserved t c =
    let q = c.args.query.now in
    let i = c.loop-tree.tree-index in
    let n = c.tree-item.result in
    let start = c.loop-tree.answers in
    record {
      size = ap length c.join.ensures ∙ length-either c.loop-tree.held c.as_slice-in-loop-tree.result.now ∙ c.loop-tree.invariant.size;
      size_outside = unless_length _ c.loop-tree.outside c.as_slice-in-loop-tree-2.result.now c.join_unless_full.new.flags c.join_unless_full.ensures ∙ c.loop-tree.invariant.size_outside;
      words = words_on q c.args.trees.now i n c.loop-tree.held c.as_slice-in-loop-tree.result.now c.join.new.flags _ c.loop-tree-test.true c.tree-item.is (c.as_slice-in-loop-tree.ensures ∙ c.in_ok-here.ensures.held) c.join.ensures c.loop-tree.invariant.words;
      outside = outside_on q c.args.trees.now i n c.loop-tree.outside c.as_slice-in-loop-tree-2.result.now c.join_unless_full.new.flags _ c.loop-tree-test.true c.tree-item.is (c.as_slice-in-loop-tree-2.ensures ∙ c.in_ok-here.ensures.held) c.join_unless_full.ensures c.loop-tree.invariant.outside;
      labels = owners_on q c.args.trees.now i n start c.weigh.new.answers _ c.loop-tree-test.true c.tree-item.is
          (c.in_ok-here.ensures.answers start (elca q (inside n)) (below_is q n c.as_slice.result.now start c.search_owners.new.answers c.as_slice.ensures c.in_ok-inside.ensures.answers) (sym c.len-at.ensures)) c.loop-tree.invariant.labels;
    }

pub returns-clause-found : goal.returns-clause-found
returns-clause-found t c = record {
  held = words_end c.args.query.now c.args.trees.now c.loop-tree.tree-index c.loop-tree.held _ c.loop-tree-test.false c.loop-tree.invariant.words;
  outside = outside_end c.args.query.now c.args.trees.now c.loop-tree.tree-index c.loop-tree.outside _ c.loop-tree-test.false c.loop-tree.invariant.outside;
}

pub returns-clause-answers : goal.returns-clause-answers
returns-clause-answers t c = owners_end c.args.query.now c.args.trees.now c.loop-tree.tree-index c.loop-tree.answers _ c.loop-tree-test.false c.loop-tree.invariant.labels

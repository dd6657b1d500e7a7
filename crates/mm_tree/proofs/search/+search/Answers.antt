use Rattle.std.proofs.Common.{◌∙◌, ap, length, refl, rules}
use Rattle.std.proofs.lemmas.List.{length-map}
use Rattle.mm_tree.specs.Inside.Searching.{either, held}
use Rattle.mm_tree.proofs.FlagFacts.{never_either, length-either}
use Rattle.mm_tree.proofs.SearchFacts.{seen, words_on, full_on, labels_on, words_end, full_end}
use Rattle.mm_tree.proofs.search.+search.Goals as goal

pub loop-tree-init : goal.loop-tree-init
loop-tree-init t c = record {
  size = ap length c.in_ok-held.ensures ∙ length-map c.args.query.now _;
  words = ap (λ flags. either flags (held c.args.query.now (seen c.args.trees.now))) c.in_ok-held.ensures ∙ never_either _ c.args.query.now;
  full = search rules;
  labels = search rules;
}

pub loop-tree-preserved : goal.loop-tree-preserved
loop-tree-preserved t c = record {
  size = ap length c.join.ensures ∙ length-either c.loop-tree.held c.as_slice-in-loop-tree.result.now ∙ c.loop-tree.invariant.size;
  words = words_on c.args.query.now c.args.trees.now c.loop-tree.tree-index c.tree-item.result c.loop-tree.held c.as_slice-in-loop-tree.result.now c.join.new.flags _ c.loop-tree-test.true c.tree-item.is (c.as_slice-in-loop-tree.ensures ∙ c.in_ok-here.ensures.found.held) c.join.ensures c.loop-tree.invariant.words;
  full = full_on c.args.query.now c.args.trees.now c.loop-tree.tree-index c.tree-item.result c.loop-tree.some_full c.in_ok-here.here.some_full _ _ c.loop-tree-test.true c.tree-item.is c.in_ok-here.ensures.found.some_full refl c.loop-tree.invariant.full;
  labels = labels_on c.args.query.now c.args.trees.now c.loop-tree.tree-index c.tree-item.result c.as_slice.result.now c.loop-tree.answers c.search.new.answers c.take_up.new.answers _ c.loop-tree-test.true c.tree-item.is c.as_slice.ensures c.in_ok-inside.ensures.answers c.in_ok-here.ensures.answers c.loop-tree.invariant.labels;
}

pub returns-clause-found : goal.returns-clause-found
returns-clause-found t c = record {
  held = words_end c.args.query.now c.args.trees.now c.loop-tree.tree-index c.loop-tree.held _ c.loop-tree-test.false c.loop-tree.invariant.words;
  some_full = full_end c.args.query.now c.args.trees.now c.loop-tree.tree-index c.loop-tree.some_full _ c.loop-tree-test.false c.loop-tree.invariant.full;
}

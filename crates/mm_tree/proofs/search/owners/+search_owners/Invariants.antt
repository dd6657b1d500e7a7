use Rattle.std.proofs.Common.{◌≡◌, ◌++◌, drop, length}
use Rattle.mm_tree.specs.Elca.{elca}
use Rattle.mm_tree.specs.Inside.Searching.{either, held, held_outside}
use Rattle.mm_tree.proofs.SearchFacts.{seen}
use Rattle.mm_tree.proofs.search.owners.+search_owners.Given as goal

-- what was found so far, with what is to be found in the trees to come, is what is to be found in all
abbrev pub invariant-loop-tree : goal.invariant-loop-tree
invariant-loop-tree l = record {
  size : length l.held ≡ length l.query;
  size_outside : length l.outside ≡ length l.query;
  words : either l.held (held l.query (seen (drop l.tree-index l.trees))) ≡ held l.query (seen l.trees);
  outside : either l.outside (held_outside l.query l.query (seen (drop l.tree-index l.trees))) ≡ held_outside l.query l.query (seen l.trees);
  labels : l.answers ++ elca l.query (seen (drop l.tree-index l.trees)) ≡ l.fn.answers ++ elca l.query (seen l.trees);
}

use Rattle.std.proofs.Common.{◌≡◌, ◌++◌, ◌||◌, drop, length}
use Rattle.mm_tree.specs.Search.{some_full, slca}
use Rattle.mm_tree.specs.Inside.Searching.{either, held}
use Rattle.mm_tree.proofs.SearchFacts.{seen}
use Rattle.mm_tree.proofs.search.+search.Given as goal

-- what was found so far, with what is to be found in the trees to come, is what is to be found in all
abbrev pub invariant-loop-tree : goal.invariant-loop-tree
invariant-loop-tree l = record {
  size : length l.held ≡ length l.query;
  words : either l.held (held l.query (seen (drop l.tree-index l.trees))) ≡ held l.query (seen l.trees);
  full : (l.some_full || some_full l.query (seen (drop l.tree-index l.trees))) ≡ some_full l.query (seen l.trees);
  labels : l.answers ++ slca l.query (seen (drop l.tree-index l.trees)) ≡ l.fn.answers ++ slca l.query (seen l.trees);
}

use Rattle.std.proofs.Common.{◌≡◌, ◌++◌, ℕ, List, drop}
use Rattle.mm_tree.specs.Numbering.{forest_of}
use Rattle.mm_tree.specs.Search.{list_of, worded}
use Rattle.mm_tree.specs.KeywordLists.{AreFilled, list_in}
use Rattle.mm_tree.proofs.keywords.+gather.Given as goal

abbrev pub invariant-loop-node : goal.invariant-loop-node
invariant-loop-node l = record {
  lists : (w : List ℕ) → list_in l.lists w ++ list_of w (worded (forest_of (drop l.node-index l.nodes)))
      ≡ list_in l.fn.lists w ++ list_of w (worded (forest_of l.nodes));
  filled : AreFilled l.fn.lists → AreFilled l.lists;
}

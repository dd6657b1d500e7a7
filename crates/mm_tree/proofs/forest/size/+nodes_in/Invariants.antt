use Rattle.std.proofs.Common.{◌≡◌, ◌-◌, ◌^◌, min, ◌+◌, ◌≤◌, drop}
use Rattle.mm_tree.specs.Trees.{nodes}
use Rattle.mm_tree.specs.Numbering.{forest_of}
use Rattle.mm_tree.proofs.forest.size.+nodes_in.Given as goal

abbrev pub invariant-loop-tree : goal.invariant-loop-tree
invariant-loop-tree l = record {
  small : l.sum ≤ 2 ^ 64 - 1;
  many : min (l.sum + nodes (forest_of (drop l.tree-index l.trees))) (2 ^ 64 - 1) ≡ min (nodes (forest_of l.trees)) (2 ^ 64 - 1);
}

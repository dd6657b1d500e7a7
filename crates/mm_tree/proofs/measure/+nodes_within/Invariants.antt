use Rattle.std.proofs.Common.{◌≡◌, ◌-◌, ◌^◌, min, ◌+◌, ◌≤◌, drop}
use Rattle.std.specs.Prelude.{max}
use Rattle.mm_tree.specs.Trees.{levels, nodes, trees_of}
use Rattle.mm_tree.proofs.measure.+nodes_within.Given as goal

abbrev pub invariant-loop-tree : goal.invariant-loop-tree
invariant-loop-tree l = record {
  small : l.sum ≤ 2 ^ 64 - 1;
  deep : max l.room (levels (trees_of (drop l.tree-index l.trees))) ≡ max l.room (levels (trees_of l.trees));
  many : min (l.sum + nodes (trees_of (drop l.tree-index l.trees))) (2 ^ 64 - 1) ≡ min (nodes (trees_of l.trees)) (2 ^ 64 - 1);
}

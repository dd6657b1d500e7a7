use Rattle.std.proofs.Common.{◌≡◌, ◌-◌, ◌^◌, min, ◌+◌, ◌≤◌, drop}
use Rattle.mm_tree.specs.Trees.{nodes}
use Rattle.mm_tree.specs.Fragments.{fragment_trees}
use Rattle.mm_command.proofs.fragments.+nodes_in.Given as goal

abbrev pub invariant-loop-fragment : goal.invariant-loop-fragment
invariant-loop-fragment l = record {
  small : l.sum ≤ 2 ^ 64 - 1;
  many : min (l.sum + nodes (fragment_trees (drop l.fragment-index l.fragments))) (2 ^ 64 - 1) ≡ min (nodes (fragment_trees l.fragments)) (2 ^ 64 - 1);
}

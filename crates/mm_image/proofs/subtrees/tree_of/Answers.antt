use Rattle.std.proofs.Common.{refl, sym}
use Rattle.mm_image.specs.Inside.Rebuilding.{bared}
use Rattle.mm_image.proofs.Standing.{more_trees, no_nodes, no_tree, not_placed, tree_is}
use Rattle.mm_image.proofs.subtrees.tree_of.Goals as goal
use Rattle.mm_image.proofs.subtrees.tree_of.Goals.{then-not-is_empty-via-then-not-is_empty, then-not-is_empty-via-else-not-is_empty+then-not-is_placed}

pub returns-in_default : goal.returns-in_default
returns-in_default c = no_nodes c.one_label.ensures c.args.label.now c.args.groups c.requires.label c.requires.groups (rw c.in_default.is at c.in_ok-nodes.ensures)

pub returns-in_default-pop : goal.returns-in_default-pop
returns-in_default-pop c =
    no_tree c.one_label.ensures c.args.label.now c.args.groups (bared c.in-Some.nodes.items) c.in_ok-trees.trees c.requires.label c.requires.groups (rw c.in-Some.is at c.in_ok-nodes.ensures) c.in_ok-trees.ensures c.in_default-pop.ensures.0

pub returns-then-not-is_empty : goal.returns-then-not-is_empty
returns-then-not-is_empty c = elim c.then-not-is_empty.branch [
  | then-not-is_empty-via-then-not-is_empty w ↦
      more_trees c.one_label.ensures c.args.label.now c.args.groups (bared c.in-Some.nodes.items) c.in_ok-trees.trees c.pop.new.self c.in-Some-pop.node c.requires.label c.requires.groups (rw c.in-Some.is at c.in_ok-nodes.ensures) c.in_ok-trees.ensures c.in-Some-pop.ensures
      (λ e. let z = w.if-not-is_empty.ensures.1 e in absurd cc)
  | then-not-is_empty-via-else-not-is_empty+then-not-is_placed w ↦
      not_placed c.one_label.ensures c.args.label.now c.args.groups (bared c.in-Some.nodes.items) c.in_ok-trees.trees c.pop.new.self c.in-Some-pop.node c.requires.label c.requires.groups (rw c.in-Some.is at c.in_ok-nodes.ensures) c.in_ok-trees.ensures c.in-Some-pop.ensures
      (sym w.if-not-is_placed.ensures)
]

pub returns : goal.returns
returns c =
    tree_is c.args.label.now c.args.groups (bared c.in-Some.nodes.items) c.in_ok-trees.trees c.pop.new.self c.in-Some-pop.node (rw c.in-Some.is at c.in_ok-nodes.ensures) c.in_ok-trees.ensures c.in-Some-pop.ensures (c.if-not-is_empty.ensures.0 refl) (sym c.if-not-is_placed.ensures)

use Rattle.mm_tree.specs.Numbering.{node_of}
use Rattle.mm_tree.specs.Trees.{tree_of}
use Rattle.mm_tree.specs.Facts.Labels.{label_fits}
use Rattle.mm_edit.proofs.Numbered.{nodes_same, numbered_sorted, numbers_so, room_all, valid_all}
use Rattle.mm_edit.proofs.planting.numbered.Goals as goal

pub returns-clause-valid : goal.returns-clause-valid
returns-clause-valid c = numbers_so c.number.result (λ n h k. valid_all c.args.label (tree_of c.args.tree) (node_of n) h c.requires) c.number.ensures

pub returns-clause-fitting : goal.returns-clause-fitting
returns-clause-fitting c = numbers_so c.number.result (λ n h k. room_all c.args.label (tree_of c.args.tree) (node_of n) h (label_fits c.args.label c.as_bytes-spelled.ensures.label) k) c.number.ensures

pub returns-clause-sorted : goal.returns-clause-sorted
returns-clause-sorted c = numbers_so c.number.result (λ n h k. numbered_sorted c.byte_order.ensures c.ancestry.ensures c.args.label (tree_of c.args.tree) (node_of n) h c.as_bytes-spelled.ensures.label k c.requires) c.number.ensures

pub returns-clause-nodes : goal.returns-clause-nodes
returns-clause-nodes c = numbers_so c.number.result (λ n h k. nodes_same c.args.label (tree_of c.args.tree) (node_of n) h) c.number.ensures

-- A list of nodes as trees, one node after the other.
use Rattle.std.proofs.Common.{◌≡◌, ℕ, ◌+◌, ◌<◌, List, length, get_or, drop, ap, ◌∙◌}
use Rattle.mm_list.specs.Facts.{drop_at}
use Rattle.mm_tree.specs.declared.node.Node.{Node}
use Rattle.mm_tree.specs.declared.node.Node.TheViews.{out-Node}
use Rattle.mm_tree.specs.declared.node.Node.TheFolds.{fold_out-Node}
use Rattle.mm_tree.specs.Trees.{node, Tree}
use Rattle.mm_tree.specs.Numbering.{Labelled, node_of, node_step, forest_of}

abbrev pub labelled : Node → Labelled
labelled n = record { label = (out-Node n).label; kind = (out-Node n).kind }

pub node_of_out : (n : Node) → node_of n ≡ (labelled n, forest_of (out-Node n).children)
node_of_out n = fold_out-Node (Tree Labelled) node_step n

-- from place i on: the node there, and what stands behind it
pub forest_at : (ns : List Node) (i : ℕ) (n : Node) → i < length ns → n ≡ get_or ns i n → forest_of (drop i ns) ≡ node (labelled n) (forest_of (out-Node n).children) (forest_of (drop (i + 1) ns))
forest_at ns i n h e = ap forest_of (drop_at ns i n h e) ∙ ap (λ (t : Tree Labelled). node t.0 t.1 (forest_of (drop (i + 1) ns))) (node_of_out n)

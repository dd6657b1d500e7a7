-- The order of the nodes of a forest is the order of their labels.
use Rattle.std.specs.Prelude.{ℤ, List, map, AllPairs, IsTrue}
use Rattle.mm_label.specs.Label.{IsBefore}
use Rattle.mm_tree.specs.Trees.{Trees, preorder}
use Rattle.mm_tree.specs.Numbering.{Labelled}
use Rattle.mm_tree.specs.Forests.{is_well_formed}

-- the labels of all nodes, in the order of the document
abbrev pub labels : Trees Labelled → List (List ℤ)
labels forest = map (λ e. e.label) (preorder forest)

-- each label comes before those of all later nodes
abbrev pub PreorderIsLabelOrder : Type 0
PreorderIsLabelOrder = (forest : Trees Labelled) → IsTrue (is_well_formed forest) → AllPairs IsBefore (labels forest)

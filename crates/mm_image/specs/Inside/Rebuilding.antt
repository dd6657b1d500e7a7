-- Nodes without what lies below them, and trees that are taken off a pile.
use Rattle.std.specs.Prelude.{ℕ, ℤ, List, map}
use Rattle.std.specs.List.{prefix_len}
use Rattle.mm_label.specs.Fronts.{is_front}
use Rattle.mm_tree.specs.declared.node.Node.{Node}
use Rattle.mm_tree.specs.declared.node.Node.TheViews.{out-Node}
use Rattle.mm_tree.specs.Numbering.{Labelled}
use Rattle.mm_image.specs.declared.rebuilding.Bare.{Bare}

abbrev pub bare : Bare → Labelled
bare b = record { label = b.label; kind = b.kind }

abbrev pub bared : List Bare → List Labelled
bared bs = map bare bs

-- how many of these trees, from the first on, lie at or below the label
abbrev pub count_below : List ℤ → List Node → ℕ
count_below label trees = prefix_len (λ n. is_front label (out-Node n).label) trees

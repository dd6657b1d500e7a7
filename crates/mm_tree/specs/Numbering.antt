-- Labelled trees, and the labels that a new tree gets.
use Rattle.std.specs.Prelude.{ℕ, ℤ, pos, ◌+◌, ◌*◌, ◌-◌, Bool, true, false, ◌&&◌, nat_le, List, [], ◌∷◌, ◌++◌, ◌≡◌, refl, map, length, Result, Ok, Err}
use Rattle.mm_label.specs.Bytes.{bytes_of}
use Rattle.mm_label.specs.Label.{all_in_range, label_limit}
use Rattle.mm_tree.specs.declared.plain.Kind.{Kind}
use Rattle.mm_tree.specs.declared.plain.Kind.TheVariants.{Words}
use Rattle.mm_tree.specs.declared.node.Node.{Node}
use Rattle.mm_tree.specs.declared.node.Node.TheFolds.{fold-Node}
use Rattle.mm_tree.specs.declared.node.Node.TheOpen.{Node-F}
use Rattle.mm_tree.specs.declared.refusal.TreeError.{TreeError}
use Rattle.mm_tree.specs.declared.refusal.TreeError.TheVariants as error
use Rattle.mm_tree.specs.declared.refusal.Refusal.TheVariants.{Room}
use Rattle.mm_tree.specs.Trees.{Trees, none, node, Tree, siblings, every}

-- what a node holds beside its children
pub record Labelled : Type 0 where
  pub label : List ℤ
  pub kind : Kind

abbrev pub node_step : Node-F (Tree Labelled) → Tree Labelled
node_step x = (record { label = x.label; kind = x.kind }, siblings x.children)

-- a node of the program, with all below it, as plain data
abbrev pub node_of : Node → Tree Labelled
node_of = fold-Node (Tree Labelled) node_step

-- the trees of a forest, in order, as plain data
abbrev pub forest_of : List Node → Trees Labelled
forest_of ns = siblings (map node_of ns)

-- the label of the i-th child, counted from 1, of a node with label y
abbrev pub child_label : List ℤ → ℕ → List ℤ
child_label y i = y ++ pos (2 * i - 1) ∷ []

-- the labels of children from the i-th on, and of all below them
abbrev pub number_from : List ℤ → ℕ → Trees Kind → Trees Labelled
number_from y i none = none
number_from y i (node kind inner rest) =
    node (record { label = child_label y i; kind = kind }) (number_from (child_label y i) 1 inner) (number_from y (i + 1) rest)

-- a tree whose root gets the label x
abbrev pub number : List ℤ → Tree Kind → Tree Labelled
number x t = (record { label = x; kind = t.0 }, number_from x 1 t.1)

-- the components are in range, and no more bytes than the limit spell them
abbrev pub fits : List ℤ → Bool
fits label = all_in_range label && nat_le (length (bytes_of label)) label_limit

-- the node's label fits, whether it has children or not
abbrev pub has_room : Labelled → Bool → Bool
has_room e has_children = fits e.label

two_children : number (pos 1 ∷ []) (Words [], node (Words []) none (node (Words []) none none))
    ≡ (record { label = pos 1 ∷ []; kind = Words [] }, node (record { label = pos 1 ∷ pos 1 ∷ []; kind = Words [] }) none (node (record { label = pos 1 ∷ pos 3 ∷ []; kind = Words [] }) none none))
two_children = refl

-- the label, which fits; or the refusal where it doesn't, unless memory ran out
abbrev pub Labels : Result (List ℤ) TreeError → List ℤ → Type 0
Labels (Ok label) x = (label ≡ x) × (fits x ≡ true)
Labels (Err (error.Refused r)) x = (r ≡ Room) × (fits x ≡ false)
Labels (Err error.Memory) x = Unit {0}

-- the node, below which all labels fit; or the refusal where one doesn't, unless memory ran out
abbrev pub Numbers : Result Node TreeError → Tree Labelled → Type 0
Numbers (Ok n) t = (node_of n ≡ t) × (every has_room t.1 ≡ true)
Numbers (Err (error.Refused r)) t = (r ≡ Room) × (every has_room t.1 ≡ false)
Numbers (Err error.Memory) t = Unit {0}

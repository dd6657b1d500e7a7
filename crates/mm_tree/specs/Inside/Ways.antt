-- The way down by labels: a node lies on it where its label is a prefix of the target's.
use Rattle.std.specs.Prelude.{ℕ, zero, suc, ◌+◌, ◌-◌, nat_lt, ℤ, Bool, true, not, ◌&&◌, ◌≡◌, ⊤, List, [], ◌∷◌, length, slice_get, Option, Some, None, option_map, if◌then◌else◌}
use Rattle.std.specs.List.{starts_with}
use Rattle.std.specs.Ordering.{int_eq}
use Rattle.mm_label.specs.Label.{IsSegment, IsLastSegment}
use Rattle.mm_tree.specs.declared.node.Node.{Node}
use Rattle.mm_tree.specs.declared.node.Node.TheViews.{out-Node}
use Rattle.mm_tree.specs.declared.forest.place.Place.{Place}
use Rattle.mm_tree.specs.declared.forest.place.Place.TheVariants as place
use Rattle.mm_tree.specs.declared.forest.edit.Edit.{Edit}
use Rattle.mm_tree.specs.declared.forest.edit.Edit.TheVariants as edits
use Rattle.mm_tree.specs.Trees.{Trees, none, node, Tree, siblings}
use Rattle.mm_tree.specs.Numbering.{Labelled, node_of}
use Rattle.mm_tree.specs.Forests.{is_before, are_labelled}
use Rattle.mm_tree.specs.Edits.{has_label, Change, taken_out, put_instead, put, Gap, gap_at}

abbrev pub leads_to : List ℤ → Labelled → Bool
leads_to x e = starts_with int_eq x e.label

-- a node with the label comes before x, with all below it
abbrev pub is_passed : List ℤ → List ℤ → Bool
is_passed x label = is_before label x && not (starts_with int_eq x label)

-- siblings as in a well-formed forest, with all below them
abbrev pub AreSiblings : Trees Labelled → Type 0
AreSiblings trees = (parent : List ℤ) × (left : Option (List ℤ)) × (are_labelled parent left trees ≡ true)

-- the node with the label: below a sibling only where that one lies on the way
abbrev pub found_down : List ℤ → Trees Labelled → Option (Tree Labelled)
found_down x none = None
found_down x (node e inner rest) = if leads_to x e then (if has_label x e then Some (e, inner) else found_down x inner) else found_down x rest

-- the change at the node with the label
abbrev pub edit_down : Change → List ℤ → Trees Labelled → Trees Labelled
edit_down f x none = none
edit_down f x (node e inner rest) = if leads_to x e then (if has_label x e then f e inner rest else node e (edit_down f x inner) rest) else node e inner (edit_down f x rest)

-- the gap at the node with the label
abbrev pub gap_down : Place → List ℤ → List ℤ → Option (List ℤ) → Trees Labelled → Option Gap
gap_down place x y left none = None
gap_down place x y left (node e inner rest) =
    if leads_to x e then (if has_label x e then Some (gap_at place y left e inner rest) else gap_down place x e.label None inner) else gap_down place x y (Some e.label) rest

-- what an edit of the program does at its node
abbrev pub change_of : Edit → Change
change_of (edits.Insert place n) = put place (node_of n)
change_of edits.Delete = taken_out
change_of (edits.Replace n) = put_instead (node_of n)

-- the change at the i-th of the siblings
abbrev pub at_index : Change → ℕ → List (Tree Labelled) → Trees Labelled
at_index f i [] = none
at_index f zero (t ∷ ts) = f t.0 t.1 (siblings ts)
at_index f (suc i) (t ∷ ts) = node t.0 t.1 (at_index f i ts)

-- ---- the gap at the i-th of the siblings, which is n

abbrev pub node_label : List Node → ℕ → Option (List ℤ)
node_label ns i = option_map (λ n. (out-Node n).label) (slice_get ns i)

abbrev pub label_before : List Node → ℕ → Option (List ℤ)
label_before ns i = if nat_lt 0 i then node_label ns (i - 1) else None

abbrev pub gap_here : Place → List ℤ → List Node → Node → ℕ → Gap
gap_here place.Before y ns n i = record { parent = y; left = label_before ns i; right = Some (out-Node n).label }
gap_here place.After y ns n i = record { parent = y; left = Some (out-Node n).label; right = node_label ns (i + 1) }
gap_here place.First y ns n i = record { parent = (out-Node n).label; left = None; right = node_label (out-Node n).children 0 }
gap_here place.Last y ns n i = record { parent = (out-Node n).label; left = label_before (out-Node n).children (length (out-Node n).children); right = None }

-- this is the last segment of the label, where there is one
abbrev pub EndsIn : Option (List ℤ) → Option (List ℤ) → Type 0
EndsIn None None = ⊤
EndsIn None (Some s) = ⊥
EndsIn (Some label) None = ⊥
EndsIn (Some label) (Some s) = ((front : List ℤ) × IsLastSegment label front s) × IsSegment s

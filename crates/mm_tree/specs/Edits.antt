-- Edits of a forest: the node that is meant, the forest afterwards, and why an edit is refused.
use Rattle.std.specs.Prelude.{ℕ, ◌+◌, ◌-◌, ℤ, Bool, true, false, ◌||◌, ◌&&◌, ◌==◌, not, nat_le, List, [], ◌++◌, Option, Some, None, option_map, if◌then◌else◌}
use Rattle.std.specs.Ordering.{int_eq}
use Rattle.std.specs.Cmp.Lexicographic.{pointwise}
use Rattle.mm_label.specs.Label.{level}
use Rattle.mm_label.specs.Between.{between}
use Rattle.mm_tree.specs.declared.plain.Kind.{Kind}
use Rattle.mm_tree.specs.declared.forest.place.Place.{Place}
use Rattle.mm_tree.specs.declared.forest.place.Place.TheVariants.{Before, After, First, Last}
use Rattle.mm_tree.specs.declared.refusal.Refusal.{Refusal}
use Rattle.mm_tree.specs.declared.refusal.Refusal.TheVariants.{Absent, Leaf, Top, Deep, Room}
use Rattle.mm_tree.specs.Trees.{Trees, none, node, Tree, one, every, nodes, levels}
use Rattle.mm_tree.specs.Validity.{is_element}
use Rattle.mm_tree.specs.Numbering.{Labelled, number, has_room}
use Rattle.mm_tree.specs.Forests.{segment_below, and_then, level_limit}

-- ---- the node that is meant

abbrev pub has_label : List ℤ → Labelled → Bool
has_label x e = pointwise int_eq e.label x

-- some node has the label
abbrev pub has_node : List ℤ → Trees Labelled → Bool
has_node x none = false
has_node x (node e inner rest) = has_label x e || (has_node x inner || has_node x rest)

-- the first node that has the label, with its children
abbrev pub found : List ℤ → Trees Labelled → Option (Tree Labelled)
found x none = None
found x (node e inner rest) = if has_label x e then Some (e, inner) else (if has_node x inner then found x inner else found x rest)

abbrev pub size_of : Option (Tree Labelled) → ℕ
size_of None = 0
size_of (Some t) = nodes (one t)

-- how many nodes the subtree of the node with the label has
abbrev pub subtree_size : List ℤ → Trees Labelled → ℕ
subtree_size x forest = size_of (found x forest)

abbrev pub is_text_node : Option (Tree Labelled) → Bool
is_text_node None = false
is_text_node (Some t) = not (is_element t.0.kind)

-- ---- changes at a node

-- what becomes of a node, its children and the siblings after it
abbrev pub Change : Type 0
Change = Labelled → Trees Labelled → Trees Labelled → Trees Labelled

abbrev pub taken_out : Change
taken_out e inner rest = rest

abbrev pub put_instead : Tree Labelled → Change
put_instead u e inner rest = node u.0 u.1 rest

abbrev pub put : Place → Tree Labelled → Change
put Before u e inner rest = node u.0 u.1 (node e inner rest)
put After u e inner rest = node e inner (node u.0 u.1 rest)
put First u e inner rest = node e (node u.0 u.1 inner) rest
put Last u e inner rest = node e (and_then inner (one u)) rest

-- the change at each node that has the label
abbrev pub edit : Change → List ℤ → Trees Labelled → Trees Labelled
edit f x none = none
edit f x (node e inner rest) = if has_label x e then f e inner rest else node e (edit f x inner) (edit f x rest)

-- ---- where a new tree goes: its label lies between those of its neighbours, and no other label changes, as in ORDPATH (SIGMOD 2004)

-- the labels around the new root: its parent's, or nothing on top, and those of its neighbours
pub record Gap : Type 0 where
  pub parent : List ℤ
  pub left : Option (List ℤ)
  pub right : Option (List ℤ)

abbrev pub first_label : Trees Labelled → Option (List ℤ)
first_label none = None
first_label (node e inner rest) = Some e.label

-- the last sibling's label, or that of the one on the left of them all
abbrev pub last_label : Option (List ℤ) → Trees Labelled → Option (List ℤ)
last_label left none = left
last_label left (node e inner rest) = last_label (Some e.label) rest

-- at a node below y, with the label of the sibling before it
abbrev pub gap_at : Place → List ℤ → Option (List ℤ) → Labelled → Trees Labelled → Trees Labelled → Gap
gap_at Before y left e inner rest = record { parent = y; left = left; right = Some e.label }
gap_at After y left e inner rest = record { parent = y; left = Some e.label; right = first_label rest }
gap_at First y left e inner rest = record { parent = e.label; left = None; right = first_label inner }
gap_at Last y left e inner rest = record { parent = e.label; left = last_label None inner; right = None }

-- at the first node that has the label, among siblings below y behind one on the left
abbrev pub gap : Place → List ℤ → List ℤ → Option (List ℤ) → Trees Labelled → Gap
gap place x y left none = record { parent = y; left = left; right = None }
gap place x y left (node e inner rest) =
    if has_label x e then gap_at place y left e inner rest else (if has_node x inner then gap place x e.label None inner else gap place x y (Some e.label) rest)

-- the neighbours' segments
abbrev pub left_segment : Gap → Option (List ℤ)
left_segment g = option_map (λ l. segment_below g.parent l) g.left

abbrev pub right_segment : Gap → Option (List ℤ)
right_segment g = option_map (λ r. segment_below g.parent r) g.right

-- the parent's label, and a segment between those of the neighbours
abbrev pub label_in : Gap → List ℤ
label_in g = g.parent ++ between (left_segment g) (right_segment g)

abbrev pub inserted_label : Place → List ℤ → Trees Labelled → List ℤ
inserted_label place x forest = label_in (gap place x [] None forest)

-- ---- the forest afterwards

-- the tree, with new labels, before or after the node with the label x, or as its first or last child
abbrev pub insert : Place → List ℤ → Tree Kind → Trees Labelled → Trees Labelled
insert place x t forest = edit (put place (number (inserted_label place x forest) t)) x forest

-- without the node that has the label x, and all below it
abbrev pub delete : List ℤ → Trees Labelled → Trees Labelled
delete x forest = edit taken_out x forest

-- the tree in place of the node that has the label x and all below it: its root gets the label x
abbrev pub replace : List ℤ → Tree Kind → Trees Labelled → Trees Labelled
replace x t forest = edit (put_instead (number x t)) x forest

-- ---- why an edit is refused: the first cause counts

abbrev pub is_inside : Place → Bool
is_inside Before = false
is_inside After = false
is_inside First = true
is_inside Last = true

-- of a tree whose root gets the label x: a label doesn't fit
abbrev pub room_refusal : List ℤ → Tree Kind → Option Refusal
room_refusal x t = if not (every has_room (one (number x t))) then Some Room else None

-- of the same below so many levels: a text would stand on top, or a node below the last level that a forest may have, or a label doesn't fit
abbrev pub placed_refusal : ℕ → List ℤ → Tree Kind → Option Refusal
placed_refusal above x t =
    if (above == 0) && not (is_element t.0) then Some Top else (if not (nat_le (above + levels (one t)) level_limit) then Some Deep else room_refusal x t)

-- no node has the label; a text would get a child; or the new tree can't stand there
abbrev pub insert_refusal : Place → List ℤ → Tree Kind → Trees Labelled → Option Refusal
insert_refusal place x t forest =
    if not (has_node x forest) then Some Absent
    else (if is_inside place && is_text_node (found x forest) then Some Leaf
    else placed_refusal (level (gap place x [] None forest).parent) (inserted_label place x forest) t)

abbrev pub delete_refusal : List ℤ → Trees Labelled → Option Refusal
delete_refusal x forest = if not (has_node x forest) then Some Absent else None

abbrev pub replace_refusal : List ℤ → Tree Kind → Trees Labelled → Option Refusal
replace_refusal x t forest = if not (has_node x forest) then Some Absent else placed_refusal (level x - 1) x t

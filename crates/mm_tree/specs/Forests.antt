-- Forests: where labels stand, what makes a forest well formed, and what a load leaves.
use Rattle.std.specs.Prelude.{ℕ, ℤ, pos, Bool, true, ◌&&◌, not, nat_le, List, [], ◌∷◌, ◌≡◌, refl, length, drop, Option, Some, None, if◌then◌else◌, ⊤}
use Rattle.std.specs.List.{starts_with}
use Rattle.std.specs.Ordering.{int_eq, int_cmp, is_lt}
use Rattle.std.specs.Cmp.Lexicographic.{slice_cmp}
use Rattle.mm_label.specs.Label.{is_segment}
use Rattle.mm_label.specs.Between.{between}
use Rattle.mm_tree.specs.declared.plain.Kind.{Kind}
use Rattle.mm_tree.specs.declared.plain.Kind.TheVariants.{Element, Words}
use Rattle.mm_tree.specs.declared.refusal.Refusal.{Refusal}
use Rattle.mm_tree.specs.declared.refusal.Refusal.TheVariants.{Top, Deep, Room}
use Rattle.mm_tree.specs.declared.refusal.TreeError.{TreeError}
use Rattle.mm_tree.specs.declared.refusal.TreeError.TheVariants as error
use Rattle.mm_tree.specs.Trees.{Trees, none, node, Tree, one, every, levels}
use Rattle.mm_tree.specs.Validity.{is_element, is_valid_node, is_valid_kind}
use Rattle.std.specs.Char.{encode_utf8}
use Rattle.std.specs.Str.{chars, is_utf8}
use Rattle.mm_tree.specs.Numbering.{Labelled, number, has_room}

-- the segment by which a label goes on from its parent's
abbrev pub segment_below : List ℤ → List ℤ → List ℤ
segment_below parent label = drop (length parent) label

abbrev pub is_before : List ℤ → List ℤ → Bool
is_before a b = is_lt (slice_cmp int_cmp a b)

-- the segment comes after the one on the left, if there is one
abbrev pub rises : Option (List ℤ) → List ℤ → Bool
rises None segment = true
rises (Some left) segment = is_before left segment

-- the parent's label and one segment, which comes after the one on the left
abbrev pub is_child_label : List ℤ → Option (List ℤ) → List ℤ → Bool
is_child_label parent left label = starts_with int_eq label parent && (is_segment (segment_below parent label) && rises left (segment_below parent label))

-- each sibling's label is its parent's and one segment, the segments rise, and the same holds for the children of each
abbrev pub are_labelled : List ℤ → Option (List ℤ) → Trees Labelled → Bool
are_labelled parent left none = true
are_labelled parent left (node e inner rest) =
    is_child_label parent left e.label && (are_labelled e.label None inner && are_labelled parent (Some (segment_below parent e.label)) rest)

-- these siblings are elements, whatever lies below them
abbrev pub are_elements : Trees Labelled → Bool
are_elements none = true
are_elements (node e inner rest) = is_element e.kind && are_elements rest

abbrev pub has_valid_kind : Labelled → Bool → Bool
has_valid_kind e has_children = is_valid_node e.kind has_children

-- the most levels of a forest
abbrev pub level_limit : ℕ
level_limit = 200

-- labels tell where their nodes stand and fit, kinds are valid and texts have no children, the trees' roots are elements, and there are no more levels than the limit
abbrev pub is_well_formed : Trees Labelled → Bool
is_well_formed forest = are_labelled [] None forest && (every has_room forest && (every has_valid_kind forest && (are_elements forest && nat_le (levels forest) level_limit)))

-- siblings, and others behind them
abbrev pub and_then : {A : Type 0} → Trees A → Trees A → Trees A
and_then none us = us
and_then (node a inner rest) us = node a inner (and_then rest us)

-- the segment of the last sibling, or the one on the left of them all
abbrev pub last_segment : List ℤ → Option (List ℤ) → Trees Labelled → Option (List ℤ)
last_segment parent left none = left
last_segment parent left (node e inner rest) = last_segment parent (Some (segment_below parent e.label)) rest

-- the label of the tree that comes next
abbrev pub next_label : Trees Labelled → List ℤ
next_label forest = between (last_segment [] None forest) None

-- a tree with the labels that it gets behind a forest
abbrev pub numbered_behind : Trees Labelled → Tree Kind → Trees Labelled
numbered_behind forest t = one (number (next_label forest) t)

-- the forest after a load: the tree, with its labels, behind the others
abbrev pub load : Tree Kind → Trees Labelled → Trees Labelled
load t forest = and_then forest (numbered_behind forest t)

-- why a load is refused: a text on top, too many levels, a label that doesn't fit
abbrev pub load_refusal : Tree Kind → Trees Labelled → Option Refusal
load_refusal t forest =
    if not (is_element t.0) then Some Top
    else (if not (nat_le (levels (one t)) level_limit) then Some Deep
    else (if not (every has_room (numbered_behind forest t)) then Some Room else None))

-- an error is this refusal, or says that memory ran out
abbrev pub IsRefusal : TreeError → Option Refusal → Type 0
IsRefusal (error.Refused r) refusal = refusal ≡ Some r
IsRefusal error.Memory refusal = ⊤

-- ---- worked examples

a_leaf : Tree Kind
a_leaf = (Element (97 ∷ []) [], none)

first_label : next_label none ≡ pos 1 ∷ []
first_label = refl

third_label : next_label (load a_leaf (load a_leaf none)) ≡ pos 5 ∷ []
unfolding a_leaf
third_label = refl

loaded_well : is_well_formed (load a_leaf (load a_leaf none)) ≡ true
unfolding a_leaf is_valid_kind is_utf8 chars encode_utf8
loaded_well = refl

text_refused : load_refusal (Words (98 ∷ []), none) none ≡ Some Top
text_refused = refl

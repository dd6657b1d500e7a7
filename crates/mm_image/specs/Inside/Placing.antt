-- Where a tree may stand, apart from whether its labels fit and its kinds are valid.
use Rattle.std.specs.Prelude.{ℤ, Bool, true, Option, Some, ◌&&◌, ◌||◌, not, List, None, nat_le, nat_lt}
use Rattle.std.specs.Ordering.{int_cmp, int_eq, is_lt}
use Rattle.std.specs.Cmp.Lexicographic.{pointwise, slice_cmp}
use Rattle.mm_label.specs.Label.{level}
use Rattle.mm_tree.specs.Forests.{are_labelled, level_limit}
use Rattle.mm_tree.specs.Numbering.{Labelled}
use Rattle.mm_tree.specs.Trees.{Tree, every, one}
use Rattle.mm_tree.specs.Validity.{is_element}

-- the node, which has children or not, has no more levels than the limit, and a text has no children
abbrev pub fits_place : Labelled → Bool → Bool
fits_place e has_children = nat_le (level e.label) level_limit && (is_element e.kind || not has_children)

abbrev pub is_placed : List ℤ → Tree Labelled → Bool
is_placed label t = pointwise int_eq label t.0.label && (are_labelled t.0.label None t.1 && (every fits_place (one t) && (is_element t.0.kind || nat_lt 1 (level label))))

-- the label comes after the one on the left, if there is one
abbrev pub comes_after : Option (List ℤ) → List ℤ → Bool
comes_after None label = true
comes_after (Some left) label = is_lt (slice_cmp int_cmp left label)

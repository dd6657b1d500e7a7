-- What the calls have done so far.
use Rattle.std.specs.Prelude.{ℕ, Bool, true, false, ◌&&◌, List, [], ◌∷◌, ◌++◌, cond, Option, Some, None, unwrap_or}
use Rattle.std.specs.List.{list_any}
use Rattle.std.specs.BTreeMap.{BTreeMap, get}
use Rattle.std.specs.Int.Bits.{bit_or}
use Rattle.std.specs.Option.{option_cmp}
use Rattle.std.specs.Ordering.{int_cmp}
use Rattle.std.specs.Cmp.Lexicographic.{slice_cmp}
use Rattle.mm_label.specs.Label.{whole}
use Rattle.mm_match.specs.declared.mark.Mark.{Mark}
use Rattle.mm_label.specs.Fronts.{Label, is_front, same}
use Rattle.mm_match.specs.Marks.{under}

-- ---- one pass in document order: what was cut last, and whether a label lies at or below it

abbrev pub is_cut : Option Label → Label → Bool
is_cut None x = false
is_cut (Some c) x = is_front c x

abbrev pub thin : (Mark → Bool) → Option Label → List Mark → List Mark
thin bad cut [] = []
thin bad cut (m ∷ ms) = cond (is_cut cut m.label) (thin bad cut ms) (cond (bad m) (thin bad (Some m.label) ms) (m ∷ thin bad cut ms))

-- what a round leaves, where the mark is beaten or not
abbrev pub next_cut : Bool → Option Label → Mark → Option Label
next_cut bad cut m = cond (is_cut cut m.label) cut (cond bad (Some m.label) cut)

abbrev pub taken : Bool → List Mark → Option Label → Mark → List Mark
taken bad out cut m = cond (is_cut cut m.label) out (cond bad out (out ++ m ∷ []))

-- ---- the distinct masks of siblings, by their parent

abbrev pub masks_in : BTreeMap (Option Label) (List ℕ) → Option Label → List ℕ
masks_in siblings parent = unwrap_or (get (option_cmp (slice_cmp int_cmp)) siblings parent) []

-- one of the siblings has more words
abbrev pub outdone : BTreeMap (Option Label) (List ℕ) → Option Label → ℕ → Bool
outdone siblings parent mask = list_any (under mask) (masks_in siblings parent)

abbrev pub same_parent : Option Label → Option Label → Bool
same_parent None None = true
same_parent None (Some b) = false
same_parent (Some a) None = false
same_parent (Some a) (Some b) = same a b

-- ---- masks by their labels

abbrev pub mask_in : BTreeMap Label ℕ → Label → Option ℕ
mask_in masks x = get (slice_cmp int_cmp) masks x

-- a node on the way from the root down to the label
abbrev pub is_between : Label → Label → Label → Bool
is_between root x label = same (whole x) x && (is_front root x && is_front x label)

-- the mask with more words
abbrev pub more : Option ℕ → ℕ → Option ℕ
more mask words = Some (bit_or (unwrap_or mask 0) words)

-- the mask of a node after a match
abbrev pub let_in : Label → Label → Mark → Option ℕ → Option ℕ
let_in root x m mask = cond (is_between root x m.label) (more mask m.mask) mask

-- the mask of a node after some matches
abbrev pub gathered : Label → Label → Option ℕ → List Mark → Option ℕ
gathered root x mask [] = mask
gathered root x mask (m ∷ ms) = gathered root x (let_in root x m mask) ms

-- a label is a front of the other one, where there is one
abbrev pub is_above : Label → Option Label → Bool
is_above x None = false
is_above x (Some a) = is_front x a

-- the marks of a list of labels with their masks
abbrev pub marks_of : List (Label × ℕ) → List Mark
marks_of [] = []
marks_of (e ∷ es) = record { label = e.0; mask = e.1 } ∷ marks_of es

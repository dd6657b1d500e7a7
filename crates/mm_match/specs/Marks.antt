-- Marks: nodes with words of a query as bits. What a node's mask is, and which marks are kept.
use Rattle.std.specs.Prelude.{ℕ, Bool, not, ◌&&◌, List, [], ◌∷◌, ◌≡◌, nat_eq, cond, map, Option, Some, None, if◌then◌else◌}
use Rattle.std.specs.List.{list_any, filter}
use Rattle.std.specs.Int.Bits.{bit_and, bit_or}
use Rattle.mm_label.specs.Label.{whole}
use Rattle.mm_match.specs.declared.mark.Mark.{Mark}
use Rattle.mm_label.specs.Fronts.{Label, Front, is_front, Meets, same, parent}

abbrev pub mark_label : Mark → Label
mark_label m = m.label

abbrev pub labels : List Mark → List Label
labels = map mark_label

-- ---- masks

-- a node on a path from the root to a match
pub record IsOnPath (root : Label) (matches : List Mark) (x : Label) : Type 0 where
  pub is_whole : whole x ≡ x
  pub below : Front root x
  pub above : Meets x (labels matches)

-- a label, where it lies at or below the root
abbrev pub at_or_below : Label → Option Label → Option Label
at_or_below root None = None
at_or_below root (Some x) = if is_front root x then Some x else None

-- the words so far, and those of the matches at or below the node
abbrev pub mask_from : ℕ → Label → List Mark → ℕ
mask_from n x [] = n
mask_from n x (m ∷ ms) = mask_from (cond (is_front x m.label) (bit_or n m.mask) n) x ms

-- the words of the matches at or below the node
abbrev pub mask_at : Label → List Mark → ℕ
mask_at x matches = mask_from 0 x matches

-- ---- contributors

-- some of the other's words, and not all
abbrev pub under : ℕ → ℕ → Bool
under a b = nat_eq (bit_and a b) a && not (nat_eq a b)

-- the second is a sibling whose words are a strict superset
abbrev pub is_rival : Mark → Mark → Bool
is_rival m n = same (parent m.label) (parent n.label) && under m.mask n.mask

abbrev pub is_beaten : List Mark → Mark → Bool
is_beaten all m = list_any (is_rival m) all

-- no mark at or above it is beaten by a sibling
abbrev pub survives : List Mark → Mark → Bool
survives all m = not (list_any (λ p. is_front p.label m.label && is_beaten all p) all)

abbrev pub kept : List Mark → List Mark
kept all = filter (survives all) all

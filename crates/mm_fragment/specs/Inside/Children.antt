-- The children of a node on the way to nodes below it, and which of them are full.
use Rattle.std.specs.Prelude.{Bool, false, List, Option, Some, None}
use Rattle.mm_label.specs.Fronts.{Label, Front, is_front, IsChild}
use Rattle.mm_fragment.specs.Matching.{Reaches}

-- the child of x at or above m at or below which there is an answer, or None where there is none
abbrev pub IsFullChild : Label → List Label → Label → Option Label → Type 0
IsFullChild x answers m None = (k : Label) → IsChild x k → Front k m → Reaches k answers → ⊥
IsFullChild x answers m (Some k) = IsChild x k × Front k m × Reaches k answers

-- x is the label or an ancestor of it, where there is one
abbrev pub is_above : Label → Option Label → Bool
is_above x None = false
is_above x (Some y) = is_front x y

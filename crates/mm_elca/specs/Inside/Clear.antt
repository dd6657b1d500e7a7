-- The first node of a list outside some of the children of a node.
use Rattle.std.specs.Prelude.{Bool, true, false, List, [], ◌∷◌, ◌≡◌, ◌⊎◌, Option, Some, None}
use Rattle.mm_label.specs.Fronts.{Label, Front, is_front, Le, Within}

-- none of them is m or above it
abbrev pub Clear : List Label → Label → Type 0
Clear ks m = (k : Label) → Within k ks → Front k m → ⊥

-- the first at or after x that is at or below none of them
abbrev pub IsFirstClear : List Label → Label → List Label → Option Label → Type 0
IsFirstClear ms x ks None = (m : Label) → Within m ms → Le x m → Clear ks m → ⊥
IsFirstClear ms x ks (Some p) = Within p ms × Le x p × Clear ks p × ((m : Label) → Within m ms → Le x m → Clear ks m → Le p m)

abbrev pub is_under : Label → Option Label → Bool
is_under x None = false
is_under x (Some p) = is_front x p

-- the list has a node at or below x outside these children, or it has none
abbrev pub HasClear : List Label → Label → List Label → Bool → Type 0
HasClear ms x ks true = (p : Label) × Within p ms × Front x p × Clear ks p
HasClear ms x ks false = (p : Label) → Within p ms → Front x p → Clear ks p → ⊥

-- each of the lists has one, or one of them has none
abbrev pub HaveClear : List (List Label) → Label → List Label → Bool → Type 0
HaveClear [] x ks b = b ≡ true
HaveClear (ms ∷ ls) x ks true = HasClear ms x ks true × HaveClear ls x ks true
HaveClear (ms ∷ ls) x ks false = HasClear ms x ks false ⊎ HaveClear ls x ks false

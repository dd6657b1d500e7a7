-- Keyword lists: what a look-up in the list of a word finds. The left and the right match are those of
-- Xu and Papakonstantinou: "Efficient Keyword Search for Smallest LCAs in XML Databases", SIGMOD 2005.
use Rattle.std.specs.Prelude.{ℤ, List, [], ◌∷◌, Option, Some, None}
use Rattle.std.specs.List.{Contains}
use Rattle.mm_label.specs.Label.{IsBefore}
use Rattle.mm_label.specs.Fronts.{IsAtOrBefore, IsPast}

-- the first of the list of which P holds, or None where it holds of none
abbrev pub IsFirst : (List ℤ → Type 0) → List (List ℤ) → Option (List ℤ) → Type 0
IsFirst P list None = (m : List ℤ) → Contains list m → P m → ⊥
IsFirst P list (Some r) = Contains list r × P r × ((m : List ℤ) → Contains list m → P m → IsAtOrBefore r m)

-- the last of the list of which P holds, or None where it holds of none
abbrev pub IsLast : (List ℤ → Type 0) → List (List ℤ) → Option (List ℤ) → Type 0
IsLast P list None = (m : List ℤ) → Contains list m → P m → ⊥
IsLast P list (Some l) = Contains list l × P l × ((m : List ℤ) → Contains list m → P m → IsAtOrBefore m l)

-- the left match: the last at or before v
abbrev pub IsLeft : List (List ℤ) → List ℤ → Option (List ℤ) → Type 0
IsLeft list v = IsLast (λ m. IsAtOrBefore m v) list

-- the right match: the first at or after v
abbrev pub IsRight : List (List ℤ) → List ℤ → Option (List ℤ) → Type 0
IsRight list v = IsFirst (λ m. IsAtOrBefore v m) list

-- the first after v
abbrev pub IsNext : List (List ℤ) → List ℤ → Option (List ℤ) → Type 0
IsNext list v = IsFirst (λ m. IsBefore v m) list

-- the first after all of v's subtree
abbrev pub IsRightPast : List (List ℤ) → List ℤ → Option (List ℤ) → Type 0
IsRightPast list v = IsFirst (λ m. IsPast v m) list

-- the first of all
abbrev pub head_of : List (List ℤ) → Option (List ℤ)
head_of [] = None
head_of (m ∷ ms) = Some m

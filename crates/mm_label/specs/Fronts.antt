-- Order and ancestry of labels as recursions, members of lists, and lists in order. A label is a list of whole numbers here,
-- and the empty one stands above all trees.
use Rattle.std.specs.Prelude.{ℤ, Bool, true, false, ◌&&◌, List, [], ◌∷◌, ◌≡◌, ◌⊎◌, ◌<ℤ◌, Option, Some, None}
use Rattle.std.specs.Ordering.{int_eq}
use Rattle.mm_label.specs.Label.{IsBefore, IsAncestorOrSelf, whole}

abbrev pub Label : Type 0
Label = List ℤ

-- a is b, or a front of it
abbrev pub Front : Label → Label → Type 0
Front = IsAncestorOrSelf

abbrev pub is_front : Label → Label → Bool
is_front [] b = true
is_front (x ∷ a) [] = false
is_front (x ∷ a) (y ∷ b) = int_eq x y && is_front a b

-- a is b, or comes before it
abbrev pub Le : Label → Label → Type 0
Le [] b = Unit {0}
Le (x ∷ a) [] = ⊥
Le (x ∷ a) (y ∷ b) = (x <ℤ y) ⊎ ((x ≡ y) × Le a b)

abbrev pub Lt : Label → Label → Type 0
Lt a b = Le a b × (a ≡ b → ⊥)

-- a comes before b and all that lies below a
abbrev pub Apart : Label → Label → Type 0
Apart a b = Le a b × (Front a b → ⊥)

-- a comes before b, or is b
abbrev pub IsAtOrBefore : List ℤ → List ℤ → Type 0
IsAtOrBefore a b = (a ≡ b) ⊎ IsBefore a b

-- b comes after a and after all that lies below a
abbrev pub IsPast : List ℤ → List ℤ → Type 0
IsPast a b = IsBefore a b × (IsAncestorOrSelf a b → ⊥)

abbrev pub same : Label → Label → Bool
same a b = is_front a b && is_front b a

-- without the last number
abbrev pub but_last : Label → Label
but_last [] = []
but_last (c ∷ []) = []
but_last (c ∷ d ∷ ds) = c ∷ but_last (d ∷ ds)

-- the label without its last segment; the empty label stands above those of level 1
abbrev pub parent : Label → Label
parent x = whole (but_last x)

-- the label, or the empty one where there is none
abbrev pub or_empty : Option Label → Label
or_empty None = []
or_empty (Some a) = a

-- the empty label is no node's
abbrev pub unless_empty : Label → Option Label
unless_empty [] = None
unless_empty (c ∷ cs) = Some (c ∷ cs)

-- x is y and one segment
pub record IsChild (y x : Label) : Type 0 where
  pub below : Front y x
  pub is_whole : whole x ≡ x
  pub longer : x ≡ y → ⊥
  pub one : (z : Label) → whole z ≡ z → Front z x → Front z y ⊎ (z ≡ x)

-- ---- lists

abbrev pub Within : {A : Type 0} → A → List A → Type 0
Within x [] = ⊥
Within x (m ∷ ms) = (x ≡ m) ⊎ Within x ms

-- each stands in R to all behind it
abbrev pub Ordered : {A : Type 0} → (A → A → Type 0) → List A → Type 0
Ordered R [] = Unit {0}
Ordered {A} R (d ∷ ds) = ((m : A) → Within m ds → R d m) × Ordered R ds

-- each comes before all after it
abbrev pub Ascends : List Label → Type 0
Ascends = Ordered Lt

-- the label or one below it is in the list
abbrev pub Meets : Label → List Label → Type 0
Meets x [] = ⊥
Meets x (m ∷ ms) = Front x m ⊎ Meets x ms

-- The children of a node on the way to nodes below it.
use Rattle.std.specs.Prelude.{List, [], ◌∷◌, ◌≡◌, ◌⊎◌}
use Rattle.mm_label.specs.Label.{whole}
use Rattle.mm_label.specs.Fronts.{Label, Front, Apart, Within, Ordered, IsChild}

-- nodes below x
abbrev pub AreBelow : Label → List Label → Type 0
AreBelow x ts = (t : Label) → Within t ts → (whole t ≡ t) × Front x t × (t ≡ x → ⊥)

-- in the place of each node the child of x that is this node or above it
abbrev pub AreChildrenTo : Label → List Label → List Label → Type 0
AreChildrenTo x [] [] = Unit {0}
AreChildrenTo x [] (k ∷ ks) = ⊥
AreChildrenTo x (t ∷ ts) [] = ⊥
AreChildrenTo x (t ∷ ts) (k ∷ ks) = (IsChild x k × Front k t) × AreChildrenTo x ts ks

-- each is what comes after it, or before that and all below it
abbrev pub RiseOrStay : List Label → Type 0
RiseOrStay = Ordered (λ k j. (k ≡ j) ⊎ Apart k j)

-- children of x in document order, maybe more than once
abbrev pub AreChildren : Label → List Label → Type 0
AreChildren x ks = ((k : Label) → Within k ks → Front x k) × RiseOrStay ks

-- the child of x that is taken into account after these
abbrev pub IsNextChild : Label → Label → List Label → Type 0
IsNextChild x k ks = Front x k × ((j : Label) → Within j ks → (j ≡ k) ⊎ Apart j k)

-- A node owns an occurrence of a word where no full node truly below it is at or above that occurrence.
-- ELCA: Xu and Papakonstantinou, "Efficient LCA based Keyword Search in XML Data", EDBT 2008.
use Rattle.std.specs.Prelude.{List, [], ◌∷◌, ◌≡◌}
use Rattle.mm_label.specs.Fronts.{Label, Front, Within, Meets, Ascends}
use Rattle.mm_lists.specs.Full.{IsFull, IsFullNode}

-- no full label truly below x is at or above m
abbrev pub IsOwn : List (List Label) → Label → Label → Type 0
IsOwn all x m = Front x m × ((y : Label) → IsFull all y → Front x y → (y ≡ x → ⊥) → Front y m → ⊥)

-- each of the lists has a node that is x's own
abbrev pub OwnsEach : List (List Label) → Label → List (List Label) → Type 0
OwnsEach all x [] = Unit {0}
OwnsEach all x (l ∷ ls) = ((m : Label) × Within m l × IsOwn all x m) × OwnsEach all x ls

abbrev pub IsOwner : List (List Label) → Label → Type 0
IsOwner all x = OwnsEach all x all

-- full nodes in document order, one at or below each full node
pub record Candidates (all : List (List Label)) (cs : List Label) : Type 0 where
  pub ascends : Ascends cs
  pub full : (c : Label) → Within c cs → IsFullNode all c
  pub covers : (y : Label) → IsFullNode all y → Meets y cs

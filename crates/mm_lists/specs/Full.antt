-- Where each of some keyword lists is met, and the deepest such labels.
use Rattle.std.specs.Prelude.{ℕ, List, [], ◌∷◌, ◌≡◌}
use Rattle.mm_label.specs.Label.{whole}
use Rattle.mm_label.specs.Fronts.{Label, Front, Apart, Within, Ordered, Meets}

-- a word is the list of its bytes
abbrev pub Word : Type 0
Word = List ℕ

-- each comes before all after it, and none lies below another
abbrev pub Rising : List Label → Type 0
Rising = Ordered Apart

-- it meets each list
abbrev pub MeetsAll : Label → List (List Label) → Type 0
MeetsAll x [] = Unit {0}
MeetsAll x (l ∷ ls) = Meets x l × MeetsAll x ls

-- a label at which each list is met: a node, or the empty label above all trees
abbrev pub IsFull : List (List Label) → Label → Type 0
IsFull ls x = (whole x ≡ x) × MeetsAll x ls

-- a node at which each list is met
abbrev pub IsFullNode : List (List Label) → Label → Type 0
IsFullNode ls x = (whole x ≡ x) × MeetsAll x ls × (x ≡ [] → ⊥)

-- the deepest nodes at which each list is met, in document order, each once
pub record Deepest (ls : List (List Label)) (r : List Label) : Type 0 where
  pub rising : Rising r
  pub full : (u : Label) → Within u r → IsFullNode ls u
  pub covers : (z : Label) → IsFullNode ls z → Meets z r

-- the deepest label at or above v at which each list is met
pub record IsCandidate (ls : List (List Label)) (v c : Label) : Type 0 where
  pub full : IsFull ls c
  pub above : Front c v
  pub deepest : (z : Label) → IsFull ls z → Front z v → Front z c

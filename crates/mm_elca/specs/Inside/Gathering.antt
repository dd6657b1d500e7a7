-- The candidates while they are gathered and put in order, and a node of them before those that were passed.
use Rattle.std.specs.Prelude.{ℕ, Option, Some, None, ◌<◌, length, take, drop, List, [], ◌∷◌, ◌++◌, ◌≡◌}
use Rattle.mm_label.specs.Fronts.{Label, Front, Within, Lt, Ascends}
use Rattle.mm_lists.specs.Full.{IsFull, IsFullNode, IsCandidate}
use Rattle.mm_lists.specs.Lists.{head_of}

-- x is a full node before those that were passed, and each full label below it is above one of these
pub record Ready (all : List (List Label)) (x : Label) (passed : List Label) : Type 0 where
  pub here : IsFull all x
  pub later : (c : Label) → Within c passed → Lt x c
  pub full : (c : Label) → Within c passed → IsFull all c
  pub covers : (y : Label) → IsFull all y → Front x y → (y ≡ x → ⊥) → (c : Label) × Within c passed × Front y c

-- full nodes, among them the candidate of each node of the list
pub record Gathered (all : List (List Label)) (ms cs : List Label) : Type 0 where
  pub full : (c : Label) → Within c cs → IsFullNode all c
  pub each : (v y : Label) → Within v ms → IsFullNode all y → Front y v → (c : Label) × Within c cs × IsCandidate all v c

-- i nodes of the list were passed, and it stands at the next
pub record Gathering (all : List (List Label)) (ms : List Label) (i : ℕ) (cs : List Label) (at : Option Label) : Type 0 where
  pub gathered : Gathered all (take i ms) cs
  pub here : at ≡ head_of (drop i ms)

-- a candidate is put behind the others, if there is one
abbrev pub TakesIn : Option Label → List Label → List Label → Type 0
TakesIn None old new = new ≡ old
TakesIn (Some c) old new = (new ≡ old ++ c ∷ []) × (0 < length c)

-- the same labels in document order, each once
pub record IsInOrder (these list : List Label) : Type 0 where
  pub ascends : Ascends list
  pub from : (u : Label) → Within u list → Within u these
  pub all : (u : Label) → Within u these → Within u list

-- Changes as a list, and their bytes.
use Rattle.std.specs.Prelude.{◌≤◌, ℕ, List, [], ◌∷◌, ◌++◌, length, Option, Bool, true, false, Some, None}
use Rattle.mm_keeper.specs.Entries.{Entries}
use Rattle.mm_logmap.specs.Batches.{changed, encoded, value_bytes}

-- a key, and its value from now on
abbrev pub Change : Type 0
Change = List ℕ × Option (List ℕ)

abbrev pub applied : Entries → List Change → Entries
applied map [] = map
applied map (c ∷ cs) = applied (changed map c.0 c.1) cs

abbrev pub encode : List Change → List ℕ
encode [] = []
encode (c ∷ cs) = encoded c.0 c.1 ++ encode cs

-- the lengths that a change may have
abbrev pub IsFit : Change → Type 0
IsFit c = (1 ≤ length c.0) × (length c.0 ≤ 800) × (length (value_bytes c.1) ≤ 1024)

abbrev pub AllFit : List Change → Type 0
AllFit [] = Unit {0}
AllFit (c ∷ cs) = IsFit c × AllFit cs

-- each key has a length that a change may have
abbrev pub HasFitKeys : Entries → Type 0
HasFitKeys [] = Unit {0}
HasFitKeys (e ∷ m) = ((1 ≤ length e.0) × (length e.0 ≤ 800)) × HasFitKeys m

-- a value that was read, or none
abbrev pub value_of : Bool → List ℕ → Option (List ℕ)
value_of true value = None
value_of false value = Some value

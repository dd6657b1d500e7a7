-- A sorted list of entries, each a key and its value.
use Rattle.std.specs.Prelude.{◌≡◌, ◌≤◌, ◌⊎◌, ◌^◌, ℕ, suc, ◌+◌, ◌-◌, List, [], ◌∷◌, length, Option, Some, None, option_map, Bool, true, false, if◌then◌else◌, nat_lt}
use Rattle.std.specs.Ordering.{nat_cmp, is_lt}
use Rattle.std.specs.Cmp.Lexicographic.{slice_cmp}
use Rattle.std.specs.Str.{bytes_eq}

abbrev pub Entry : Type 0
Entry = List ℕ × List ℕ

abbrev pub Entries : Type 0
Entries = List Entry

-- one key stands before another
abbrev pub below : List ℕ → List ℕ → Bool
below a b = is_lt (slice_cmp nat_cmp a b)

-- a key is below all of these
abbrev pub IsBelow : List ℕ → Entries → Type 0
IsBelow k [] = Unit {0}
IsBelow k (e ∷ m) = (below k e.0 ≡ true) × IsBelow k m

-- all of these are below a key
abbrev pub AllBelow : Entries → List ℕ → Type 0
AllBelow [] k = Unit {0}
AllBelow (e ∷ m) k = (below e.0 k ≡ true) × AllBelow m k

-- each key is below those after it
abbrev pub Rises : Entries → Type 0
Rises [] = Unit {0}
Rises (e ∷ m) = IsBelow e.0 m × Rises m

-- Entries whose keys rise are a sorted map.
pub record IsSorted (m : Entries) : Type 0 where
  pub rises : Rises m

-- how many keys are below this one: all in front
abbrev pub rank : Entries → List ℕ → ℕ
rank [] k = 0
rank (e ∷ m) k = if below e.0 k then suc (rank m k) else 0

abbrev pub has : Entries → List ℕ → Bool
has [] k = false
has (e ∷ m) k = if below e.0 k then has m k else bytes_eq e.0 k

-- the value of a key
abbrev pub lookup : Entries → List ℕ → Option (List ℕ)
lookup [] k = None
lookup (e ∷ m) k = if below e.0 k then lookup m k else (if bytes_eq e.0 k then Some e.1 else None)

abbrev pub put : Entries → List ℕ → List ℕ → Entries
put [] k v = (k, v) ∷ []
put (e ∷ m) k v = if below e.0 k then e ∷ put m k v else (k, v) ∷ (if bytes_eq e.0 k then m else e ∷ m)

abbrev pub without : Entries → List ℕ → Entries
without [] k = []
without (e ∷ m) k = if below e.0 k then e ∷ without m k else (if bytes_eq e.0 k then m else e ∷ m)

-- the place of a key
abbrev pub index_of : Entries → List ℕ → Option ℕ
index_of m k = if has m k then Some (rank m k) else None

-- a place that is in range
abbrev pub within : Entries → ℕ → Option ℕ
within m i = if nat_lt i (length m) then Some i else None

-- the place before this one
abbrev pub one_before : ℕ → Option ℕ
one_before i = if nat_lt 0 i then Some (i - 1) else None

-- the first place at or above a key
abbrev pub first_from : Entries → List ℕ → Option ℕ
first_from m k = within m (rank m k)

-- the last place at or below a key
abbrev pub last_to : Entries → List ℕ → Option ℕ
last_to m k = if has m k then Some (rank m k) else one_before (rank m k)

-- the lengths of all keys and values together
abbrev pub weight_of : Entries → ℕ
weight_of [] = 0
weight_of (e ∷ m) = length e.0 + length e.1 + weight_of m

-- An entry may be put: its key is held with a value of this length, or the weight stays within its bound.
abbrev pub HasRoom : Entries → List ℕ → List ℕ → Type 0
HasRoom m k v = (option_map length (lookup m k) ≡ Some (length v)) ⊎ (weight_of (put m k v) ≤ 2 ^ 42)

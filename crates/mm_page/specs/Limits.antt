-- How long entries may be, the room that they take in a leaf, and another value for one of them.
use Rattle.std.specs.Prelude.{ℕ, zero, suc, ◌+◌, ◌≤◌, List, [], ◌∷◌, length}
use Rattle.mm_keeper.specs.Entries.{Entries}

-- the bytes that the entries take in a leaf: slot, lengths, key and value of each
abbrev pub size : Entries → ℕ
size [] = 0
size (e ∷ m) = 6 + length e.0 + length e.1 + size m

-- lengths within the limits
abbrev pub AreWithin : Entries → Type 0
AreWithin [] = Unit {0}
AreWithin (e ∷ m) = (1 ≤ length e.0) × (length e.0 ≤ 800) × (length e.1 ≤ 1024) × AreWithin m

-- another value for the entry at an index
abbrev pub revalued : Entries → ℕ → List ℕ → Entries
revalued [] i v = []
revalued (e ∷ m) zero v = (e.0, v) ∷ m
revalued (e ∷ m) (suc i) v = e ∷ revalued m i v

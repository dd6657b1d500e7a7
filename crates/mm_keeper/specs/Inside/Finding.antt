-- The block in which a key is sought.
use Rattle.std.specs.Prelude.{◌<◌, ℕ, suc, ◌+◌, List, [], ◌∷◌, length, take, drop, slice_index_or, Bool, true, Option, Some, None}
use Rattle.mm_keeper.specs.Entries.{AllBelow, Entries, below, IsBelow, rank}
use Rattle.mm_keeper.specs.Blocks.{Blocks, joined}

-- the last of these is below a key
abbrev pub ends_below : Entries → List ℕ → Bool
ends_below [] k = true
ends_below (e ∷ []) k = below e.0 k
ends_below (e ∷ (x ∷ m)) k = ends_below (x ∷ m) k

-- A key belongs into this block: what stands before it is below the key, and the key is below what stands behind it.
pub record IsAt (bs : Blocks) (k : List ℕ) (i : ℕ) : Type 0 where
  pub front : AllBelow (joined (take i bs)) k
  pub inside : i < length bs → rank (slice_index_or bs i []) k < length (slice_index_or bs i [])
  pub back : IsBelow k (joined (drop (suc i) bs))

-- the length of a value that may be there
abbrev pub length_of : Option (List ℕ) → ℕ
length_of None = 0
length_of (Some v) = length v

-- the bytes of an entry that may be there
abbrev pub bytes_of : Option (List ℕ × List ℕ) → ℕ
bytes_of None = 0
bytes_of (Some e) = length e.0 + length e.1

-- Entries that stand in blocks, one block after the other.
use Rattle.std.specs.Prelude.{◌≡◌, ◌<◌, ℕ, zero, suc, ◌+◌, List, [], ◌∷◌, ◌++◌, length, if◌then◌else◌, nat_lt}
use Rattle.mm_keeper.specs.Entries.{Entries, Rises, weight_of}

abbrev pub Blocks : Type 0
Blocks = List Entries

-- all entries in order
abbrev pub joined : Blocks → Entries
joined [] = []
joined (m ∷ bs) = m ++ joined bs

-- the place, among all entries, of the one at an index of a block; past the end where there is none
abbrev pub place_in : Blocks → ℕ → ℕ → ℕ
place_in [] b i = 0
place_in (m ∷ bs) zero i = if nat_lt i (length m) then i else length m + length (joined bs)
place_in (m ∷ bs) (suc b) i = length m + place_in bs b i

-- no block is empty
abbrev pub AllSome : Blocks → Type 0
AllSome [] = Unit {0}
AllSome (m ∷ bs) = (0 < length m) × AllSome bs

-- Blocks that are a sorted map of this weight.
pub record IsMap (bs : Blocks) (total : ℕ) : Type 0 where
  pub rises : Rises (joined bs)
  pub some : AllSome bs
  pub weight : total ≡ weight_of (joined bs)

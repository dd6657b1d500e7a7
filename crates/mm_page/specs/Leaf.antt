-- A leaf page: what its bytes hold, and which bytes are a leaf.
use Rattle.std.specs.Prelude.{◌≡◌, ℕ, zero, suc, ◌+◌, ◌*◌, ◌/◌, ◌%◌, ◌-◌, ◌≤◌, List, [], ◌∷◌, ◌++◌, length, take, drop, replicate}
use Rattle.byteorder.specs.Endian.{big_number}
use Rattle.mm_keeper.specs.Entries.{Entries, Rises}
use Rattle.mm_page.specs.Limits.{AreWithin}

-- so many bytes from a place on
abbrev pub block : ℕ → ℕ → List ℕ → List ℕ
block at n bytes = take n (drop at bytes)

-- the bytes with others written at a place
abbrev pub pasted : List ℕ → ℕ → List ℕ → List ℕ
pasted bytes at new = take at bytes ++ (new ++ drop (at + length new) bytes)

-- these bytes stand at a place
abbrev pub Stands : ℕ → List ℕ → List ℕ → Type 0
Stands at new bytes = block at (length new) bytes ≡ new

-- a number in two bytes
abbrev pub two : ℕ → List ℕ
two n = n / 256 ∷ n % 256 ∷ []

-- the number in the first two bytes
abbrev pub first_two : List ℕ → ℕ
first_two [] = 0
first_two (a ∷ []) = 0
first_two (a ∷ b ∷ bs) = 256 * a + b

abbrev pub number_at : ℕ → List ℕ → ℕ
number_at at bytes = first_two (drop at bytes)

-- an entry's cell: both lengths, key, value
abbrev pub cell : List ℕ × List ℕ → List ℕ
cell e = two (length e.0) ++ (two (length e.1) ++ (e.0 ++ e.1))

abbrev pub cells : Entries → List ℕ
cells [] = []
cells (e ∷ m) = cell e ++ cells m

-- the places of the cells, the first of which stands here
abbrev pub slots : ℕ → Entries → List ℕ
slots at [] = []
slots at (e ∷ m) = two at ++ slots (at + length (cell e)) m

-- the place behind the cell that begins here
abbrev pub cell_end : List ℕ → ℕ → ℕ
cell_end bytes at = at + 4 + number_at at bytes + number_at (at + 2) bytes

abbrev pub key_at : List ℕ → ℕ → List ℕ
key_at bytes at = block (at + 4) (number_at at bytes) bytes

abbrev pub value_at : List ℕ → ℕ → List ℕ
value_at bytes at = block (at + 4 + number_at at bytes) (number_at (at + 2) bytes) bytes

-- the entries of so many cells, the first of which begins here
abbrev pub entries_at : List ℕ → ℕ → ℕ → Entries
entries_at bytes zero at = []
entries_at bytes (suc n) at = (key_at bytes at, value_at bytes at) ∷ entries_at bytes n (cell_end bytes at)

abbrev pub count_of : List ℕ → ℕ
count_of bytes = number_at 2 bytes

abbrev pub start_of : List ℕ → ℕ
start_of bytes = 16 + 2 * count_of bytes

-- the entries that a page's bytes hold
unfoldable pub entries_of : List ℕ → Entries
entries_of bytes = entries_at bytes (count_of bytes) (start_of bytes)

-- the number of the next leaf, 0 for none
abbrev pub next_of : List ℕ → ℕ
next_of bytes = big_number 8 (drop 4 bytes)

-- the bytes behind the head are the slots and cells of these entries
pub record Holds (bytes : List ℕ) (m : Entries) : Type 0 where
  pub sort : Stands 0 (76 ∷ []) bytes
  pub count : Stands 2 (two (length m)) bytes
  pub places : Stands 16 (slots (16 + 2 * length m) m) bytes
  pub row : Stands (16 + 2 * length m) (cells m) bytes
  pub room : 16 + 2 * length m + length (cells m) ≤ 4096
  pub limits : AreWithin m
  pub rises : Rises m

-- the bytes are those of the leaf that they are read as
pub record IsLeaf (bytes : List ℕ) : Type 0 where
  pub size : length bytes ≡ 4096
  pub holds : Holds bytes (entries_of bytes)

-- the place of a cell, or behind the last one
abbrev pub place_in : Entries → ℕ → ℕ
place_in m i = 16 + 2 * length m + length (cells (take i m))

-- what isn't read is 00
pub record IsTidy (bytes : List ℕ) : Type 0 where
  pub second : Stands 1 (0 ∷ []) bytes
  pub head : Stands 12 (replicate 4 0) bytes
  pub rest : drop (place_in (entries_of bytes) (length (entries_of bytes))) bytes ≡ replicate (4096 - place_in (entries_of bytes) (length (entries_of bytes))) 0

-- Rows of slots and cells: what a walk over them has seen, and what is there before the slots are written.
use Rattle.std.specs.Prelude.{◌≡◌, ℕ, zero, suc, ◌+◌, ◌*◌, ◌≤◌, List, length, true}
use Rattle.mm_keeper.specs.Entries.{Entries, below, Rises}
use Rattle.mm_page.specs.Limits.{AreWithin}
use Rattle.mm_page.specs.Leaf.{block, Stands, two, number_at, cells, cell_end, key_at}

-- slot i and its cell are right
pub record IsCell (bytes : List ℕ) (i at : ℕ) (last : List ℕ) : Type 0 where
  pub place : block (16 + 2 * i) 2 bytes ≡ two at
  pub key_length : block at 2 bytes ≡ two (number_at at bytes)
  pub value_length : block (at + 2) 2 bytes ≡ two (number_at (at + 2) bytes)
  pub room : cell_end bytes at ≤ 4096
  pub some : 1 ≤ number_at at bytes
  pub most : number_at at bytes ≤ 800
  pub value : number_at (at + 2) bytes ≤ 1024
  pub rises : below last (key_at bytes at) ≡ true

abbrev pub AreCells : List ℕ → ℕ → ℕ → ℕ → List ℕ → Type 0
AreCells bytes zero i at last = at ≤ 4096
AreCells bytes (suc n) i at last = IsCell bytes i at last × AreCells bytes n (suc i) (cell_end bytes at) (key_at bytes at)

-- cells of which the slots are still to be written
pub record IsRow (bytes : List ℕ) (m : Entries) : Type 0 where
  pub size : length bytes ≡ 4096
  pub row : Stands (16 + 2 * length m) (cells m) bytes
  pub room : 16 + 2 * length m + length (cells m) ≤ 4096
  pub limits : AreWithin m
  pub rises : Rises m

-- What numbered pages hold, and what each call on them leaves.
use Rattle.std.specs.Prelude.{◌≡◌, ◌≤◌, ◌+◌, ◌*◌, ◌==◌, ℕ, Bool, false, List, [], length, Option, Some, None, option_map, if◌then◌else◌, nat_lt}
use Rattle.mm_host.specs.Moments.{LeavesAsBefore}
use Rattle.mm_host.specs.declared.area.Area.TheVariants as area
use Rattle.mm_host.specs.declared.damage.Damage.TheVariants as damage
use Rattle.mm_host.specs.declared.damage.Fault.{Fault}
use Rattle.mm_host.specs.declared.damage.Fault.TheVariants as fault
use Rattle.mm_keeper.specs.Keeping.{Written}
use Rattle.mm_page.specs.Rules.{damaged, fault_of}
use Rattle.mm_page.specs.Header.{header_fault}

-- the bytes of page 0, if it was ever written, and those that there are of each page from 1 on
pub record Shelf : Type 0 where
  pub head : Option (List ℕ)
  pub page : ℕ → List ℕ

-- the same, and which pages are in use
pub record Book : Type 0 where
  pub shelf : Shelf
  pub used : ℕ → Bool

-- the pages in use
abbrev pub in_use : Book → Shelf
in_use b = record { head = b.shelf.head; page = λ n. if b.used n then b.shelf.page n else [] }

-- What a crash leaves of a shelf: page 0 as it is, and each page of which all bytes are there.
pub record IsLeft (kept left : Shelf) : Type 0 where
  pub head : left.head ≡ kept.head
  pub page : (n : ℕ) → 4096 ≤ length (kept.page n) → left.page n ≡ kept.page n

-- all pages but this one are as before
pub record ChangesOnly (n : ℕ) (old new : Book) : Type 0 where
  pub head : new.shelf.head ≡ old.shelf.head
  pub page : (i : ℕ) → (i == n) ≡ false → new.shelf.page i ≡ old.shelf.page i
  pub used : (i : ℕ) → (i == n) ≡ false → new.used i ≡ old.used i

-- what is wrong with a page of these bytes: some are missing, or they are no leaf
abbrev pub page_damage : ℕ → List ℕ → Option Fault
page_damage n bytes =
    if nat_lt (length bytes) 4096 then Some (fault.Damaged (damage.Cut area.Pages (4096 * n) 4096 (length bytes)))
    else option_map (damaged n) (fault_of bytes)

-- what is wrong with page 0
abbrev pub head_damage : Option (List ℕ) → Option Fault
head_damage None = None
head_damage (Some bytes) =
    if nat_lt (length bytes) 4096 then Some (fault.Damaged (damage.Cut area.Pages 0 4096 (length bytes)))
    else option_map (damaged 0) (header_fault bytes)

-- a fault that is no damage
abbrev pub but_damage : Option Fault → Option Fault
but_damage (Some (fault.Damaged d)) = None
but_damage o = o

-- Nothing was written or kept, at most so many pages more are in the batch, and a crash leaves what it might have left before.
pub record Rests {P : Type 0} (tells : Type 0) (has_pages : P → Type 0) (kept : P → Shelf) (written : P → Written) (batch : P → ℕ) (moment : P → ℕ) (left_since : P → ℕ → Shelf → Type 0) (more : ℕ) (old new : P) : Type 0 where
  pub same : has_pages old → kept new ≡ kept old
  pub quiet : tells → written new ≡ written old
  pub grown : tells → batch new ≤ batch old + more
  pub any_moment : has_pages old → LeavesAsBefore moment left_since old new

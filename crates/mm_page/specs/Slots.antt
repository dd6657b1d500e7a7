-- Pages in memory: slot i is page i + 1.
use Rattle.std.specs.Prelude.{◌≡◌, ◌≤◌, ◌<◌, ◌^◌, length, ℕ, zero, suc, List, [], get_or, false, Option, None, Some, option_map}
use Rattle.mm_page.specs.Header.{header_bytes}
use Rattle.mm_page.specs.Paging.{Shelf, Book}
use Rattle.mm_page.specs.declared.header.Header.{Header}
use Rattle.mm_page.specs.declared.slot.Kept.{Kept}
use Rattle.mm_page.specs.declared.slot.Kept.TheVariants.{Here, Free, Other}
use Rattle.mm_page.specs.declared.slot.Slot.{Slot}

-- where there is no slot
abbrev pub no_slot : Slot
no_slot = record { page = []; used = false; kept = Free }

-- the slot of a page
abbrev pub slot_at : List Slot → ℕ → Slot
slot_at slots zero = no_slot
slot_at slots (suc i) = get_or slots i no_slot

-- what was kept of a slot's page
abbrev pub kept_as : Kept → List ℕ → List ℕ
kept_as Here now = now
kept_as Free now = []
kept_as (Other bytes) now = bytes

abbrev pub kept_page : Slot → List ℕ
kept_page s = kept_as s.kept s.page

-- A change of the page leaves what was kept.
abbrev pub IsApart : Kept → Type 0
IsApart Here = ⊥
IsApart Free = Unit {0}
IsApart (Other bytes) = Unit {0}

-- slots that show the same
pub record AreAlike (old new : List Slot) : Type 0 where
  pub long : length new ≡ length old
  pub page : (n : ℕ) → (slot_at new n).page ≡ (slot_at old n).page
  pub used : (n : ℕ) → (slot_at new n).used ≡ (slot_at old n).used
  pub kept : (n : ℕ) → kept_page (slot_at new n) ≡ kept_page (slot_at old n)

-- a header that keeps its rules
abbrev pub IsHeader : Option Header → Type 0
IsHeader None = Unit {0}
IsHeader (Some h) = (2 ≤ h.pages) × (h.pages ≤ 2 ^ 43) × (h.first < h.pages)

abbrev pub book_of : Option Header → List Slot → Book
book_of header slots = record {
  shelf = record { head = option_map header_bytes header; page = λ n. (slot_at slots n).page };
  used = λ n. (slot_at slots n).used;
}

abbrev pub kept_of : Option Header → List Slot → Shelf
kept_of header slots = record { head = option_map header_bytes header; page = λ n. kept_page (slot_at slots n) }

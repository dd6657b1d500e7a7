-- The rules of a leaf page, and the first that bytes break.
use Rattle.std.specs.Prelude.{ℕ, zero, suc, ◌+◌, ◌*◌, ◌==◌, List, [], Option, Some, None, if◌then◌else◌, nat_lt, get_or}
use Rattle.mm_host.specs.declared.damage.Damage.TheVariants as damage
use Rattle.mm_host.specs.declared.damage.Fault.{Fault}
use Rattle.mm_host.specs.declared.damage.Fault.TheVariants as fault
use Rattle.mm_keeper.specs.Entries.{below}
use Rattle.mm_page.specs.Leaf.{number_at, cell_end, key_at, count_of, start_of}
use Rattle.mm_page.specs.declared.rules.Violation.{Violation}

abbrev pub broken : ℕ → ℕ → ℕ → Option Violation
broken why stored due = Some (record { why = why; stored = stored; due = due })

-- what is wrong with slot i and its cell, where the cell is to begin at a place, behind an entry with this key
abbrev pub cell_fault : List ℕ → ℕ → ℕ → List ℕ → Option Violation
cell_fault bytes i at last =
    if nat_lt at (number_at (16 + 2 * i) bytes) then broken 6 (number_at (16 + 2 * i) bytes) at
    else if nat_lt (number_at (16 + 2 * i) bytes) at then broken 6 (number_at (16 + 2 * i) bytes) at
    else if nat_lt 4096 (at + 4) then broken 7 (at + 4) 4096
    else if nat_lt 4096 (cell_end bytes at) then broken 7 (cell_end bytes at) 4096
    else if number_at at bytes == 0 then broken 8 0 800
    else if nat_lt 800 (number_at at bytes) then broken 8 (number_at at bytes) 800
    else if nat_lt 1024 (number_at (at + 2) bytes) then broken 8 (number_at (at + 2) bytes) 1024
    else if below last (key_at bytes at) then None
    else broken 9 (i + 1) 0

abbrev pub first_of : Option Violation → Option Violation → Option Violation
first_of (Some w) o = Some w
first_of None o = o

-- the first that is wrong with so many slots and cells, from slot i on
abbrev pub fault_from : List ℕ → ℕ → ℕ → ℕ → List ℕ → Option Violation
fault_from bytes zero i at last = None
fault_from bytes (suc n) i at last = first_of (cell_fault bytes i at last) (fault_from bytes n (suc i) (cell_end bytes at) (key_at bytes at))

-- the first of a leaf's own rules that these bytes break
unfoldable pub fault_of : List ℕ → Option Violation
fault_of bytes =
    if get_or bytes 0 0 == 76 then (if nat_lt 2040 (count_of bytes) then broken 6 (count_of bytes) 2040
    else fault_from bytes (count_of bytes) 0 (start_of bytes) [])
    else broken 5 (get_or bytes 0 0) 76

-- the answer for a page that breaks a rule
abbrev pub damaged : ℕ → Violation → Fault
damaged number w = fault.Damaged (damage.Page number w.why w.stored w.due)

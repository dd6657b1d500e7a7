-- What the difference of two maps is and does, as statements that the laws prove.
use Rattle.std.specs.Prelude.{◌≡◌, false, true}
use Rattle.mm_label.specs.Fronts.{Within}
use Rattle.mm_keeper.specs.Entries.{Entry, Entries, IsSorted, has}
use Rattle.mm_edit.specs.Difference.{Key, keys, gone, changed, holds, carried_out}

-- removing and putting the difference leaves the new map
abbrev pub DifferenceLeads : Type 0
DifferenceLeads = (old new : Entries) → IsSorted old → IsSorted new → carried_out (keys (gone old new)) (changed old new) old ≡ new

-- no key is removed and put
abbrev pub DifferenceIsApart : Type 0
DifferenceIsApart = (old new : Entries) → IsSorted new → (k : Key) → Within k (keys (gone old new)) → Within k (keys (changed old new)) → ⊥

-- both stand in the order of their keys
abbrev pub DifferenceRises : Type 0
DifferenceRises = (old new : Entries) → IsSorted old → IsSorted new → IsSorted (gone old new) × IsSorted (changed old new)

-- each remove and each put changes something
abbrev pub DifferenceIsLeast : Type 0
DifferenceIsLeast = (old new : Entries) → IsSorted old
    → ((e : Entry) → Within e (gone old new) → has old e.0 ≡ true) × ((e : Entry) → Within e (changed old new) → holds old e ≡ false)

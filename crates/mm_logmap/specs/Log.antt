-- The map for which a journal of batches stands.
use Rattle.std.specs.Prelude.{◌≡◌, ℕ, ◌+◌, List, [], ◌∷◌, Option, Some, None}
use Rattle.std.specs.Option.{unwrap_or}
use Rattle.mm_host.specs.Disk.{Image}
use Rattle.mm_keeper.specs.Entries.{Entries}
use Rattle.mm_journal.specs.Records.{Read, and_then, records, sorts}
use Rattle.mm_journal.specs.Records.Read.{Whole, Wrong}
use Rattle.mm_journal.specs.declared.payload.Payload.{Payload}
use Rattle.mm_logmap.specs.Batches.{batch}

-- what the batches make of a map, one after the other; a payload stands 10 bytes behind its record's gate
unfoldable pub batches : List Payload → Entries → Read Entries
batches [] map = Whole map
batches (p ∷ ps) map = and_then (batch (p.at + 10) p.bytes map) (batches ps)

-- the map of records: they are all of sort 1, and their batches change the empty map
abbrev pub map_of_records : List Payload → Read Entries
map_of_records ps = and_then (sorts 1 ps) (λ _. batches ps [])

-- The map of a log, or the first damage of its bytes.
abbrev pub log : List ℕ → Read Entries
log journal = and_then (records journal) map_of_records

-- what is read, where nothing is wrong
abbrev pub whole_of : {T : Type 0} → Read T → Option T
whole_of (Whole x) = Some x
whole_of (Wrong damage) = None

-- The map for which a disk's bytes stand, if they stand for one. Area Pages says nothing.
abbrev pub map_in : Image → Option Entries
map_in i = whole_of (log i.journal)

-- the map for which a journal stands; no entries where it stands for none
abbrev pub kept_in : List ℕ → Entries
kept_in journal = unwrap_or (whole_of (log journal)) []

-- the maps for which the bytes stand that crashes since a moment left
abbrev pub MapsSince : {D : Type 0} → (D → ℕ → Image → Type 0) → D → ℕ → Option Entries → Type 0
MapsSince left_since d t m = (i : Image) × left_since d t i × (m ≡ map_in i)

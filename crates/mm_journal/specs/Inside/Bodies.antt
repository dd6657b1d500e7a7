-- Records, a closed gate, and all of it stable.
use Rattle.std.specs.Prelude.{◌≡◌, ℕ, ◌-◌, List, [], ◌∷◌, ◌++◌, length, take, drop, get_or, ◌⊎◌}
use Rattle.mm_host.specs.Disk.{AreaState, DiskState, Image, IsImage, IsSynced}
use Rattle.mm_journal.specs.Records.{records}
use Rattle.mm_journal.specs.Records.Read.{Whole}
use Rattle.mm_journal.specs.Settled.{Content, IsClosedAt}
use Rattle.mm_journal.specs.declared.payload.Payload.{Payload}

pub record IsSettled (gate : ℕ) (a : AreaState) (ps : List Payload) : Type 0 where
  pub closed : IsClosedAt gate a.now ps
  pub synced : IsSynced a

-- the record that sealed bytes hold
abbrev pub content_of : List ℕ → Content
content_of sealed = record { sort = get_or sealed 8 0; bytes = take (length sealed - 42) (drop 9 sealed) }

-- an append cut short
abbrev pub AddsOrNot : DiskState → List Payload → Payload → Image → Type 0
AddsOrNot s ps p i = IsImage s.pages i.pages × ((records i.journal ≡ Whole ps) ⊎ (records i.journal ≡ Whole (ps ++ p ∷ [])))

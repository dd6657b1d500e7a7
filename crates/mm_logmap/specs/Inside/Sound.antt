-- What holds of a log keeper between two calls.
use Rattle.std.specs.Prelude.{◌≡◌, ◌⊎◌, ◌+◌, ◌/◌, ℕ, List, Bool, false}
use Rattle.mm_host.specs.Disk.{AreaState, DiskState, Image}
use Rattle.mm_keeper.specs.Entries.{Entries, IsSorted}
use Rattle.mm_journal.specs.Records.{records, with_record}
use Rattle.mm_journal.specs.Records.Read.{Whole}
use Rattle.mm_journal.specs.Settled.{JournalState, Content, IsAt, placed}
use Rattle.mm_logmap.specs.Log.{log}
use Rattle.mm_logmap.specs.Inside.Spelled.{Change, AllFit, encode, applied, HasFitKeys}

-- The journal stands for a map, and the staged bytes are those of changes that make of it the map that is now.
pub record Staged (journal staged : List ℕ) (now : Entries) : Type 0 where
  pub kept : Entries
  pub whole : log journal ≡ Whole kept
  pub changes : List Change
  pub fit : AllFit changes
  pub spelled : staged ≡ encode changes
  pub makes : now ≡ applied kept changes

-- the disk is as the keeper left it
abbrev pub IsCurrent : JournalState → AreaState → List ℕ → Entries → Type 0
IsCurrent j a staged now = IsAt j a × Staged a.now staged now

-- Where the disk tells its bytes and no call failed, it is as the keeper left it.
abbrev pub IsSoundAt : Type 0 → Bool → JournalState → AreaState → List ℕ → Entries → Type 0
IsSoundAt told spent j a staged now = (IsSorted now × HasFitKeys now) × ((spent ≡ false → j.has_failed ≡ false) × (told → spent ≡ false → ∥ IsCurrent j a staged now ∥₁))

-- an image with one record more, at whatever place
abbrev pub Adds : DiskState → Content → Image → Type 0
Adds s c i = (at : ℕ) × (records i.journal ≡ with_record (records s.journal.now) (placed at c))

-- an image with the records that were there, or with one more
abbrev pub KeepsOrAdds : DiskState → Content → Image → Type 0
KeepsOrAdds s c i = (records i.journal ≡ records s.journal.now) ⊎ Adds s c i

-- the least number of changes that have so many bytes
abbrev pub changes_in : ℕ → ℕ
changes_in n = (n + 1827) / 1828

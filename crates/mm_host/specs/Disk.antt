-- The model of a disk with two areas: what a read gives, and what a crash may leave.
use Rattle.std.specs.Prelude.{◌≡◌, ℕ, ◌+◌, ◌-◌, ◌<◌, ◌≤◌, max, List, [], ◌∷◌, ◌++◌, length, take, drop, replicate, get_or, ◌⊎◌}
use Rattle.mm_host.specs.declared.area.Area.{Area}
use Rattle.mm_host.specs.declared.area.Area.TheVariants.{Pages, Journal}

-- the places from `from` up to `end`
pub record Range : Type 0 where
  pub from : ℕ
  pub end : ℕ

-- An area: what a read gives, what the last good sync made sure of, the ranges written since, and how many bytes were written so far.
pub record AreaState : Type 0 where
  pub now : List ℕ
  pub stable : List ℕ
  pub loose : List Range
  pub written : ℕ

-- both areas, and how many reads answered Ok
pub record DiskState : Type 0 where
  pub pages : AreaState
  pub journal : AreaState
  pub reads : ℕ

-- the bytes of both areas
pub record Image : Type 0 where
  pub pages : List ℕ
  pub journal : List ℕ

abbrev pub area_of : DiskState → Area → AreaState
area_of s Pages = s.pages
area_of s Journal = s.journal

-- the disk with another state of this area
abbrev pub with_area : DiskState → Area → AreaState → DiskState
with_area s Pages a = record s { pages = a }
with_area s Journal a = record s { journal = a }

-- what a read of each area gives
abbrev pub image_now : DiskState → Image
image_now s = record { pages = s.pages.now; journal = s.journal.now }

-- an area of these bytes, all of them stable, to which nothing was written yet
abbrev pub fresh_area : List ℕ → AreaState
fresh_area bytes = record { now = bytes; stable = bytes; loose = []; written = 0 }

-- a disk of these bytes, likewise
abbrev pub fresh_disk : Image → DiskState
fresh_disk i = record { pages = fresh_area i.pages; journal = fresh_area i.journal; reads = 0 }

abbrev pub no_bytes : DiskState
no_bytes = fresh_disk (record { pages = []; journal = [] })

-- the place lies in none of the ranges
abbrev pub IsOutside : List Range → ℕ → Type 0
IsOutside [] k = Unit {0}
IsOutside (r ∷ rs) k = ((k < r.from) ⊎ (r.end ≤ k)) × IsOutside rs k

-- the place lies in one of the ranges
abbrev pub IsInside : List Range → ℕ → Type 0
IsInside [] k = ⊥
IsInside (r ∷ rs) k = ((r.from ≤ k) × (k < r.end)) ⊎ IsInside rs k

-- the furthest of this end and those of the ranges
abbrev pub furthest : ℕ → List Range → ℕ
furthest n [] = n
furthest n (r ∷ rs) = max r.end (furthest n rs)

-- A crash may leave these bytes of the area.
pub record IsImage (a : AreaState) (bytes : List ℕ) : Type 0 where
  pub no_shorter : length a.stable ≤ length bytes
  pub no_longer : length bytes ≤ furthest (length a.now) a.loose
  pub same : (k : ℕ) → k < length a.stable → IsOutside a.loose k → get_or bytes k 0 ≡ get_or a.stable k 0

-- A crash may leave these bytes of both areas.
pub record MayLeave (s : DiskState) (i : Image) : Type 0 where
  pub pages : IsImage s.pages i.pages
  pub journal : IsImage s.journal i.journal

-- after one more read that answered Ok
abbrev pub after_read : DiskState → DiskState
after_read s = record s { reads = s.reads + 1 }

-- the bytes put at this place, with zero bytes up to a place past the end
abbrev pub put_bytes : List ℕ → ℕ → List ℕ → List ℕ
put_bytes old at bytes = take at old ++ replicate (at - length old) 0 ++ bytes ++ drop (at + length bytes) old

-- the range of n places from this one on
abbrev pub range_at : ℕ → ℕ → Range
range_at at n = record { from = at; end = at + n }

-- after a good write of these bytes
abbrev pub after_write : AreaState → ℕ → List ℕ → AreaState
after_write a at bytes = record { now = put_bytes a.now at bytes; stable = a.stable; loose = range_at at (length bytes) ∷ a.loose; written = a.written + length bytes }

-- A write of n bytes that failed: its range is loose, and anything may stand in it and past the old end.
pub record IsWrittenInPart (at n : ℕ) (old new : AreaState) : Type 0 where
  pub stable : new.stable ≡ old.stable
  pub loose : new.loose ≡ range_at at n ∷ old.loose
  pub no_shorter : length old.now ≤ length new.now
  pub no_longer : length new.now ≤ max (length old.now) (at + n)
  pub same : (k : ℕ) → k < length old.now → (k < at) ⊎ (at + n ≤ k) → get_or new.now k 0 ≡ get_or old.now k 0
  pub counted : old.written ≤ new.written
  pub counted_most : new.written ≤ old.written + n

-- a disk on which such a write to this area failed
abbrev pub IsCutShort : Area → ℕ → ℕ → DiskState → DiskState → Type 0
IsCutShort area at n old new = (a : AreaState) × (new ≡ with_area old area a) × IsWrittenInPart at n (area_of old area) a

-- after a good sync: a crash leaves what a read gives
abbrev pub after_sync : AreaState → AreaState
after_sync a = record a { stable = a.now; loose = [] }

-- All of an area is stable.
pub record IsSynced (a : AreaState) : Type 0 where
  pub stable : a.stable ≡ a.now
  pub loose : a.loose ≡ []

-- the area while n bytes at this place are being written: their range is loose
abbrev pub torn : AreaState → ℕ → ℕ → AreaState
torn a at n = record a { loose = range_at at n ∷ a.loose }

-- what a crash may leave in a write of n bytes to this area, or in the sync behind it
abbrev pub TornLeaves : DiskState → Area → ℕ → ℕ → Image → Type 0
TornLeaves s area at n = MayLeave (with_area s area (torn (area_of s area) at n))

-- The bytes that a disk in memory holds, and how they follow from its calls.
use Rattle.std.specs.Prelude.{◌≡◌, ◌≤◌, ◌<◌, ℕ, Bool, true, false, if◌then◌else◌, nat_lt, nat_le, List, [], ◌∷◌, length, drop}
use Rattle.mm_host.specs.Disk.{Range, Image, image_now, put_bytes, range_at}
use Rattle.mm_host.specs.MemoryDisk.{Past, Piece, state_of, put_of, same_area, is_synced}
use Rattle.mm_host.specs.declared.area.Area.{Area}
use Rattle.mm_host.specs.declared.area.Area.TheVariants.{Pages, Journal}
use Rattle.mm_host.specs.declared.call.Call.{Call}
use Rattle.mm_host.specs.declared.call.Call.TheVariants.{Other, Read, Write, Sync}

-- the bytes of which an area was made, and those that a read gives
pub record AreaBytes : Type 0 where
  pub made : List ℕ
  pub current : List ℕ

abbrev pub past_of : AreaBytes → AreaBytes → List Call → Past
past_of pages journal calls = record { made = record { pages = pages.made; journal = journal.made }; calls = calls }

-- what a read of each area gives follows from the calls
pub record FollowsFromCalls (pages journal : AreaBytes) (calls : List Call) : Type 0 where
  pub now : image_now (state_of (past_of pages journal calls)) ≡ record { pages = pages.current; journal = journal.current }

-- these bytes put at a place of an area
abbrev pub put_in : Image → Area → ℕ → List ℕ → Image
put_in i Pages at bytes = record i { pages = put_bytes i.pages at bytes }
put_in i Journal at bytes = record i { journal = put_bytes i.journal at bytes }

-- the bytes of an area after a call
abbrev pub bytes_after : Area → Call → List ℕ → List ℕ
bytes_after area Other old = old
bytes_after area Read old = old
bytes_after area (Write written at bytes failed) old = if same_area written area then put_bytes old at (put_of failed bytes) else old
bytes_after area (Sync synced) old = old

abbrev pub bytes_after_all : Area → List Call → List ℕ → List ℕ
bytes_after_all area [] old = old
bytes_after_all area (c ∷ cs) old = bytes_after_all area cs (bytes_after area c old)

-- the ranges written to an area, a call more
abbrev pub ranges_after : Area → Call → List Range → List Range
ranges_after area Other rs = rs
ranges_after area Read rs = rs
ranges_after area (Write written at bytes failed) rs = if same_area written area then range_at at (length bytes) ∷ rs else rs
ranges_after area (Sync synced) rs = rs

abbrev pub ranges_after_all : Area → List Call → List Range → List Range
ranges_after_all area [] rs = rs
ranges_after_all area (c ∷ cs) rs = ranges_after_all area cs (ranges_after area c rs)

abbrev pub is_in : Range → ℕ → Bool
is_in r k = if nat_le r.from k then nat_lt k r.end else false

abbrev pub is_inside : List Range → ℕ → Bool
is_inside [] k = false
is_inside (r ∷ rs) k = if is_in r k then true else is_inside rs k

-- a later sync made sure of what this call wrote, where the last syncs of the areas stand at these places
abbrev pub is_behind : Call → ℕ → ℕ → ℕ → Bool
is_behind (Write Pages at bytes failed) n pages journal = nat_lt n pages
is_behind (Write Journal at bytes failed) n pages journal = nat_lt n journal
is_behind Other n pages journal = false
is_behind Read n pages journal = false
is_behind (Sync area) n pages journal = false

-- the piece that a call put, unless a later sync made sure of it, before those of later calls
abbrev pub with_piece : Call → Bool → List Piece → List Piece
with_piece (Write area at bytes failed) synced ps = if synced then ps else record { area = area; at = at; bytes = put_of failed bytes } ∷ ps
with_piece Other synced ps = ps
with_piece Read synced ps = ps
with_piece (Sync area) synced ps = ps

-- the place behind the last call that made sure of the area, or 0
pub record IsLast (area : Area) (cs : List Call) (from : ℕ) : Type 0 where
  pub within : from ≤ length cs
  pub before : (k : ℕ) → k < from → is_synced area (drop k cs) ≡ true
  pub behind : (k : ℕ) → from ≤ k → is_synced area (drop k cs) ≡ false

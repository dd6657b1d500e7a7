-- A disk in memory: how its calls go, and what a crash leaves.
use Rattle.std.specs.Prelude.{◌≡◌, ◌≤◌, ◌<◌, ◌+◌, ◌-◌, ◌/◌, ◌⊎◌, ℕ, Bool, true, false, if◌then◌else◌, nat_lt, List, [], ◌∷◌, ◌++◌, length, take, get_or, Option, Some, None, Result, Ok, Err}
use Rattle.mm_host.specs.Causes.{next_count}
use Rattle.mm_host.specs.Memory.{IsListed}
use Rattle.mm_host.specs.Disk.{AreaState, DiskState, Image, MayLeave, IsInside, IsOutside, area_of, with_area, fresh_disk, after_read, after_sync, put_bytes, range_at}
use Rattle.mm_host.specs.declared.area.Area.{Area}
use Rattle.mm_host.specs.declared.area.Area.TheVariants.{Pages, Journal}
use Rattle.mm_host.specs.declared.call.Call.{Call}
use Rattle.mm_host.specs.declared.call.Call.TheVariants.{Other, Read, Write, Sync}
use Rattle.mm_host.specs.declared.pick.Pick.{Pick}
use Rattle.mm_host.specs.declared.pick.Pick.TheVariants.{Lost, Kept, Filled, Front}

-- the bytes of which the disk was made, and its calls since
pub record Past : Type 0 where
  pub made : Image
  pub calls : List Call

-- its past, which calls fail, counted from 1, from which on all do, and both counts
pub record MemDiskState : Type 0 where
  pub past : Past
  pub failing : List ℕ
  pub failing_from : Option ℕ
  pub faults : ℕ
  pub wants : ℕ

-- what a write puts of its bytes: all, or the first half where it fails
abbrev pub put_of : Bool → List ℕ → List ℕ
put_of true bytes = take (length bytes / 2) bytes
put_of false bytes = bytes

-- the area after a write, whose whole range is loose
abbrev pub after_put : AreaState → ℕ → List ℕ → Bool → AreaState
after_put a at bytes failed = record { now = put_bytes a.now at (put_of failed bytes); stable = a.stable; loose = range_at at (length bytes) ∷ a.loose; written = a.written + length (put_of failed bytes) }

abbrev pub after_call : DiskState → Call → DiskState
after_call s Other = s
after_call s Read = after_read s
after_call s (Write area at bytes failed) = with_area s area (after_put (area_of s area) at bytes failed)
after_call s (Sync area) = with_area s area (after_sync (area_of s area))

abbrev pub after_calls : DiskState → List Call → DiskState
after_calls s [] = s
after_calls s (c ∷ cs) = after_calls (after_call s c) cs

-- the disk after all its calls
abbrev pub state_of : Past → DiskState
state_of past = after_calls (fresh_disk past.made) past.calls

-- the past up to this many calls
abbrev pub until : ℕ → Past → Past
until n past = record past { calls = take n past.calls }

-- what a crash might have left after some call from this one on
abbrev pub LeftSince : Past → ℕ → Image → Type 0
LeftSince past t i = (n : ℕ) × (t ≤ n) × (n ≤ length past.calls) × MayLeave (state_of (until n past)) i

-- the past with one call more
abbrev pub noted : Past → Call → Past
noted past call = record past { calls = past.calls ++ call ∷ [] }

abbrev pub IsFrom : Option ℕ → ℕ → Type 0
IsFrom None n = ⊥
IsFrom (Some first) n = first ≤ n

-- The next call is due to fail: it is listed, or all fail from it or an earlier one on.
abbrev pub IsDue : MemDiskState → Type 0
IsDue d = IsListed d.failing (length d.past.calls) ⊎ IsFrom d.failing_from (next_count (length d.past.calls))

-- after a call that answers Ok
abbrev pub after_ok : MemDiskState → Call → MemDiskState
after_ok d call = record d { past = noted d.past call }

-- after a call that fails
abbrev pub after_fault : MemDiskState → Call → MemDiskState
after_fault d call = record d { past = noted d.past call; faults = next_count d.faults }

-- after a call that found no memory
abbrev pub after_want : MemDiskState → MemDiskState
after_want d = record d { wants = next_count d.wants }

-- A call goes as the first of these two where it isn't due to fail, and as the second where it is. Without memory it isn't noted.
abbrev pub Goes : {T E : Type 0} → MemDiskState → MemDiskState → Call → Call → Result T E → Type 0
Goes old new whole cut (Ok x) = (IsDue old → ⊥) × (new ≡ after_ok old whole)
Goes old new whole cut (Err e) = (IsDue old × (new ≡ after_fault old cut)) ⊎ (new ≡ after_want old)

-- the bytes of an area
abbrev pub bytes_in : Image → Area → List ℕ
bytes_in i Pages = i.pages
bytes_in i Journal = i.journal

abbrev pub same_area : Area → Area → Bool
same_area Pages Pages = true
same_area Pages Journal = false
same_area Journal Pages = false
same_area Journal Journal = true

-- the call made sure of this area
abbrev pub syncs : Area → Call → Bool
syncs area Other = false
syncs area Read = false
syncs area (Write written at bytes failed) = false
syncs area (Sync synced) = same_area synced area

-- one of the calls made sure of this area
abbrev pub is_synced : Area → List Call → Bool
is_synced area [] = false
is_synced area (c ∷ cs) = if syncs area c then true else is_synced area cs

-- the bytes that a write put at a place
pub record Piece : Type 0 where
  pub area : Area
  pub at : ℕ
  pub bytes : List ℕ

-- what the writes put of which no later sync of their area made sure, in the order of the calls
abbrev pub unsynced : List Call → List Piece
unsynced [] = []
unsynced (Other ∷ cs) = unsynced cs
unsynced (Read ∷ cs) = unsynced cs
unsynced (Write area at bytes failed ∷ cs) = if is_synced area cs then unsynced cs else record { area = area; at = at; bytes = put_of failed bytes } ∷ unsynced cs
unsynced (Sync area ∷ cs) = unsynced cs

-- the area with the first n bytes of these pieces, which are counted over both areas
abbrev pub with_front : Area → ℕ → List Piece → List ℕ → List ℕ
with_front area n [] bytes = bytes
with_front area n (p ∷ ps) bytes =
    if nat_lt 0 n then with_front area (n - length p.bytes) ps (if same_area p.area area then put_bytes bytes p.at (take n p.bytes) else bytes) else bytes

-- These bytes are what a read gives, with one byte at each loose place and past the stable length.
pub record IsFilled (byte : ℕ) (a : AreaState) (bytes : List ℕ) : Type 0 where
  pub long : length bytes ≡ length a.now
  pub filled : (k : ℕ) → k < length bytes → IsInside a.loose k ⊎ (length a.stable ≤ k) → get_or bytes k 0 ≡ byte
  pub same : (k : ℕ) → k < length bytes → IsOutside a.loose k → k < length a.stable → get_or bytes k 0 ≡ get_or a.now k 0

-- what this pick leaves of an area
abbrev pub IsLeft : Pick → Past → Area → List ℕ → Type 0
IsLeft Lost past area bytes = bytes ≡ (area_of (state_of past) area).stable
IsLeft Kept past area bytes = bytes ≡ (area_of (state_of past) area).now
IsLeft (Filled byte) past area bytes = IsFilled byte (area_of (state_of past) area) bytes
IsLeft (Front n) past area bytes = bytes ≡ with_front area n (unsynced past.calls) (area_of (state_of past) area).stable

-- A source and a sink in memory.
use Rattle.std.specs.Prelude.{ℕ, ◌-◌, ◌<◌, Result, Ok, Err, List, Contains, ◌⊎◌, ◌≡◌}
use Rattle.mm_host.specs.Causes.{next_count}

-- the bytes left, the calls so far, which calls fail, and how many did
pub record SourceState : Type 0 where
  pub left : List ℕ
  pub calls : ℕ
  pub failing : List ℕ
  pub faults : ℕ

-- the bytes written, how many more fit, the calls so far, which calls fail, and how many did
pub record SinkState : Type 0 where
  pub written : List ℕ
  pub room : ℕ
  pub calls : ℕ
  pub failing : List ℕ
  pub faults : ℕ

-- the call that comes after so many is listed
abbrev pub IsListed : List ℕ → ℕ → Type 0
IsListed failing calls = Contains failing (next_count calls)

-- A write has to fail: its call is listed, or no room is left for a piece of so many bytes.
abbrev pub MustFail : SinkState → ℕ → Type 0
MustFail sink size = IsListed sink.failing sink.calls ⊎ ((sink.room ≡ 0) × (0 < size))

-- the room after a write: less by what was taken, and the same where the write failed
abbrev pub room_after : {E : Type 0} → ℕ → Result ℕ E → ℕ
room_after room (Ok n) = room - n
room_after room (Err e) = room

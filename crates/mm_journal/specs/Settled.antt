-- What a journal's area holds between two calls, and what a crash in a call leaves.
use Rattle.std.specs.Prelude.{◌≡◌, ℕ, ◌+◌, ◌^◌, ◌≤◌, List, [], ◌∷◌, ◌++◌, length, take, drop, get_or, ◌⊎◌, Bool, true, false}
use Rattle.byteorder.specs.Endian.{big_number}
use Rattle.sha2.specs.Sha256.{sha256}
use Rattle.mm_host.specs.Disk.{AreaState, DiskState, Image, IsImage, IsSynced}
use Rattle.mm_host.specs.declared.damage.Damage.{Damage}
use Rattle.mm_host.specs.declared.damage.Fault.{Fault}
use Rattle.mm_host.specs.declared.damage.Fault.TheVariants.{DiskFault, Damaged, Spent, Memory}
use Rattle.mm_journal.specs.Records.{records, with_record}
use Rattle.mm_journal.specs.Records.Read.{Whole}
use Rattle.mm_journal.specs.declared.payload.Payload.{Payload}

-- a record that has no place yet
pub record Content : Type 0 where
  pub sort : ℕ
  pub bytes : List ℕ

-- the record at the gate at this place
abbrev pub placed : ℕ → Content → Payload
placed at c = record { at = at; sort = c.sort; bytes = c.bytes }

-- These bytes stand between two gates, the first of them at a place, and are this record.
pub record IsBody (at : ℕ) (body : List ℕ) (p : Payload) : Type 0 where
  pub long : length body ≡ 41 + length p.bytes
  pub size : big_number 8 body ≡ length p.bytes
  pub digest : take 32 (drop (9 + length p.bytes) body) ≡ sha256 (take (9 + length p.bytes) body)
  pub is : p ≡ record { at = at; sort = get_or body 8 0; bytes = take (length p.bytes) (drop 9 body) }

-- These bytes, from a place on, are these records with open gates.
abbrev pub AreRecords : ℕ → List ℕ → List Payload → Type 0
AreRecords at bytes [] = bytes ≡ []
AreRecords at bytes (p ∷ ps) = (body : List ℕ) × (rest : List ℕ) × (bytes ≡ 165 ∷ (body ++ rest)) × IsBody at body p × AreRecords (at + (42 + length p.bytes)) rest ps

-- The bytes of a journal are these records and then a closed gate at this place.
pub record IsClosedAt (gate : ℕ) (journal : List ℕ) (ps : List Payload) : Type 0 where
  pub front : List ℕ
  pub closed : ℕ
  pub tail : List ℕ
  pub bytes : journal ≡ front ++ closed ∷ tail
  pub read : AreRecords 0 front ps
  pub shut : closed ≡ 165 → ⊥
  pub place : gate ≡ length front

-- These bytes are this record at whatever place, without its gate, and then a closed gate.
pub record IsSealed (sealed : List ℕ) (c : Content) : Type 0 where
  pub body : List ℕ
  pub bytes : sealed ≡ body ++ 0 ∷ []
  pub is : (at : ℕ) → IsBody at body (placed at c)

-- The record ends within 2^62 bytes.
abbrev pub IsNear : Payload → Type 0
IsNear p = p.at + (43 + length p.bytes) ≤ 2 ^ 62

-- What holds where this fault is answered: one thing of the disk's failure, and one of each damage. Memory may end at any time.
abbrev pub MayAnswer : Type 0 → (Damage → Type 0) → Fault → Type 0
MayAnswer failed damaged DiskFault = failed
MayAnswer failed damaged (Damaged damage) = damaged damage
MayAnswer failed damaged Memory = Unit {0}
MayAnswer failed damaged Spent = ⊥

-- where its next gate stands, whether that was written, and whether a call failed
pub record JournalState : Type 0 where
  pub gate : ℕ
  pub is_begun : Bool
  pub has_failed : Bool

-- A journal agrees with its area: it is begun, and records and a closed gate stand there, or it isn't, and at most one byte does. All of it is stable.
pub record IsAt (j : JournalState) (a : AreaState) : Type 0 where
  pub found : List Payload
  pub whole : records a.now ≡ Whole found
  pub synced : IsSynced a
  pub closed : j.is_begun ≡ true → IsClosedAt j.gate a.now found
  pub blank : j.is_begun ≡ false → length a.now ≤ 1

-- an append cut short: area Pages as it was, and the records before, or these and the new one
abbrev pub AppendLeaves : DiskState → Payload → Image → Type 0
AppendLeaves s p i = IsImage s.pages i.pages × ((records i.journal ≡ records s.journal.now) ⊎ (records i.journal ≡ with_record (records s.journal.now) p))

-- a reset cut short: area Pages as it was, and all records or none
abbrev pub ResetLeaves : DiskState → Image → Type 0
ResetLeaves s i = IsImage s.pages i.pages × ((records i.journal ≡ records s.journal.now) ⊎ (records i.journal ≡ Whole []))

-- area Pages as it was, and no records
abbrev pub NoneLeft : DiskState → Image → Type 0
NoneLeft s i = IsImage s.pages i.pages × (records i.journal ≡ Whole [])

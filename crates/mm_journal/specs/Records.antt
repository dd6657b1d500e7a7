-- The records of a journal, or the first thing that is wrong with its bytes.
use Rattle.std.specs.Prelude.{ℕ, zero, suc, ◌+◌, ◌-◌, ◌^◌, ◌==◌, List, [], ◌∷◌, ◌++◌, length, take, drop, get_or, min, nat_lt, nat_le, if◌then◌else◌}
use Rattle.std.specs.Str.{bytes_eq}
use Rattle.byteorder.specs.Endian.{big_number}
use Rattle.sha2.specs.Sha256.{sha256}
use Rattle.mm_host.specs.declared.area.Area.TheVariants.{Journal}
use Rattle.mm_host.specs.declared.damage.Damage.{Damage}
use Rattle.mm_host.specs.declared.damage.Damage.TheVariants.{Cut, Digest, Sort}
use Rattle.mm_journal.specs.declared.payload.Payload.{Payload}

-- what bytes stand for, or the first thing that is wrong with them
pub data Read (T : Type 0) : Type 0 where
  Whole : T → Read T
  Wrong : Damage → Read T

abbrev pub and_then : {A B : Type 0} → Read A → (A → Read B) → Read B
and_then (Whole x) f = f x
and_then (Wrong damage) f = Wrong damage

-- the record behind the open gate at a place, whose payload has n bytes: `rest` is what stands behind that gate,
-- and `next` says what the bytes from a later gate on stand for
unfoldable pub record_of_size : (ℕ → List ℕ → Read (List Payload)) → ℕ → List ℕ → ℕ → Read (List Payload)
record_of_size next at rest n =
    if nat_lt (1 + length rest) 43 then Wrong (Cut Journal at 43 (1 + length rest)) else
    (if nat_lt (1 + length rest) (43 + n) then Wrong (Cut Journal at (min (43 + n) (2 ^ 64 - 1)) (1 + length rest)) else
    (if bytes_eq (take 32 (drop (9 + n) rest)) (sha256 (take (9 + n) rest))
    then and_then (next (at + (42 + n)) (drop (41 + n) rest)) (λ rs. Whole (record { at = at; sort = get_or rest 8 0; bytes = take n (drop 9 rest) } ∷ rs))
    else Wrong (Digest at (take 32 (drop (9 + n) rest)) (sha256 (take (9 + n) rest)))))

unfoldable pub record_at : (ℕ → List ℕ → Read (List Payload)) → ℕ → List ℕ → Read (List Payload)
record_at next at rest = record_of_size next at rest (big_number 8 rest)

-- from the gate at a place on, in at most so many records
unfoldable pub walk : ℕ → ℕ → List ℕ → Read (List Payload)
walk zero at rest = Whole []
walk (suc most) at [] = Whole []
walk (suc most) at (gate ∷ rest) = if gate == 165 then record_at (walk most) at rest else Whole []

-- A journal of at most one byte has no records.
unfoldable pub records : List ℕ → Read (List Payload)
records journal = if nat_le (length journal) 1 then Whole [] else walk (length journal) 0 journal

-- one record more
abbrev pub with_record : Read (List Payload) → Payload → Read (List Payload)
with_record found p = and_then found (λ ps. Whole (ps ++ p ∷ []))

-- All records are of this sort, or the first that isn't.
unfoldable pub sorts : ℕ → List Payload → Read (Unit {0})
sorts due [] = Whole tt
sorts due (p ∷ ps) = if p.sort == due then sorts due ps else Wrong (Sort p.at p.sort due)

-- A batch: a list of changes of a map, and the bytes of one.
use Rattle.std.specs.Prelude.{ℕ, zero, suc, ◌+◌, ◌==◌, List, [], ◌∷◌, ◌++◌, length, take, drop, nat_lt, Option, Some, None, if◌then◌else◌}
use Rattle.byteorder.specs.Endian.{big_number, big_bytes}
use Rattle.mm_host.specs.declared.area.Area.TheVariants.{Journal}
use Rattle.mm_host.specs.declared.damage.Damage.TheVariants.{Cut, Size}
use Rattle.mm_keeper.specs.Entries.{Entries, put, without}
use Rattle.mm_journal.specs.Records.{Read}
use Rattle.mm_journal.specs.Records.Read.{Whole, Wrong}

-- a map in which a key has this value from now on, or none
abbrev pub changed : Entries → List ℕ → Option (List ℕ) → Entries
changed map key (Some value) = put map key value
changed map key None = without map key

-- the length of a value as it is written
abbrev pub value_mark : Option (List ℕ) → ℕ
value_mark (Some value) = length value
value_mark None = 65535

abbrev pub value_bytes : Option (List ℕ) → List ℕ
value_bytes (Some value) = value
value_bytes None = []

-- the bytes of a change: the key's length, the value's length, the key, the value
unfoldable pub encoded : List ℕ → Option (List ℕ) → List ℕ
encoded key value = (big_bytes 2 (length key) ++ big_bytes 2 (value_mark value)) ++ key ++ value_bytes value

-- a change at a place whose key and value have these lengths: `rest` begins there, and `next` says what the changes behind it make of a map
unfoldable pub change_of_size : (ℕ → List ℕ → Entries → Read Entries) → ℕ → List ℕ → ℕ → ℕ → Option (List ℕ) → Entries → Read Entries
change_of_size next at rest key n value map =
    if nat_lt (length rest) (4 + key + n) then Wrong (Cut Journal at (4 + key + n) (length rest))
    else next (at + (4 + key + n)) (drop (4 + key + n) rest) (changed map (take key (drop 4 rest)) value)

-- a change whose two lengths are written so
unfoldable pub change_of : (ℕ → List ℕ → Entries → Read Entries) → ℕ → List ℕ → ℕ → ℕ → Entries → Read Entries
change_of next at rest key value map =
    if nat_lt key 1 then Wrong (Size at key 1 800) else
    (if nat_lt 800 key then Wrong (Size at key 1 800) else
    (if value == 65535 then change_of_size next at rest key 0 None map else
    (if nat_lt 1024 value then Wrong (Size (at + 2) value 0 1024) else
    change_of_size next at rest key value (Some (take value (drop (4 + key) rest))) map)))

unfoldable pub change_at : (ℕ → List ℕ → Entries → Read Entries) → ℕ → List ℕ → Entries → Read Entries
change_at next at rest map =
    if nat_lt (length rest) 4 then Wrong (Cut Journal at 4 (length rest))
    else change_of next at rest (big_number 2 rest) (big_number 2 (drop 2 rest)) map

-- what the changes from a place on make of a map, in at most so many changes; or the first damage
unfoldable pub changes : ℕ → ℕ → List ℕ → Entries → Read Entries
changes zero at rest map = Whole map
changes (suc most) at [] map = Whole map
changes (suc most) at (b ∷ rest) map = change_at (changes most) at (b ∷ rest) map

-- what a batch, whose bytes begin at a place of the journal, makes of a map
abbrev pub batch : ℕ → List ℕ → Entries → Read Entries
batch at bytes map = changes (length bytes) at bytes map

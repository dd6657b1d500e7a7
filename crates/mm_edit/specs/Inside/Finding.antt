-- Look-ups in entries that need not be in order.
use Rattle.std.specs.Prelude.{ℕ, Bool, true, false, List, [], ◌∷◌, Option, Some, None, if◌then◌else◌}
use Rattle.std.specs.Str.{bytes_eq}
use Rattle.mm_keeper.specs.Entries.{Entries}

-- the value at the first entry with the key
abbrev pub find : Entries → List ℕ → Option (List ℕ)
find [] k = None
find (e ∷ m) k = if bytes_eq e.0 k then Some e.1 else find m k

-- some entry has the key
abbrev pub has_key : Entries → List ℕ → Bool
has_key [] k = false
has_key (e ∷ m) k = if bytes_eq e.0 k then true else has_key m k

-- The map before changes whose old values were noted.
use Rattle.std.specs.Prelude.{ℕ, List, [], ◌∷◌, Option, Some, None}
use Rattle.mm_keeper.specs.Entries.{Entries, put, without}

-- a key gets back the value that it had
abbrev pub put_back : Entries → List ℕ → Option (List ℕ) → Entries
put_back m k (Some v) = put m k v
put_back m k None = without m k

-- the map before these changes, the newest of which stands last
abbrev pub before_all : Entries → List (List ℕ × Option (List ℕ)) → Entries
before_all m [] = m
before_all m (c ∷ cs) = put_back (before_all m cs) c.0 c.1

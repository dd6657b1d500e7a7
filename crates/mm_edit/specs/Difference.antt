-- The difference of two maps: what is removed and what is put, and what these leave.
use Rattle.std.specs.Prelude.{ℕ, Bool, false, not, filter, List, [], ◌∷◌, ◌≡◌, map, Option, Some, None}
use Rattle.std.specs.Str.{bytes_eq}
use Rattle.mm_keeper.specs.Entries.{Entry, Entries, has, lookup, put, without}

abbrev pub Key : Type 0
Key = List ℕ

abbrev pub keys : Entries → List Key
keys m = map (λ e. e.0) m

abbrev pub is_value : List ℕ → Option (List ℕ) → Bool
is_value v None = false
is_value v (Some u) = bytes_eq u v

-- the map has this key with this value
abbrev pub holds : Entries → Entry → Bool
holds m e = is_value e.1 (lookup m e.0)

-- the entries whose keys the new map has no more
abbrev pub gone : Entries → Entries → Entries
gone old new = filter (λ e. not (has new e.0)) old

-- the entries of the new map that the old one doesn't hold
abbrev pub changed : Entries → Entries → Entries
changed old new = filter (λ e. not (holds old e)) new

-- These keys and entries are the difference of two maps.
pub record IsDifference (removes : List Key) (puts old new : Entries) : Type 0 where
  pub removes_are : removes ≡ keys (gone old new)
  pub puts_are : puts ≡ changed old new

-- ---- what removes and puts leave

abbrev pub without_all : List Key → Entries → Entries
without_all [] m = m
without_all (k ∷ ks) m = without_all ks (without m k)

abbrev pub put_all : Entries → Entries → Entries
put_all [] m = m
put_all (e ∷ es) m = put_all es (put m e.0 e.1)

-- the removes first, then the puts
abbrev pub carried_out : List Key → Entries → Entries → Entries
carried_out removes puts m = put_all puts (without_all removes m)

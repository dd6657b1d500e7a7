-- What nodes bring into a map, each for itself, and the part of a map that is about some of them.
use Rattle.std.specs.Prelude.{ℕ, ◌+◌, Bool, ◌||◌, true, false, List, [], ◌∷◌, ◌++◌, Option, Some, None, ◌≡◌, if◌then◌else◌, nat_lt, flat_map, map}
use Rattle.std.specs.List.{list_any}
use Rattle.std.specs.Str.{bytes_eq}
use Rattle.byteorder.specs.Endian.{big_bytes}
use Rattle.mm_keeper.specs.Entries.{Entries, Rises}
use Rattle.mm_tree.specs.Numbering.{Labelled}
use Rattle.mm_tree.specs.Search.{own}
use Rattle.mm_image.specs.Image.{chunks_of}
use Rattle.mm_image.specs.Keys.{count_key, occurrence_key}
use Rattle.mm_edit.specs.Difference.{Key}
use Rattle.mm_edit.specs.Inside.Finding.{find, has_key}

-- the occurrences of one node
abbrev pub occurring : Labelled → Entries
occurring e = map (λ w. (occurrence_key w e.label, [])) (own e.kind)

-- the entries of one node, which no other node has
abbrev pub brought : Labelled → Entries
brought e = chunks_of e ++ occurring e

abbrev pub owned : List Labelled → Entries
owned es = flat_map brought es

-- the node counts at this key
abbrev pub is_counted : Labelled → Key → Bool
is_counted e k = list_any (bytes_eq k) (map count_key (own e.kind))

-- how many count at a key
abbrev pub tally : List Labelled → Key → ℕ
tally [] k = 0
tally (e ∷ es) k = (if is_counted e k then 1 else 0) + tally es k

-- the number in eight bytes, or nothing for none
abbrev pub counted_as : ℕ → Option (List ℕ)
counted_as n = if nat_lt 0 n then Some (big_bytes 8 n) else None

abbrev pub or_else : Option (List ℕ) → Option (List ℕ) → Option (List ℕ)
or_else None s = s
or_else (Some v) s = Some v

abbrev pub value_at : List Labelled → Key → Option (List ℕ)
value_at es k = or_else (counted_as (tally es k)) (find (owned es) k)

-- the map that the nodes make
pub record IsMapOf (m : Entries) (es : List Labelled) : Type 0 where
  pub rises : Rises m
  pub at : (k : Key) → find m k ≡ value_at es k

-- no two nodes have a key together
abbrev pub AreApart : List Labelled → Type 0
AreApart [] = Unit {0}
AreApart (e ∷ es) = ((k : Key) → has_key (brought e) k ≡ true → has_key (owned es) k ≡ false) × AreApart es

-- what can be a map: no key is of a node and of a count
pub record IsFit (es : List Labelled) : Type 0 where
  pub apart : AreApart es
  pub sorts : (k : Key) → has_key (owned es) k ≡ true → tally es k ≡ 0

-- the keys of a run of nodes, or of another in its place
abbrev pub run_keys : List Labelled → List Labelled → Key → Bool
run_keys taken given k = has_key (owned taken) k || (has_key (owned given) k || nat_lt 0 (tally taken k + tally given k))

-- the part of a map at the keys of a run: the run's own entries, and the counts in which its nodes or those in its place are counted
pub record IsPart (part : Entries) (all run other : List Labelled) : Type 0 where
  pub rises : Rises part
  pub at : (k : Key) → find part k ≡ or_else (find (owned run) k) (if nat_lt 0 (tally run k + tally other k) then counted_as (tally all k) else None)

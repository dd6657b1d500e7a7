-- What is named in a map: among its chunk entries, or else where it differs from the image of the forest that these spell.
use Rattle.std.specs.Prelude.{ℕ, Bool, false, ◌==◌, List, [], ◌∷◌, reverse, filter, Option, Some, None, Result, Ok, Err, if◌then◌else◌}
use Rattle.std.specs.Ordering.{nat_cmp}
use Rattle.std.specs.Cmp.Lexicographic.{slice_cmp}
use Rattle.std.specs.Str.{bytes_eq}
use Rattle.std.specs.declared.cmp.Ordering.{Ordering}
use Rattle.std.specs.declared.cmp.Ordering.TheVariants.{Less, Equal, Greater}
use Rattle.mm_keeper.specs.Entries.{Entries, Entry}
use Rattle.mm_tree.specs.Formed.{node_label}
use Rattle.mm_tree.specs.Numbering.{Labelled}
use Rattle.mm_tree.specs.Rebuild.{rebuild}
use Rattle.mm_image.specs.Image.{image}
use Rattle.mm_check.specs.declared.verdict.Named.{Named}
use Rattle.mm_check.specs.Reading.{not_due, read}

-- an entry that is due and is not there; one with another value
abbrev pub not_there : Entry → Named
not_there d = record { key = d.0; stored = None; due = Some d.1 }

abbrev pub other_value : Entry → List ℕ → Named
other_value s value = record { key = s.0; stored = Some s.1; due = Some value }

-- at the fronts of stored and due entries, by the order of their keys
abbrev pub fronts_differ : Ordering → Entry → Entry → Option Named → Option Named
fronts_differ Less s d rest = Some (not_due s)
fronts_differ Greater s d rest = Some (not_there d)
fronts_differ Equal s d rest = if bytes_eq s.1 d.1 then rest else Some (other_value s d.1)

-- the least key at which stored and due entries differ, both in the order of their keys
abbrev pub first_difference : Entries → Entries → Option Named
first_difference [] [] = None
first_difference [] (d ∷ due) = Some (not_there d)
first_difference (s ∷ stored) [] = Some (not_due s)
first_difference (s ∷ stored) (d ∷ due) = fronts_differ (slice_cmp nat_cmp s.0 d.0) s d (first_difference stored due)

-- the key begins with 01
abbrev pub first_is_one : List ℕ → Bool
first_is_one [] = false
first_is_one (b ∷ bs) = b == 1

abbrev pub begins_chunk : Entry → Bool
begins_chunk e = first_is_one e.0

abbrev pub chunks_in : Entries → Entries
chunks_in m = filter begins_chunk m

-- of nodes that were read, the latest first: where the map differs from the image of their forest
abbrev pub blame_behind : Entries → Result (List Labelled) Named → Option Named
blame_behind m (Err b) = Some b
blame_behind m (Ok nodes) = first_difference m (image (rebuild node_label (reverse nodes)))

-- what is named in a map, if anything
abbrev pub blame : Entries → Option Named
blame m = blame_behind m (read [] None (chunks_in m))

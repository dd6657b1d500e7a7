-- Bytes cut into pieces as they come, and the entries of the pieces.
use Rattle.std.specs.Prelude.{ℕ, ◌+◌, ◌*◌, ◌/◌, ◌≡◌, ℤ, List, [], ◌∷◌, ◌++◌, length, map, take, drop}
use Rattle.std.specs.List.{range_with_len}
use Rattle.mm_keeper.specs.Entries.{Entries}
use Rattle.mm_image.specs.Keys.{chunk_key, occurrence_key}
use Rattle.mm_image.specs.Content.{piece_limit}

abbrev pub join : List (List ℕ) → List ℕ
join [] = []
join (p ∷ ps) = p ++ join ps

-- each piece is as long as may be
abbrev pub AreFull : List (List ℕ) → Type 0
AreFull [] = Unit {0}
AreFull (p ∷ ps) = (length p ≡ piece_limit) × AreFull ps

-- the pieces of some bytes
abbrev pub pieces_of : List ℕ → List (List ℕ)
pieces_of bytes = map (λ i. take piece_limit (drop (piece_limit * i) bytes)) (range_with_len 0 ((length bytes + 999) / 1000))

-- the entries of pieces, numbered from here on
abbrev pub numbered : List ℤ → ℕ → List (List ℕ) → Entries
numbered label i [] = []
numbered label i (p ∷ ps) = (chunk_key label i, p) ∷ numbered label (i + 1) ps

-- the entries of a word and the nodes that hold it
abbrev pub listed : List ℕ × List (List ℤ) → Entries
listed p = map (λ label. (occurrence_key p.0 label, [])) p.1

-- a word with the number of nodes that hold it
abbrev pub sized_list : List ℕ × List (List ℤ) → List ℕ × ℕ
sized_list p = (p.0, length p.1)

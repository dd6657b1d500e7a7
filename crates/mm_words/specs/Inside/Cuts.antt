-- A name that is cut at one place.
use Rattle.std.specs.Prelude.{ℕ, ◌≡◌, ◌++◌, ◌<◌, List, length, Option, Some, None}
use Rattle.std.specs.Borrow.{Bor}
use Rattle.mm_words.specs.Words.{text_words, name_words}

-- the first piece and what stands behind the cut, or none where there is no cut
abbrev pub CutsOnce : Option (Bor (List ℕ) × Bor (List ℕ)) → List ℕ → Type 0
CutsOnce None name = name_words name ≡ text_words name
CutsOnce (Some x) name = (name_words name ≡ text_words x.0.now ++ name_words x.1.now) × (length x.1.now < length name)

-- The keys of one word's range.
use Rattle.std.specs.Prelude.{ℕ, List, ◌∷◌, ◌++◌}

-- 02, the word, 00 and these bytes
abbrev pub range_key : List ℕ → List ℕ → List ℕ
range_key word rest = 2 ∷ word ++ (0 ∷ rest)

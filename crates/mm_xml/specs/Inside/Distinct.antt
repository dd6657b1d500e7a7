-- No name stands twice.
use Rattle.std.specs.Prelude.{ℕ, List, [], ◌∷◌, Bool, true, ◌&&◌, not}
use Rattle.std.specs.List.{list_any}
use Rattle.std.specs.Str.{bytes_eq}

-- none of the names was seen, nor stands twice
abbrev pub differ_from : List (List ℕ) → List (List ℕ) → Bool
differ_from seen [] = true
differ_from seen (n ∷ ns) = not (list_any (λ m. bytes_eq n m) seen) && differ_from (n ∷ seen) ns

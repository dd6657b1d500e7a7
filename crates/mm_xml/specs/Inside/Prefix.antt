-- What comes after a pattern.
use Rattle.std.specs.Prelude.{ℕ, List, [], ◌∷◌, ◌==◌, Option, Some, None, if◌then◌else◌}

-- what comes after the pattern at the front
abbrev pub stripped : List ℕ → List ℕ → Option (List ℕ)
stripped [] cs = Some cs
stripped (p ∷ ps) [] = None
stripped (p ∷ ps) (c ∷ cs) = if p == c then stripped ps cs else None

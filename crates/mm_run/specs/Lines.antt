-- The lines of an input.
use Rattle.std.specs.Prelude.{ℕ, Bool, if◌then◌else◌, ◌==◌, List, [], ◌∷◌, ◌≢◌}
use Rattle.std.specs.List.{AllByRecursion}

-- a byte before the first of these lines
abbrev pub onto_first : ℕ → Bool → List (List ℕ) → List (List ℕ)
onto_first b ended [] = if ended then (b ∷ []) ∷ [] else []
onto_first b ended (line ∷ lines) = (b ∷ line) ∷ lines

-- Each line without its line feed. Where the input is ended, what stands after the last line feed is a line too.
abbrev pub lines : List ℕ → Bool → List (List ℕ)
lines [] ended = []
lines (b ∷ bs) ended = if b == 10 then [] ∷ lines bs ended else onto_first b ended (lines bs ended)

abbrev pub HasNoLineFeed : List ℕ → Type 0
HasNoLineFeed bytes = AllByRecursion (λ b. b ≢ 10) bytes

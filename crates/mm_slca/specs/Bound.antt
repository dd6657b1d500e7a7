-- How many steps a search may take.
use Rattle.std.specs.Prelude.{ℕ, pos, ◌≡◌, refl, ◌+◌, ◌*◌, ◌-◌, List, [], ◌∷◌, length, if◌then◌else◌, nat_eq}
use Rattle.mm_label.specs.Fronts.{Label}
use Rattle.mm_lists.specs.Shortest.{least}

-- with k lists and a shortest of s nodes: k counts, and for each of the s nodes a left and a right match
-- in each other list and the next node, after the first; the counts alone where a list is empty
abbrev pub cost_of : List (List Label) → ℕ
cost_of ls = if nat_eq (least ls) 0 then length ls else length ls + (2 * (length ls - 1) * least ls + 1) + least ls

-- ---- worked examples: the texts "XML search" and "Keyword search" at 1.1.1.1 and 1.3.1.1, the text "Liu" at 1.1.3.1

search : List Label
search = (pos 1 ∷ pos 1 ∷ pos 1 ∷ pos 1 ∷ []) ∷ (pos 1 ∷ pos 3 ∷ pos 1 ∷ pos 1 ∷ []) ∷ []

liu : List Label
liu = (pos 1 ∷ pos 1 ∷ pos 3 ∷ pos 1 ∷ []) ∷ []

search_liu : cost_of (search ∷ liu ∷ []) ≡ 6
unfolding search liu
search_liu = refl

search_alone : cost_of (search ∷ []) ≡ 4
unfolding search
search_alone = refl

absent_liu : cost_of ([] ∷ liu ∷ []) ≡ 2
unfolding liu
absent_liu = refl

-- How many steps a search may take.
use Rattle.std.specs.Prelude.{ℕ, pos, ◌≡◌, refl, ◌+◌, ◌*◌, ◌-◌, List, [], ◌∷◌, length, if◌then◌else◌, nat_eq}
use Rattle.mm_label.specs.Fronts.{Label}
use Rattle.mm_lists.specs.Shortest.{least}

-- with k lists and a shortest of s nodes: k counts, the first node, and for each of the s nodes a left and a
-- right match in each other list, the next node, and two look-ups in each list at its candidate; the counts
-- alone where a list is empty
abbrev pub cost_of : List (List Label) → ℕ
cost_of ls = if nat_eq (least ls) 0 then length ls else length ls + ((4 * length ls - 2) * least ls + 1) + least ls

-- ---- worked examples: "xml" at 1.1.1 and 1.3.1, and "liu" at 1.1.1 and 1.5.1

xml : List Label
xml = (pos 1 ∷ pos 1 ∷ pos 1 ∷ []) ∷ (pos 1 ∷ pos 3 ∷ pos 1 ∷ []) ∷ []

liu : List Label
liu = (pos 1 ∷ pos 1 ∷ pos 1 ∷ []) ∷ (pos 1 ∷ pos 5 ∷ pos 1 ∷ []) ∷ []

xml_liu : cost_of (xml ∷ liu ∷ []) ≡ 17
unfolding xml liu
xml_liu = refl

xml_alone : cost_of (xml ∷ []) ≡ 8
unfolding xml
xml_alone = refl

absent_liu : cost_of ([] ∷ liu ∷ []) ≡ 2
unfolding liu
absent_liu = refl

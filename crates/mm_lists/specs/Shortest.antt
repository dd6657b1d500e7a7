-- The shortest of the lists.
use Rattle.std.specs.Prelude.{ℕ, ◌≤◌, ◌<◌, ◌≡◌, ◌⊎◌, List, [], ◌∷◌, length, min, get_or}
use Rattle.mm_label.specs.Fronts.{Label}
use Rattle.mm_tree.specs.Trees.{Trees}
use Rattle.mm_tree.specs.Search.{Worded, list_of}

-- the list of the query's word at this place has this many nodes, and none has fewer
abbrev pub IsShortest : List (List ℕ) → Trees Worded → ℕ → ℕ → Type 0
IsShortest query f at size = (length (list_of (get_or query at []) f) ≡ size) × ((i : ℕ) → i < length query → size ≤ length (list_of (get_or query i []) f))

-- the list at this place is taken where it is the first or shorter, and else the best so far stays
abbrev pub Betters : ℕ → ℕ → ℕ → ℕ → ℕ → ℕ → Type 0
Betters at size old_at old_size new_at new_size =
    ((new_at ≡ at) × (new_size ≡ size) × (0 < at → size ≤ old_size)) ⊎ ((new_at ≡ old_at) × (new_size ≡ old_size) × (0 < at) × (old_size ≤ size))

-- how many nodes the shortest list has
abbrev pub least : List (List Label) → ℕ
least [] = 0
least (l ∷ []) = length l
least (l ∷ k ∷ ls) = min (length l) (least (k ∷ ls))

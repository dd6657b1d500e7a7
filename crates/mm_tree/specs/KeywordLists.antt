-- The keyword lists of a forest in a map: under each word the labels of the nodes whose own it is.
use Rattle.std.specs.Prelude.{ℕ, ℤ, List, [], ◌≡◌, Some, unwrap_or}
use Rattle.std.specs.BTreeMap.{BTreeMap, get}
use Rattle.std.specs.Ordering.{nat_cmp}
use Rattle.std.specs.Cmp.Lexicographic.{slice_cmp}

-- the list under a word, empty where there is none
abbrev pub list_in : BTreeMap (List ℕ) (List (List ℤ)) → List ℕ → List (List ℤ)
list_in lists w = unwrap_or (get (slice_cmp nat_cmp) lists w) []

-- under no word stands an empty list
abbrev pub AreFilled : BTreeMap (List ℕ) (List (List ℤ)) → Type 0
AreFilled lists = (w : List ℕ) → get (slice_cmp nat_cmp) lists w ≡ Some [] → ⊥

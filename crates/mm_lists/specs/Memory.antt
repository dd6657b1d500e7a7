-- Keyword lists in memory.
use Rattle.std.specs.Prelude.{ℕ, ℤ, Bool, ◌||◌, List, ◌≡◌, IsTrue}
use Rattle.std.specs.BTreeMap.{BTreeMap}
use Rattle.std.specs.Ordering.{int_cmp, is_le}
use Rattle.std.specs.Cmp.Lexicographic.{slice_cmp}
use Rattle.mm_tree.specs.Trees.{Trees}
use Rattle.mm_tree.specs.Numbering.{Labelled}
use Rattle.mm_tree.specs.Forests.{is_well_formed}
use Rattle.mm_tree.specs.Search.{list_of, worded}
use Rattle.mm_tree.specs.KeywordLists.{list_in}
use Rattle.mm_label.specs.Fronts.{is_front}

-- the forest is well formed, and under each word stands its keyword list
abbrev pub AreOf : BTreeMap (List ℕ) (List (List ℤ)) → Trees Labelled → Type 0
AreOf lists f = IsTrue (is_well_formed f) × ((w : List ℕ) → list_in lists w ≡ list_of w (worded f))

-- m comes before the end of v's subtree
abbrev pub is_through : List ℤ → List ℤ → Bool
is_through v m = is_le (slice_cmp int_cmp m v) || is_front v m

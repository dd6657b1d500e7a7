-- What is known of the labels that a search finds.
use Rattle.std.specs.Prelude.{ℕ, ℤ, List, ◌≡◌, Some, AllPairs}
use Rattle.mm_fragment.specs.Matching.{Tells}
use Rattle.mm_fragment.specs.Showing.{named_in}
use Rattle.mm_label.specs.Fronts.{Within}
use Rattle.mm_label.specs.Label.{IsBefore}
use Rattle.mm_tree.specs.Edits.{found}
use Rattle.mm_tree.specs.Numbering.{Labelled}
use Rattle.mm_tree.specs.Trees.{Tree, Trees}

-- each of these labels is that of a node
abbrev pub AreNodes : Trees Labelled → List (List ℤ) → Type 0
AreNodes f xs = (x : List ℤ) → Within x xs → (t : Tree Labelled) × (found x f ≡ Some t)

-- they are nodes' in document order, and a child of a node is full exactly where one of them lies at or below it
pub record AreTold (query : List (List ℕ)) (f : Trees Labelled) (xs : List (List ℤ)) : Type 0 where
  pub nodes : AreNodes f xs
  pub rising : AllPairs IsBefore xs
  pub told : (x : List ℤ) (t : Tree Labelled) → found x f ≡ Some t → Tells xs query (named_in t)

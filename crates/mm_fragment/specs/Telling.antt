-- What the answers of a search tell of the nodes below an answer.
use Rattle.std.specs.Prelude.{ℕ, ℤ, List, ◌≡◌, Some, IsTrue}
use Rattle.mm_tree.specs.Trees.{Trees, Tree}
use Rattle.mm_tree.specs.Numbering.{Labelled}
use Rattle.mm_tree.specs.Forests.{is_well_formed}
use Rattle.mm_tree.specs.Edits.{found}
use Rattle.mm_tree.specs.Search.{worded, slca}
use Rattle.mm_tree.specs.Elca.{elca}
use Rattle.mm_fragment.specs.Matching.{Tells}
use Rattle.mm_fragment.specs.Showing.{named_in}

-- the smallest lowest common ancestors tell of each node which of its children are full
abbrev pub SmallestTell : Type 0
SmallestTell = (query : List (List ℕ)) (forest : Trees Labelled) → IsTrue (is_well_formed forest) → (x : List ℤ) (t : Tree Labelled) → found x forest ≡ Some t → Tells (slca query (worded forest)) query (named_in t)

-- and so do the exclusive ones
abbrev pub ExclusiveTell : Type 0
ExclusiveTell = (query : List (List ℕ)) (forest : Trees Labelled) → IsTrue (is_well_formed forest) → (x : List ℤ) (t : Tree Labelled) → found x forest ≡ Some t → Tells (elca query (worded forest)) query (named_in t)

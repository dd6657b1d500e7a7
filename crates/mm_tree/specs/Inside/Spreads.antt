-- How the words of a query are spread among siblings.
use Rattle.std.specs.Prelude.{ℕ, List, ◌≡◌}
use Rattle.mm_tree.specs.Trees.{Trees}
use Rattle.mm_tree.specs.Search.{Worded}
use Rattle.mm_tree.specs.Inside.Searching.{held, held_outside}
use Rattle.mm_tree.specs.declared.search.owners.Spread.{Spread}

-- which words of the query they hold, and which of them those that aren't full
pub record IsSpread (found : Spread) (query : List (List ℕ)) (trees : Trees Worded) : Type 0 where
  pub held : found.held ≡ held query trees
  pub outside : found.outside ≡ held_outside query query trees

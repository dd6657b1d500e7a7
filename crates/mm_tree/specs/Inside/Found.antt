-- What a search found in some trees.
use Rattle.std.specs.Prelude.{ℕ, List, ◌≡◌}
use Rattle.mm_tree.specs.Trees.{Trees}
use Rattle.mm_tree.specs.Search.{Worded, some_full}
use Rattle.mm_tree.specs.Inside.Searching.{held}
use Rattle.mm_tree.specs.declared.search.Found.{Found}

-- which words of the query they hold, and whether one of the siblings is full
pub record IsFound (found : Found) (query : List (List ℕ)) (trees : Trees Worded) : Type 0 where
  pub held : found.held ≡ held query trees
  pub some_full : found.some_full ≡ some_full query trees

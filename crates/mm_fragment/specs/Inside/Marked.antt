-- What masks and pruning make of a fragment's nodes: trees of rows, and these with their rows as numbers.
use Rattle.std.specs.Prelude.{ℕ, ◌+◌, ◌*◌, ◌^◌, Bool, not, ◌&&◌, List, [], ◌∷◌, cond, if◌then◌else◌}
use Rattle.std.specs.List.{list_any}
use Rattle.mm_match.specs.declared.mark.Mark.{Mark}
use Rattle.mm_tree.specs.Trees.{Trees, none, node, each}
use Rattle.mm_tree.specs.Search.{is_full}
use Rattle.mm_tree.specs.Fragments.{Named, bare, bares, row_of, some, less, shown}

-- a node, and for each word of the query whether it or a node below it holds the word
pub record Rowed : Type 0 where
  pub entry : Named
  pub row : List Bool

-- the nodes with a word of the query at or below them, without the full ones and what lies below those
abbrev pub marked : List (List ℕ) → Trees Named → Trees Rowed
marked query none = none
marked query (node e inner rest) =
    if not (is_full query (bare e) (bares inner)) && some (row_of query e inner) then node (record { entry = e; row = row_of query e inner }) (marked query inner) (marked query rest) else marked query rest

abbrev pub rows_in : Trees Rowed → List (List Bool)
rows_in none = []
rows_in (node m inner rest) = m.row ∷ rows_in rest

-- those that no sibling beats, and below them the same; all are the rows of the siblings
abbrev pub pruned : List (List Bool) → Trees Rowed → Trees Rowed
pruned all none = none
pruned all (node m inner rest) = if list_any (less m.row) all then pruned all rest else node m (pruned (rows_in inner) inner) (pruned all rest)

-- each node as a fragment shows it
abbrev pub show_all : List (List ℕ) → Trees Rowed → Trees Named
show_all query f = each (λ m. shown query m.entry) f

-- ---- rows as masks

-- bit i of the number is the row's i-th flag, counted from 0
abbrev pub mask_of : List Bool → ℕ
mask_of [] = 0
mask_of (flag ∷ row) = mask_of row * 2 ^ 1 + cond flag 1 0

abbrev pub mark_of : Rowed → Mark
mark_of m = record { label = m.entry.label; mask = mask_of m.row }

abbrev pub coded : Trees Rowed → Trees Mark
coded f = each mark_of f

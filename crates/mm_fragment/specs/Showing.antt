-- What a fragment shows of the node that has a label, and the fragments of nodes.
use Rattle.std.specs.Prelude.{ℕ, ℤ, List, [], ◌∷◌, filter, flat_map, Option, Some, None}
use Rattle.std.specs.List.{list_any}
use Rattle.std.specs.Str.{bytes_eq}
use Rattle.mm_tree.specs.Trees.{Trees, Tree}
use Rattle.mm_tree.specs.Numbering.{Labelled}
use Rattle.mm_tree.specs.Search.{own}
use Rattle.mm_tree.specs.Edits.{found}
use Rattle.mm_tree.specs.Hits.{name_at}
use Rattle.mm_tree.specs.Fragments.{Named, fragment, named, named_as}

-- a tree with names
abbrev pub named_in : Tree Labelled → Tree Named
named_in t = (named_as t.0, named t.1)

-- the fragment of the node that has a label, if there is one
abbrev pub fragment_at : List (List ℕ) → Option (Tree Labelled) → List (Tree Named)
fragment_at query None = []
fragment_at query (Some t) = fragment query (named_in t) ∷ []

abbrev pub fragments_of : List (List ℕ) → Trees Labelled → List (List ℤ) → List (Tree Named)
fragments_of query forest labels = flat_map (λ x. fragment_at query (found x forest)) labels

-- the words of the query that are the node's own, in the query's order
abbrev pub own_in : List (List ℕ) → Option (Tree Labelled) → List (List ℕ)
own_in query None = []
own_in query (Some t) = filter (λ w. list_any (bytes_eq w) (own t.0.kind)) query

-- what is shown of the node that has the label; without a name where no node has it
abbrev pub shown_at : List (List ℕ) → Trees Labelled → List ℤ → Named
shown_at query forest x = record { label = x; name = name_at forest x; words = own_in query (found x forest) }

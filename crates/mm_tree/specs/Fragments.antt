-- Fragments: a node, and below it the contributors among its children, each with its fragment. Contributors
-- are those of MaxMatch: Liu and Chen, "Reasoning and Identifying Relevant Matches for XML Keyword Search",
-- VLDB 2008. That a full child is none and prunes no sibling, and what a fragment shows of a node, are this
-- project's own.
use Rattle.std.specs.Prelude.{ℕ, ℤ, Bool, true, not, ◌&&◌, ◌||◌, List, [], ◌∷◌, map, filter, if◌then◌else◌}
use Rattle.std.specs.List.{list_any}
use Rattle.mm_tree.specs.declared.node.Node.{Node}
use Rattle.mm_tree.specs.declared.fragment.Fragment.{Fragment}
use Rattle.mm_tree.specs.declared.fragment.Fragment.TheFolds.{fold-Fragment}
use Rattle.mm_tree.specs.declared.fragment.Fragment.TheOpen.{Fragment-F}
use Rattle.mm_tree.specs.Trees.{Trees, none, node, each, Tree, siblings}
use Rattle.mm_tree.specs.Numbering.{Labelled, node_of}
use Rattle.mm_tree.specs.Hits.{name_of}
use Rattle.mm_tree.specs.Search.{Worded, has, is_full, own, held_by}

-- a node with its name: its own words, or in a fragment those of the query among them
pub record Named : Type 0 where
  pub label : List ℤ
  pub name : List ℕ
  pub words : List (List ℕ)

abbrev pub named_as : Labelled → Named
named_as e = record { label = e.label; name = name_of e.kind; words = own e.kind }

abbrev pub named : Trees Labelled → Trees Named
named = each named_as

-- a node of the program with all below it
abbrev pub named_tree : Node → Tree Named
named_tree n = (named_as (node_of n).0, named (node_of n).1)

-- the same without names
abbrev pub bare : Named → Worded
bare e = record { label = e.label; words = e.words }

abbrev pub bares : Trees Named → Trees Worded
bares = each bare

-- for each word of the query, whether a node with these children holds it, itself or below it
abbrev pub row_of : List (List ℕ) → Named → Trees Named → List Bool
row_of query e inner = held_by query (bare e) (bares inner)

-- the row has a word
abbrev pub some : List Bool → Bool
some row = list_any (λ flag. flag) row

-- what one row has, the other has too; rows of one query are of one length
abbrev pub subset : List Bool → List Bool → Bool
subset [] other = true
subset (a ∷ row) [] = true
subset (a ∷ row) (b ∷ other) = (not a || b) && subset row other

-- the other has all that this row has, and more
abbrev pub less : List Bool → List Bool → Bool
less row other = subset row other && not (subset other row)

-- the rows of those of the siblings that aren't full
abbrev pub rows_of : List (List ℕ) → Trees Named → List (List Bool)
rows_of query none = []
rows_of query (node e inner rest) = if is_full query (bare e) (bares inner) then rows_of query rest else row_of query e inner ∷ rows_of query rest

-- a child that isn't full, holds a word of the query, and has no sibling that isn't full whose words within the query are a strict superset of its own
abbrev pub contributes : List (List ℕ) → List (List Bool) → Named → Trees Named → Bool
contributes query all e inner =
    not (is_full query (bare e) (bares inner)) && (some (row_of query e inner) && not (list_any (less (row_of query e inner)) all))

-- what a fragment shows of a node: of its own words those of the query, in the query's order
abbrev pub shown : List (List ℕ) → Named → Named
shown query e = record { label = e.label; name = e.name; words = filter (has (bare e)) query }

-- the contributors among siblings, each with its fragment; all are the rows of the siblings that aren't full
abbrev pub contributors : List (List ℕ) → List (List Bool) → Trees Named → Trees Named
contributors query all none = none
contributors query all (node e inner rest) =
    if contributes query all e inner then node (shown query e) (contributors query (rows_of query inner) inner) (contributors query all rest) else contributors query all rest

-- the fragment of a node, here with the node's children
abbrev pub fragment : List (List ℕ) → Tree Named → Tree Named
fragment query t = (shown query t.0, contributors query (rows_of query t.1) t.1)

-- ---- the contributor rule of MaxMatch itself, which knows no full nodes

abbrev pub all_rows : List (List ℕ) → Trees Named → List (List Bool)
all_rows query none = []
all_rows query (node e inner rest) = row_of query e inner ∷ all_rows query rest

abbrev pub relevant : List (List ℕ) → List (List Bool) → Trees Named → Trees Named
relevant query all none = none
relevant query all (node e inner rest) =
    if some (row_of query e inner) && not (list_any (less (row_of query e inner)) all) then node (shown query e) (relevant query (all_rows query inner) inner) (relevant query all rest) else relevant query all rest

-- ---- fragments of the program

abbrev pub fragment_step : Fragment-F (Tree Named) → Tree Named
fragment_step x = (record { label = x.label; name = x.name; words = x.matches }, siblings x.children)

-- a fragment of the program as plain data
abbrev pub fragment_tree : Fragment → Tree Named
fragment_tree = fold-Fragment (Tree Named) fragment_step

abbrev pub fragment_trees : List Fragment → Trees Named
fragment_trees fs = siblings (map fragment_tree fs)

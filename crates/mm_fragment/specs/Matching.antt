-- The matches of an answer: the nodes that hold a word of the query, but those at or below a full child of
-- the answer.
use Rattle.std.specs.Prelude.{ℕ, ℤ, ◌+◌, true, List, [], ◌∷◌, ◌++◌, ◌≡◌, ◌↔◌, map, filter, if◌then◌else◌}
use Rattle.std.specs.List.{Contains}
use Rattle.mm_label.specs.Label.{IsAncestorOrSelf}
use Rattle.mm_match.specs.declared.mark.Mark.{Mark}
use Rattle.mm_tree.specs.Trees.{Trees, none, node, Tree, preorder}
use Rattle.mm_tree.specs.Search.{has, is_full}
use Rattle.mm_tree.specs.Fragments.{Named, bare, bares}

-- the nodes of these siblings in document order, but those at or below a full one of the siblings
abbrev pub outside_full : List (List ℕ) → Trees Named → List Named
outside_full query none = []
outside_full query (node e inner rest) =
    (if is_full query (bare e) (bares inner) then [] else e ∷ preorder inner) ++ outside_full query rest

-- the nodes of a tree in document order, but those at or below a full child of its root
abbrev pub open_nodes : List (List ℕ) → Tree Named → List Named
open_nodes query t = t.0 ∷ outside_full query t.1

abbrev pub marks_of : ℕ → List Named → List Mark
marks_of bit es = map (λ e. record { label = e.label; mask = bit }) es

-- for each word of the query in turn, a mark for each of the nodes whose own the word is; the bit doubles
-- from word to word
abbrev pub matches_of : ℕ → List (List ℕ) → List Named → List Mark
matches_of bit [] es = []
matches_of bit (w ∷ query) es = marks_of bit (filter (λ e. has (bare e) w) es) ++ matches_of (bit + bit) query es

-- one of the labels lies at or below x
abbrev pub Reaches : List ℤ → List (List ℤ) → Type 0
Reaches x answers = (y : List ℤ) × Contains answers y × IsAncestorOrSelf x y

-- the answers tell which of these siblings are full: those that have an answer at or below them
abbrev pub TellsAll : List (List ℤ) → List (List ℕ) → Trees Named → Type 0
TellsAll answers query none = Unit {0}
TellsAll answers query (node e inner rest) = ((is_full query (bare e) (bares inner) ≡ true) ↔ Reaches e.label answers) × TellsAll answers query rest

-- the answers tell which of the root's children are full
abbrev pub Tells : List (List ℤ) → List (List ℕ) → Tree Named → Type 0
Tells answers query t = TellsAll answers query t.1

-- What a search knows of the trees that it went through.
use Rattle.std.specs.Prelude.{ℕ, Bool, ◌&&◌, ◌||◌, not, List, [], ◌∷◌, map, if◌then◌else◌, ℤ}
use Rattle.mm_tree.specs.Trees.{Trees}
use Rattle.mm_tree.specs.Search.{Worded, own, holds, is_full, some_full}
use Rattle.mm_tree.specs.Elca.{outside, owns}
use Rattle.mm_tree.specs.declared.node.Node.{Node}
use Rattle.mm_tree.specs.declared.node.Node.TheViews.{out-Node}

-- flags, and those of others that stand in the same places
abbrev pub either : List Bool → List Bool → List Bool
either [] others = []
either (flag ∷ flags) [] = flag ∷ flags
either (flag ∷ flags) (other ∷ others) = (flag || other) ∷ either flags others

-- for each word of the query, whether it is one of a node's in these trees
abbrev pub held : List (List ℕ) → Trees Worded → List Bool
held query trees = map (λ w. holds w trees) query

-- the node's label, where it is full and none of its children is
abbrev pub own_answer : List (List ℕ) → Worded → Trees Worded → List (List ℤ)
own_answer query e inner = if is_full query e inner && not (some_full query inner) then e.label ∷ [] else []

-- for each of the words, whether it is one of a node's in those trees that aren't full
abbrev pub held_outside : List (List ℕ) → List (List ℕ) → Trees Worded → List Bool
held_outside query words trees = map (λ w. outside w query trees) words

-- the node's label, where it owns every word
abbrev pub own_elca : List (List ℕ) → Worded → Trees Worded → List (List ℤ)
own_elca query e inner = if owns query query e inner then e.label ∷ [] else []

-- a node of the program as searches see it
abbrev pub worded_node : Node → Worded
worded_node n = record { label = (out-Node n).label; words = own (out-Node n).kind }

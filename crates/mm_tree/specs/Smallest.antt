-- What the answers of a search are: the full nodes that have no full node below them.
-- Xu and Papakonstantinou, "Efficient Keyword Search for Smallest LCAs in XML Databases", SIGMOD 2005, section 2.
use Rattle.std.specs.Prelude.{ℕ, ℤ, List, [], ◌∷◌, ◌++◌, ◌≡◌, ◌↔◌, if◌then◌else◌, Contains, AllPairs, IsTrue}
use Rattle.mm_label.specs.Label.{IsAncestorOrSelf, IsBefore}
use Rattle.mm_tree.specs.Trees.{Trees, none, node}
use Rattle.mm_tree.specs.Numbering.{Labelled}
use Rattle.mm_tree.specs.Forests.{is_well_formed}
use Rattle.mm_tree.specs.Edits as edits
use Rattle.mm_tree.specs.Search.{Worded, worded, is_full, slca}

-- the labels of the full nodes, in document order
abbrev pub full_nodes : List (List ℕ) → Trees Worded → List (List ℤ)
full_nodes query none = []
full_nodes query (node e inner rest) = (if is_full query e inner then e.label ∷ [] else []) ++ (full_nodes query inner ++ full_nodes query rest)

-- the label of a full node, of which no full node is a descendant
pub record IsSmallest (query : List (List ℕ)) (trees : Trees Worded) (x : List ℤ) : Type 0 where
  pub full : Contains (full_nodes query trees) x
  pub lowest : (y : List ℤ) → Contains (full_nodes query trees) y → IsAncestorOrSelf x y → y ≡ x

-- an answer at the node or below it
pub record HasAnswer (query : List (List ℕ)) (trees : Trees Worded) (x : List ℤ) : Type 0 where
  pub answer : List ℤ
  pub found : Contains (slca query trees) answer
  pub below : IsAncestorOrSelf x answer

-- the answers are labels of nodes
abbrev pub AnswersAreNodes : Type 0
AnswersAreNodes = (query : List (List ℕ)) (forest : Trees Labelled) → (x : List ℤ) → Contains (slca query (worded forest)) x → IsTrue (edits.has_node x forest)

-- the answers are the smallest full nodes
abbrev pub AnswersAreSmallest : Type 0
AnswersAreSmallest = (query : List (List ℕ)) (forest : Trees Labelled) → IsTrue (is_well_formed forest) → (x : List ℤ) → Contains (slca query (worded forest)) x ↔ IsSmallest query (worded forest) x

-- each full node has an answer at or below it
abbrev pub FullNodesHaveAnswers : Type 0
FullNodesHaveAnswers = (query : List (List ℕ)) (forest : Trees Labelled) → IsTrue (is_well_formed forest) → (x : List ℤ) → Contains (full_nodes query (worded forest)) x → HasAnswer query (worded forest) x

-- no answer is an ancestor of another
abbrev pub AnswersAreApart : Type 0
AnswersAreApart = (query : List (List ℕ)) (forest : Trees Labelled) → IsTrue (is_well_formed forest) → (x y : List ℤ) → Contains (slca query (worded forest)) x → Contains (slca query (worded forest)) y → IsAncestorOrSelf x y → y ≡ x

-- the answers stand in document order
abbrev pub AnswersRise : Type 0
AnswersRise = (query : List (List ℕ)) (forest : Trees Labelled) → IsTrue (is_well_formed forest) → AllPairs IsBefore (slca query (worded forest))

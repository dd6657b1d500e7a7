-- What the exclusive lowest common ancestors are.
-- ELCA: Xu and Papakonstantinou, "Efficient LCA based Keyword Search in XML Data", EDBT 2008.
use Rattle.std.specs.Prelude.{ℕ, ℤ, ◌≡◌, ◌↔◌, List, All, Contains, AllPairs, IsTrue}
use Rattle.mm_label.specs.Label.{IsAncestorOrSelf, IsBefore}
use Rattle.mm_tree.specs.Trees.{Trees}
use Rattle.mm_tree.specs.Numbering.{Labelled}
use Rattle.mm_tree.specs.Forests.{is_well_formed}
use Rattle.mm_tree.specs.Search.{Worded, worded, slca, list_of}
use Rattle.mm_tree.specs.Elca.{elca}
use Rattle.mm_tree.specs.Smallest.{full_nodes}

-- an occurrence of the word at or below x, which is at or below no full node properly below x
pub record OwnOccurrence (query : List (List ℕ)) (trees : Trees Worded) (x : List ℤ) (w : List ℕ) : Type 0 where
  pub occurrence : List ℤ
  pub has_word : Contains (list_of w trees) occurrence
  pub below : IsAncestorOrSelf x occurrence
  pub outside : (y : List ℤ) → Contains (full_nodes query trees) y → IsAncestorOrSelf x y → IsAncestorOrSelf y occurrence → y ≡ x

-- the label of a full node, with such an occurrence of each word of the query
pub record IsExclusive (query : List (List ℕ)) (trees : Trees Worded) (x : List ℤ) : Type 0 where
  pub full : Contains (full_nodes query trees) x
  pub words : All (OwnOccurrence query trees x) query

-- the answers are the exclusive nodes
abbrev pub AnswersAreExclusive : Type 0
AnswersAreExclusive = (query : List (List ℕ)) (forest : Trees Labelled) → IsTrue (is_well_formed forest) → (x : List ℤ) → Contains (elca query (worded forest)) x ↔ IsExclusive query (worded forest) x

-- each smallest lowest common ancestor is an exclusive one
abbrev pub SmallestAreExclusive : Type 0
SmallestAreExclusive = (query : List (List ℕ)) (forest : Trees Labelled) (x : List ℤ) → Contains (slca query (worded forest)) x → Contains (elca query (worded forest)) x

-- each exclusive one is full
abbrev pub ExclusiveAreFull : Type 0
ExclusiveAreFull = (query : List (List ℕ)) (forest : Trees Labelled) (x : List ℤ) → Contains (elca query (worded forest)) x → Contains (full_nodes query (worded forest)) x

-- they stand in document order, each once
abbrev pub ExclusiveRise : Type 0
ExclusiveRise = (query : List (List ℕ)) (forest : Trees Labelled) → IsTrue (is_well_formed forest) → AllPairs IsBefore (elca query (worded forest))

-- The nodes that have the labels that a search finds.
use Rattle.std.proofs.Common.{inl, inr, ◌≡◌, ℕ, ℤ, Bool, true, false, cond, ◌||◌, List, [], ◌∷◌, ◌++◌, ap, sym, subst}
use Rattle.std.proofs.lemmas.Bool.{or_right}
use Rattle.mm_label.specs.Fronts.{Within}
use Rattle.mm_label.specs.Facts.Members.{contains_of, within_joined, within_of}
use Rattle.mm_label.specs.Facts.Order.{label_same}
use Rattle.mm_tree.specs.Edits.{has_label, has_node}
use Rattle.mm_tree.specs.Elca.{elca}
use Rattle.mm_tree.specs.Numbering.{Labelled}
use Rattle.mm_tree.specs.Owners.{ExclusiveAreFull}
use Rattle.mm_tree.specs.Search.{is_full, slca, worded, worded_as}
use Rattle.mm_tree.specs.Smallest.{AnswersAreNodes, full_nodes}
use Rattle.mm_tree.specs.Trees.{Trees, none, node}
use Rattle.mm_store.specs.Inside.Told.{AreNodes}
use Rattle.mm_tree.specs.Facts.Found.{some_found}

-- a full node is a node
full_has : (query : List (List ℕ)) (x : List ℤ) (f : Trees Labelled) → Within x (full_nodes query (worded f)) → has_node x f ≡ true
full_has query x none w = absurd w
full_has query x (node d inner rest) w =
    let below = full_nodes query (worded inner) in
    let behind = full_nodes query (worded rest) in
    elim (within_joined x (cond (is_full query (worded_as d) (worded inner)) (d.label ∷ []) []) (below ++ behind) w) [
      | inl h ↦ ap (λ (b : Bool). b || (has_node x inner || has_node x rest)) (own (is_full query (worded_as d) (worded inner)) h)
      | inr h ↦ or_right (has_label x d) (has_node x inner || has_node x rest) (elim (within_joined x below behind h) [
        | inl k ↦ ap (λ (b : Bool). b || has_node x rest) (full_has query x inner k)
        | inr k ↦ or_right (has_node x inner) (has_node x rest) (full_has query x rest k)
      ])
    ]
  where
    own : (b : Bool) → Within x (cond b (d.label ∷ []) []) → has_label x d ≡ true
    own true h = elim h [ inl q ↦ label_same d.label x (sym q) | inr q ↦ absurd q ]
    own false h = absurd h

pub smallest_nodes : AnswersAreNodes → (query : List (List ℕ)) (f : Trees Labelled) (xs : List (List ℤ)) → xs ≡ slca query (worded f) → AreNodes f xs
smallest_nodes law query f xs e = λ x w. some_found x f (law query f x (contains_of x (slca query (worded f)) (subst (Within x) e w)))

pub exclusive_nodes : ExclusiveAreFull → (query : List (List ℕ)) (f : Trees Labelled) (xs : List (List ℤ)) → xs ≡ elca query (worded f) → AreNodes f xs
exclusive_nodes law query f xs e = λ x w.
    some_found x f (full_has query x f (within_of x (full_nodes query (worded f)) (law query f x (contains_of x (elca query (worded f)) (subst (Within x) e w)))))

-- The subtree of a node is one run of the nodes in document order: what lies at or below the node, and nothing else.
use Rattle.std.proofs.Common.{inl, inr, ◌≡◌, List, [], ◌∷◌, ◌++◌, ap, sym, subst, ◌∙◌}
use Rattle.std.proofs.lemmas.List.{append_assoc}
use Rattle.mm_label.specs.Fronts.{Label, Front, Lt, Apart, Within}
use Rattle.mm_tree.specs.Trees.{Trees, none, node, preorder}
use Rattle.mm_tree.specs.Formed.{Formed}
use Rattle.mm_label.specs.Facts.Fronts.{front_le, below_apart}
use Rattle.mm_label.specs.Facts.Lists.{apart_lt}
use Rattle.mm_tree.specs.Facts.Nodes.{Stands, stands_under, stands_after}
use Rattle.mm_label.specs.Facts.Members.{within_joined}
use Rattle.mm_tree.specs.Facts.Places.{node_under, node_apart}

pub record IsSubtreeRun {A : Type 0} (at : A → Label) (d : A) (low f : Trees A) : Type 0 where
  pub front : List A
  pub back : List A
  pub is : preorder f ≡ front ++ ((d ∷ preorder low) ++ back)
  pub before : (p : A) → Within p front → Lt (at p) (at d)
  pub below : (p : A) → Within p (preorder low) → Front (at d) (at p)
  pub after : (p : A) → Within p back → Apart (at d) (at p)

pub subtree_run : {A : Type 0} (at : A → Label) (y : Label) (d : A) (low f : Trees A) → Formed at y f → Stands d low f → IsSubtreeRun at d low f
subtree_run at y d low none u h = absurd h
subtree_run {A} at y d low (node e inner rest) u h = elim h [
  | inl k ↦ record {
    front = [];
    back = preorder rest;
    is = let p = k.0 in let q = k.1 in cc;
    before = λ p w. absurd w;
    below = λ p w. (node_under at (at d) low p (subst (λ (n : A). Formed at (at n) low) (sym k.0) (subst (Formed at (at e)) (sym k.1) u.1)) w).0;
    after = λ p w. subst (λ (n : A). Apart (at n) (at p)) (sym k.0) (node_apart at (at e) y rest p u.3 u.2 w);
  }
  | inr k ↦ elim k [
    | inl q ↦
        let r = subtree_run at (at e) d low inner u.1 q in
        let b = stands_under at (at e) inner d low u.1 q in
        record {
          front = e ∷ r.front;
          back = r.back ++ preorder rest;
          is = ap (λ (z : List A). e ∷ z ++ preorder rest) r.is
              ∙ ap (λ (z : List A). e ∷ z) (append_assoc r.front ((d ∷ preorder low) ++ r.back) (preorder rest) ∙ ap (λ (z : List A). r.front ++ z) (append_assoc (d ∷ preorder low) r.back (preorder rest)));
          before = λ p w. elim w [ inl z ↦ subst (λ (n : A). Lt (at n) (at d)) (sym z) (front_le (at e) (at d) b.0, λ s. b.1 (sym s)) | inr z ↦ r.before p z ];
          below = r.below;
          after = λ p w. elim (within_joined p r.back (preorder rest) w) [
            | inl z ↦ r.after p z
            | inr z ↦ below_apart (at e) (at d) (at p) (node_apart at (at e) y rest p u.3 u.2 z) b.0
          ];
        }
    | inr q ↦
        let r = subtree_run at y d low rest u.3 q in
        let a = stands_after at (at e) y rest d low u.3 u.2 q in
        record {
          front = e ∷ preorder inner ++ r.front;
          back = r.back;
          is = ap (λ (z : List A). e ∷ preorder inner ++ z) r.is ∙ ap (λ (z : List A). e ∷ z) (sym (append_assoc (preorder inner) r.front ((d ∷ preorder low) ++ r.back)));
          before = λ p w. elim w [
            | inl z ↦ subst (λ (n : A). Lt (at n) (at d)) (sym z) (apart_lt (at e) (at d) a)
            | inr z ↦ elim (within_joined p (preorder inner) r.front z) [
              | inl s ↦ apart_lt (at p) (at d) (below_apart (at e) (at p) (at d) a (node_under at (at e) inner p u.1 s).0)
              | inr s ↦ r.before p s
            ]
          ];
          below = r.below;
          after = r.after;
        }
  ]
]

-- Where the nodes of well-formed trees lie.
use Rattle.std.proofs.Common.{inl, inr, ◌≡◌, List, ◌∷◌, ◌++◌, map, refl, ap, ap₂, sym, subst, ◌∙◌}
use Rattle.std.proofs.lemmas.List.{map-append}
use Rattle.mm_label.specs.Label.{whole}
use Rattle.mm_label.specs.Fronts.{Label, Front, Apart, Within, Ordered, Ascends, Lt, parent}
use Rattle.mm_label.specs.Facts.Fronts.{front_refl, front_trans, front_antisym, front_le, apart_below, below_apart}
use Rattle.mm_label.specs.Facts.Members.{within_joined}
use Rattle.mm_label.specs.Facts.Ordered.{ordered_joined, ordered_map}
use Rattle.mm_label.specs.Facts.Lists.{apart_lt}
use Rattle.mm_label.specs.Facts.Parents.{parent_of_child}
use Rattle.mm_tree.specs.Trees.{Trees, none, node, preorder, each}
use Rattle.mm_tree.specs.Formed.{ApartFrom, Formed}

pub preorder_each : {A B : Type 0} (f : A → B) (t : Trees A) → preorder (each f t) ≡ map f (preorder t)
preorder_each f none = refl
preorder_each {B} f (node a inner rest) =
    ap (λ (r : List B). f a ∷ r) (ap₂ (λ (l r : List B). l ++ r) (preorder_each f inner) (preorder_each f rest) ∙ sym (map-append f (preorder inner) (preorder rest)))

-- ---- where nodes lie

pub node_under : {A : Type 0} (at : A → Label) (y : Label) (f : Trees A) (p : A) → Formed at y f → Within p (preorder f) → Front y (at p) × (at p ≡ y → ⊥)
node_under at y none p u w = absurd w
node_under {A} at y (node m inner rest) p u w = elim w [
  | inl e ↦ subst (λ (q : A). Front y (at q) × (at q ≡ y → ⊥)) (sym e) (u.0.below, u.0.longer)
  | inr k ↦ elim (within_joined p (preorder inner) (preorder rest) k) [
    | inl h ↦ let r = node_under at (at m) inner p u.1 h in
        (front_trans y (at m) (at p) u.0.below r.0, λ z. r.1 (front_antisym (at p) (at m) (subst (λ (x : Label). Front x (at m)) (sym z) u.0.below) r.0))
    | inr h ↦ node_under at y rest p u.3 h
  ]
]

pub node_parent : {A : Type 0} (at : A → Label) (y : Label) (f : Trees A) (p : A) → whole y ≡ y → Formed at y f → Within p (preorder f) → Front y (parent (at p))
node_parent at y none p v u w = absurd w
node_parent {A} at y (node m inner rest) p v u w = elim w [
  | inl e ↦ subst (λ (q : A). Front y (parent (at q))) (sym e) (subst (Front y) (sym (parent_of_child y (at m) v u.0)) (front_refl y))
  | inr k ↦ elim (within_joined p (preorder inner) (preorder rest) k) [
    | inl h ↦ front_trans y (at m) (parent (at p)) u.0.below (node_parent at (at m) inner p u.0.is_whole u.1 h)
    | inr h ↦ node_parent at y rest p v u.3 h
  ]
]

pub node_whole : {A : Type 0} (at : A → Label) (y : Label) (f : Trees A) (p : A) → Formed at y f → Within p (preorder f) → whole (at p) ≡ at p
node_whole at y none p u w = absurd w
node_whole {A} at y (node m inner rest) p u w = elim w [
  | inl e ↦ subst (λ (q : A). whole (at q) ≡ at q) (sym e) u.0.is_whole
  | inr k ↦ elim (within_joined p (preorder inner) (preorder rest) k) [
    | inl h ↦ node_whole at (at m) inner p u.1 h
    | inr h ↦ node_whole at y rest p u.3 h
  ]
]

pub node_apart : {A : Type 0} (at : A → Label) (a y : Label) (f : Trees A) (p : A) → Formed at y f → ApartFrom at a f → Within p (preorder f) → Apart a (at p)
node_apart at a y none p u r w = absurd w
node_apart {A} at a y (node m inner rest) p u r w = elim w [
  | inl e ↦ subst (λ (q : A). Apart a (at q)) (sym e) r.0
  | inr k ↦ elim (within_joined p (preorder inner) (preorder rest) k) [
    | inl h ↦ apart_below a (at m) (at p) r.0 (node_under at (at m) inner p u.1 h).0
    | inr h ↦ node_apart at a y rest p u.3 r.1 h
  ]
]

-- ---- in document order

pub preorder_rises : {A : Type 0} (at : A → Label) (y : Label) (f : Trees A) → Formed at y f → Ordered (λ a b. Lt (at a) (at b)) (preorder f)
preorder_rises at y none u = tt
preorder_rises at y (node m inner rest) u = (
  λ p w. elim (within_joined p (preorder inner) (preorder rest) w) [
    | inl h ↦ let n = node_under at (at m) inner p u.1 h in (front_le (at m) (at p) n.0, λ e. n.1 (sym e))
    | inr h ↦ apart_lt (at m) (at p) (node_apart at (at m) y rest p u.3 u.2 h)
  ],
  ordered_joined (λ a b. Lt (at a) (at b)) (preorder inner) (preorder rest) (preorder_rises at (at m) inner u.1) (preorder_rises at y rest u.3)
      (λ a b p q. apart_lt (at a) (at b) (below_apart (at m) (at a) (at b) (node_apart at (at m) y rest b u.3 u.2 q) (node_under at (at m) inner a u.1 p).0)),
)

pub preorder_ascends : {A : Type 0} (at : A → Label) (y : Label) (f : Trees A) → Formed at y f → Ascends (map at (preorder f))
preorder_ascends at y f u = ordered_map at Lt (preorder f) (preorder_rises at y f u)

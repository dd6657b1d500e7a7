-- The nodes of trees, each with its children.
use Rattle.std.proofs.Common.{inl, inr, ◌≡◌, ◌⊎◌, sym, subst}
use Rattle.mm_label.specs.Fronts.{Label, Front, Apart, Within}
use Rattle.mm_label.specs.Facts.Members.{within_first, within_second}
use Rattle.mm_tree.specs.Numbering.{Labelled}
use Rattle.mm_tree.specs.Trees.{Trees, none, node, preorder}
use Rattle.mm_tree.specs.Formed.{ApartFrom, Formed}
use Rattle.mm_label.specs.Facts.Fronts.{front_trans, front_antisym, apart_below}

-- the node with these children is one of the trees' nodes
abbrev pub Stands : {A : Type 0} → A → Trees A → Trees A → Type 0
Stands d low none = ⊥
Stands d low (node e inner rest) = ((d ≡ e) × (low ≡ inner)) ⊎ (Stands d low inner ⊎ Stands d low rest)

pub stands_among : (f : Trees Labelled) (d : Labelled) (low : Trees Labelled) → Stands d low f → Within d (preorder f)
stands_among none d low h = absurd h
stands_among (node e inner rest) d low h = elim h [
  | inl k ↦ inl k.0
  | inr k ↦ elim k [
    | inl q ↦ inr (within_first d (preorder inner) (preorder rest) (stands_among inner d low q))
    | inr q ↦ inr (within_second d (preorder inner) (preorder rest) (stands_among rest d low q))
  ]
]

pub stands_under : {A : Type 0} (at : A → Label) (y : Label) (f : Trees A) (d : A) (low : Trees A) → Formed at y f → Stands d low f → Front y (at d) × (at d ≡ y → ⊥)
stands_under at y none d low u h = absurd h
stands_under {A} at y (node e inner rest) d low u h = elim h [
  | inl k ↦ subst (λ (n : A). Front y (at n) × (at n ≡ y → ⊥)) (sym k.0) (u.0.below, u.0.longer)
  | inr k ↦ elim k [
    | inl q ↦
        let r = stands_under at (at e) inner d low u.1 q in
        (front_trans y (at e) (at d) u.0.below r.0, λ z. r.1 (front_antisym (at d) (at e) (subst (λ (x : Label). Front x (at e)) (sym z) u.0.below) r.0))
    | inr q ↦ stands_under at y rest d low u.3 q
  ]
]

pub stands_after : {A : Type 0} (at : A → Label) (a y : Label) (f : Trees A) (d : A) (low : Trees A) → Formed at y f → ApartFrom at a f → Stands d low f → Apart a (at d)
stands_after at a y none d low u r h = absurd h
stands_after {A} at a y (node e inner rest) d low u r h = elim h [
  | inl k ↦ subst (λ (n : A). Apart a (at n)) (sym k.0) r.0
  | inr k ↦ elim k [
    | inl q ↦ apart_below a (at e) (at d) r.0 (stands_under at (at e) inner d low u.1 q).0
    | inr q ↦ stands_after at a y rest d low u.3 r.1 q
  ]
]

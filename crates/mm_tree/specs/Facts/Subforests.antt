-- Trees of which some subtrees are left out.
use Rattle.std.proofs.Common.{inl, inr, ◌≡◌, ◌⊎◌, sym, subst}
use Rattle.mm_label.specs.Fronts.{Label, Within}
use Rattle.mm_tree.specs.Trees.{Trees, none, node, preorder, each}
use Rattle.mm_tree.specs.Formed.{ApartFrom, Formed}
use Rattle.mm_label.specs.Facts.Members.{within_joined, within_first, within_second}

-- g are the trees f without some of their subtrees
abbrev pub Thins : {A : Type 0} → Trees A → Trees A → Type 0
Thins g none = g ≡ none
Thins g (node a inner rest) = Thins g rest ⊎ ((low : Trees _) × (later : Trees _) × (g ≡ node a low later) × Thins low inner × Thins later rest)

pub thins_apart : {A : Type 0} (at : A → Label) (x : Label) (g f : Trees A) → Thins g f → ApartFrom at x f → ApartFrom at x g
thins_apart at x g none t a = subst (ApartFrom at x) (sym t) tt
thins_apart at x g (node d inner rest) t a = elim t [
  | inl k ↦ thins_apart at x g rest k a.1
  | inr k ↦ subst (ApartFrom at x) (sym k.2) (a.0, thins_apart at x k.1 rest k.4 a.1)
]

pub thins_formed : {A : Type 0} (at : A → Label) (y : Label) (g f : Trees A) → Thins g f → Formed at y f → Formed at y g
thins_formed at y g none t u = subst (Formed at y) (sym t) tt
thins_formed at y g (node d inner rest) t u = elim t [
  | inl k ↦ thins_formed at y g rest k u.3
  | inr k ↦ subst (Formed at y) (sym k.2) (u.0, thins_formed at (at d) k.0 inner k.3 u.1, thins_apart at (at d) k.1 rest k.4 u.2, thins_formed at y k.1 rest k.4 u.3)
]

pub thins_within : {A : Type 0} (p : A) (g f : Trees A) → Thins g f → Within p (preorder g) → Within p (preorder f)
thins_within p g none t w = subst (λ (z : Trees _). Within p (preorder z)) t w
thins_within p g (node d inner rest) t w = elim t [
  | inl k ↦ inr (within_second p (preorder inner) (preorder rest) (thins_within p g rest k w))
  | inr k ↦ elim (subst (λ (z : Trees _). Within p (preorder z)) k.2 w) [
    | inl e ↦ inl e
    | inr q ↦ inr (elim (within_joined p (preorder k.0) (preorder k.1) q) [
      | inl h ↦ within_first p (preorder inner) (preorder rest) (thins_within p k.0 inner k.3 h)
      | inr h ↦ within_second p (preorder inner) (preorder rest) (thins_within p k.1 rest k.4 h)
    ])
  ]
]

-- ---- something else at each node

pub each_apart : {A B : Type 0} (to : A → B) (at : B → Label) (x : Label) (f : Trees A) → ApartFrom (λ a. at (to a)) x f → ApartFrom at x (each to f)
each_apart to at x none r = tt
each_apart to at x (node a inner rest) r = (r.0, each_apart to at x rest r.1)

pub each_formed : {A B : Type 0} (to : A → B) (at : B → Label) (y : Label) (f : Trees A) → Formed (λ a. at (to a)) y f → Formed at y (each to f)
each_formed to at y none u = tt
each_formed to at y (node a inner rest) u = (u.0, each_formed to at (at (to a)) inner u.1, each_apart to at (at (to a)) rest u.2, each_formed to at y rest u.3)

pub apart_each : {A B : Type 0} (to : A → B) (at : B → Label) (x : Label) (f : Trees A) → ApartFrom at x (each to f) → ApartFrom (λ a. at (to a)) x f
apart_each to at x none r = tt
apart_each to at x (node a inner rest) r = (r.0, apart_each to at x rest r.1)

pub formed_each : {A B : Type 0} (to : A → B) (at : B → Label) (y : Label) (f : Trees A) → Formed at y (each to f) → Formed (λ a. at (to a)) y f
formed_each to at y none u = tt
formed_each to at y (node a inner rest) u = (u.0, formed_each to at (at (to a)) inner u.1, apart_each to at (at (to a)) rest u.2, formed_each to at y rest u.3)

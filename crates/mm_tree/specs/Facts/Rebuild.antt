-- Well-formed trees are rebuilt from their nodes.
use Rattle.std.proofs.Common.{inl, inr, ◌≡◌, Bool, cond, List, [], ◌++◌, refl, ap, ap₂, sym, ◌∙◌, append-nil, append_assoc}
use Rattle.mm_label.specs.Fronts.{Label, Front, Within}
use Rattle.mm_tree.specs.Trees.{Trees, none, node, preorder}
use Rattle.mm_tree.specs.Formed.{ApartFrom, Formed}
use Rattle.mm_tree.specs.Forests.{and_then}
use Rattle.mm_tree.specs.Rebuild.{below, behind, take_in, rebuild}
use Rattle.mm_label.specs.Facts.Fronts.{front_trans, not_front, is_front_of}
use Rattle.mm_label.specs.Facts.Members.{within_second}
use Rattle.mm_tree.specs.Facts.Places.{node_under}

-- the first of these trees, if there is one, doesn't lie below a
abbrev pub Off : {A : Type 0} → (A → Label) → Label → Trees A → Type 0
Off at a none = Unit {0}
Off at a (node e inner rest) = Front a (at e) → ⊥

-- none of these trees has a node below which the first of the others lies
abbrev pub AllOff : {A : Type 0} → (A → Label) → Trees A → Trees A → Type 0
AllOff {A} at f g = (e : A) → Within e (preorder f) → Off at (at e) g

taken : {A : Type 0} (at : A → Label) (x : Label) (f g : Trees A) → Formed at x f → Off at x g → (below at x (and_then f g) ≡ f) × (behind at x (and_then f g) ≡ g)
taken at x none none u o = (refl, refl)
taken at x none (node e inner rest) u o =
    let n = not_front x (at e) o in
    (ap (λ (t : Bool). cond t (node e inner (below at x rest)) none) n, ap (λ (t : Bool). cond t (behind at x rest) (node e inner rest)) n)
taken {A} at x (node e inner rest) g u o =
    let y = is_front_of x (at e) u.0.below in
    let r = taken at x rest g u.3 o in (
      ap (λ (t : Bool). cond t (node e inner (below at x (and_then rest g))) none) y ∙ ap (λ (b : Trees A). node e inner b) r.0,
      ap (λ (t : Bool). cond t (behind at x (and_then rest g)) (node e inner (and_then rest g))) y ∙ r.1,
    )

off_rest : {A : Type 0} (at : A → Label) (a : Label) (rest g : Trees A) → ApartFrom at a rest → Off at a g → Off at a (and_then rest g)
off_rest at a none g r o = o
off_rest at a (node e inner rest) g r o = λ f. r.0.1 f

off_below : {A : Type 0} (at : A → Label) (a b : Label) (g : Trees A) → Front a b → Off at a g → Off at b g
off_below at a b none f o = tt
off_below at a b (node e inner rest) f o = λ h. o (front_trans a b (at e) f h)

joined : {A : Type 0} (at : A → Label) (y : Label) (f g : Trees A) (es : List A) → Formed at y f → AllOff at f g → rebuild at es ≡ g → rebuild at (preorder f ++ es) ≡ and_then f g
joined at y none g es u o e = e
joined {A} at y (node m inner rest) g es u o e =
    let later = joined at y rest g es u.3 (λ p w. o p (inr (within_second p (preorder inner) (preorder rest) w))) e in
    let off = off_rest at (at m) rest g u.2 (o m (inl refl)) in
    let all = joined at (at m) inner (and_then rest g) (preorder rest ++ es) u.1 (λ p w. off_below at (at m) (at p) (and_then rest g) (node_under at (at m) inner p u.1 w).0 off) later in
    let t = taken at (at m) inner (and_then rest g) u.1 off in
    ap (λ (l : List A). take_in at m (rebuild at l)) (append_assoc (preorder inner) (preorder rest) es)
    ∙ (ap (take_in at m) all ∙ ap₂ (λ (c d : Trees A). node m c d) t.0 t.1)

and_then_none : {A : Type 0} (f : Trees A) → and_then f none ≡ f
and_then_none none = refl
and_then_none {A} (node e inner rest) = ap (λ (r : Trees A). node e inner r) (and_then_none rest)

pub rebuilt : {A : Type 0} (at : A → Label) (y : Label) (f : Trees A) → Formed at y f → rebuild at (preorder f) ≡ f
rebuilt at y f u =
    ap (rebuild at) (sym (append-nil (preorder f))) ∙ (joined at y f none [] u (λ p w. tt) refl ∙ and_then_none f)

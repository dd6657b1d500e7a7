-- The labels of a well-formed forest, and of the tree at a label.
use Rattle.std.proofs.Common.{inl, inr, ◌≡◌, Bool, true, false, ◌||◌, cond, List, ◌∷◌, ◌++◌, refl, ap, sym, subst, ◌∙◌, Some, append-nil}
use Rattle.std.proofs.lemmas.Bool.{or_right}
use Rattle.mm_label.specs.Label.{whole}
use Rattle.mm_label.specs.Fronts.{Label, Front, Apart, Within}
use Rattle.mm_tree.specs.Trees.{Trees, Tree, none, node, one, preorder}
use Rattle.mm_tree.specs.Numbering.{Labelled}
use Rattle.mm_tree.specs.Edits as edits
use Rattle.mm_tree.specs.Edits.{found, has_label}
use Rattle.mm_tree.specs.Formed.{Formed, node_label}
use Rattle.mm_label.specs.Facts.Fronts.{front_refl}
use Rattle.mm_label.specs.Facts.Order.{same_label, label_same, label_other}
use Rattle.mm_tree.specs.Facts.Nodes.{Stands}
use Rattle.mm_tree.specs.Facts.Found.{found_stands}
use Rattle.mm_tree.specs.Facts.Places.{node_under, node_apart}
use Rattle.mm_tree.specs.Facts.Runs.{subtree_run}
use Rattle.mm_label.specs.Facts.Members.{within_joined, within_first, within_second}

has_in : (f : Trees Labelled) (e : Labelled) → Within e (preorder f) → edits.has_node e.label f ≡ true
has_in none e w = absurd w
has_in (node d inner rest) e w = elim w [
  | inl k ↦ ap (λ (t : Bool). t || (edits.has_node e.label inner || edits.has_node e.label rest)) (label_same d.label e.label (ap node_label (sym k)))
  | inr k ↦ or_right (has_label e.label d) (edits.has_node e.label inner || edits.has_node e.label rest) (elim (within_joined e (preorder inner) (preorder rest) k) [
    | inl h ↦ ap (λ (t : Bool). t || edits.has_node e.label rest) (has_in inner e h)
    | inr h ↦ or_right (edits.has_node e.label inner) (edits.has_node e.label rest) (has_in rest e h)
  ])
]

in_has : (f : Trees Labelled) (x : Label) → edits.has_node x f ≡ true → (e : Labelled) × Within e (preorder f) × (e.label ≡ x)
in_has none x h = absurd cc
in_has (node d inner rest) x h = by (has_label x d) refl (edits.has_node x inner) refl h (in_has inner x) (in_has rest x)
  where
    by : (a : Bool) → has_label x d ≡ a → (b : Bool) → edits.has_node x inner ≡ b → (a || (b || edits.has_node x rest)) ≡ true
        → (edits.has_node x inner ≡ true → (e : Labelled) × Within e (preorder inner) × (e.label ≡ x)) → (edits.has_node x rest ≡ true → (e : Labelled) × Within e (preorder rest) × (e.label ≡ x))
        → (e : Labelled) × Within e (preorder (node d inner rest)) × (e.label ≡ x)
    by true p b q h i r = (d, inl refl, same_label d.label x p)
    by false p true q h i r = let t = i q in (t.0, inr (within_first t.0 (preorder inner) (preorder rest) t.1), t.2)
    by false p false q h i r = let t = r h in (t.0, inr (within_second t.0 (preorder inner) (preorder rest) t.1), t.2)

-- each node is found by its label
pub node_found : (y : Label) (f : Trees Labelled) (e : Labelled) → Formed node_label y f → Within e (preorder f) → (inner : Trees Labelled) × (found e.label f ≡ Some (e, inner))
node_found y none e u w = absurd w
node_found y (node d inner rest) e u w = elim w [
  | inl k ↦ (
    inner,
    ap (λ (t : Bool). cond t (Some (d, inner)) (cond (edits.has_node e.label inner) (found e.label inner) (found e.label rest))) (label_same d.label e.label (ap node_label (sym k)))
        ∙ ap (λ (n : Labelled). Some (n, inner)) (sym k),
  )
  | inr k ↦ elim (within_joined e (preorder inner) (preorder rest) k) [
    | inl h ↦
        let n = node_under node_label d.label inner e u.1 h in
        let t = node_found d.label inner e u.1 h in
        (t.0, past (λ q. n.1 (sym q)) ∙ (ap (λ (b : Bool). cond b (found e.label inner) (found e.label rest)) (has_in inner e h) ∙ t.1))
    | inr h ↦
        let a = node_apart node_label d.label y rest e u.3 u.2 h in
        let t = node_found y rest e u.3 h in
        (t.0, past (λ q. a.1 (subst (Front d.label) q (front_refl d.label))) ∙ (ap (λ (b : Bool). cond b (found e.label inner) (found e.label rest)) (not_inside a (edits.has_node e.label inner) refl) ∙ t.1))
  ]
]
  where
    past : (d.label ≡ e.label → ⊥) → found e.label (node d inner rest) ≡ cond (edits.has_node e.label inner) (found e.label inner) (found e.label rest)
    past n = ap (λ (t : Bool). cond t (Some (d, inner)) (cond (edits.has_node e.label inner) (found e.label inner) (found e.label rest))) (label_other d.label e.label n)

    not_inside : Apart d.label e.label → (t : Bool) → edits.has_node e.label inner ≡ t → t ≡ false
    not_inside a true q = let k = in_has inner e.label q in absurd (a.1 (subst (Front d.label) k.2 (node_under node_label d.label inner k.0 u.1 k.1).0))
    not_inside a false q = refl

-- ---- what is found

-- a node of well-formed trees with its children is a well-formed tree
stands_formed : (y : Label) (d : Labelled) (low f : Trees Labelled) → whole y ≡ y → Formed node_label y f → Stands d low f → (up : Label) × (whole up ≡ up) × Formed node_label up (one (d, low))
stands_formed y d low none v u h = absurd h
stands_formed y d low (node e inner rest) v u h = elim h [
  | inl k ↦ (y, v, subst (λ (n : Labelled). Formed node_label y (node n low none)) (sym k.0) (subst (λ (i : Trees Labelled). Formed node_label y (node e i none)) (sym k.1) (u.0, u.1, tt, tt)))
  | inr k ↦ elim k [ inl q ↦ stands_formed e.label d low inner u.0.is_whole u.1 q | inr q ↦ stands_formed y d low rest v u.3 q ]
]

-- what is found has the label, and lies in the forest with all its nodes
pub record IsFound (x : Label) (f : Trees Labelled) (t : Tree Labelled) : Type 0 where
  pub is : t.0.label ≡ x
  pub up : Label
  pub whole_up : whole up ≡ up
  pub formed : Formed node_label up (one t)
  pub inside : (e : Labelled) → Within e (preorder (one t)) → Within e (preorder f)

pub found_is : (y x : Label) (f : Trees Labelled) (t : Tree Labelled) → whole y ≡ y → Formed node_label y f → found x f ≡ Some t → IsFound x f t
found_is y x f t v u h =
    let s = found_stands x f t h in
    let p = stands_formed y t.0 t.1 f v u s.0 in
    let r = subtree_run node_label y t.0 t.1 f u s.0 in
    record {
      is = s.1;
      up = p.0;
      whole_up = p.1;
      formed = p.2;
      inside = λ d w. subst (Within d) (sym r.is) (within_second d r.front ((t.0 ∷ preorder t.1) ++ r.back)
          (within_first d (t.0 ∷ preorder t.1) r.back (subst (Within d) (ap (λ (z : List Labelled). t.0 ∷ z) (append-nil (preorder t.1))) w)));
    }

-- The labels of a well-formed forest: each tree's root is one segment below, and siblings lie apart. What is one segment below may be a child.
use Rattle.std.proofs.Common.{◌≡◌, true, ◌&&◌, [], ◌∷◌, ◌++◌, length, drop, refl, ap, sym, subst, ◌∙◌}
use Rattle.std.specs.Prelude.{ℤ, List, Option, Some, None, IsTrue}
use Rattle.std.specs.List.{starts_with}
use Rattle.std.specs.Ordering.{int_eq, int_cmp}
use Rattle.std.specs.Cmp.Lexicographic.{slice_cmp}
use Rattle.std.proofs.lemmas.Slice.Eq.{starts_is}
use Rattle.std.proofs.lemmas.Bool.{and_from, and_parts}
use Rattle.std.proofs.lemmas.Bool.Decides.{Decides-int_eq}
use Rattle.mm_label.specs.Label.{is_segment}
use Rattle.mm_label.specs.Fronts.{Label, Le, Apart, IsChild}
use Rattle.mm_label.specs.Facts.Fronts.{front_refl, front_le}
use Rattle.mm_label.specs.Facts.Order.{before_lt, lt_is}
use Rattle.mm_label.specs.Facts.Children.{child_is, siblings_apart, le_lt}
use Rattle.mm_tree.specs.Trees.{Trees, none, node}
use Rattle.mm_tree.specs.Numbering.{Labelled}
use Rattle.mm_tree.specs.Forests.{segment_below, rises, is_child_label, are_labelled, is_well_formed}
use Rattle.mm_tree.specs.Formed.{ApartFrom, Formed, node_label}

pub front_splits : (parent label : List ℤ) → starts_with int_eq label parent ≡ true → label ≡ parent ++ segment_below parent label
front_splits parent label = (starts_is Decides-int_eq label parent (starts_with int_eq label parent) refl).0

pub front_is : (parent label rest : List ℤ) → label ≡ parent ++ rest → starts_with int_eq label parent ≡ true
front_is parent label rest = (starts_is Decides-int_eq label parent (starts_with int_eq label parent) refl).1 rest

drop_front : (y s : List ℤ) → drop (length y) (y ++ s) ≡ s
drop_front [] s = refl
drop_front (c ∷ y) s = drop_front y s

-- a label made of the parent's and a segment
pub child_ok : (y s label : List ℤ) (left : Option (List ℤ)) → label ≡ y ++ s → is_segment s ≡ true → rises left s ≡ true → (is_child_label y left label ≡ true) × (segment_below y label ≡ s)
child_ok y s label left e w r =
    let t : segment_below y label ≡ s = ap (λ z. drop (length y) z) e ∙ drop_front y s in
    (and_from (starts_with int_eq label y) _ (front_is y label s e) (and_from (is_segment (segment_below y label)) _ (ap (λ z. is_segment z) t ∙ w) (ap (λ z. rises left z) t ∙ r)), t)

-- the parts of labelled siblings
pub record Parts (y : List ℤ) (left : Option (List ℤ)) (e : Labelled) (inner rest : Trees Labelled) : Type 0 where
  pub front : starts_with int_eq e.label y ≡ true
  pub whole : is_segment (segment_below y e.label) ≡ true
  pub above : rises left (segment_below y e.label) ≡ true
  pub below : are_labelled e.label None inner ≡ true
  pub after : are_labelled y (Some (segment_below y e.label)) rest ≡ true

pub parts : (y : List ℤ) (left : Option (List ℤ)) (e : Labelled) (inner rest : Trees Labelled) → are_labelled y left (node e inner rest) ≡ true → Parts y left e inner rest
parts y left e inner rest l =
    let s = segment_below y e.label in
    let p = and_parts (is_child_label y left e.label) (are_labelled e.label None inner && are_labelled y (Some s) rest) l in
    let q = and_parts (are_labelled e.label None inner) (are_labelled y (Some s) rest) p.1 in
    let c = and_parts (starts_with int_eq e.label y) (is_segment s && rises left s) p.0 in
    let d = and_parts (is_segment s) (rises left s) c.1 in
    record { front = c.0; whole = d.0; above = d.1; below = q.0; after = q.1 }

roots_after : (y s t : Label) (rest : Trees Labelled) → is_segment s ≡ true → Le s t → are_labelled y (Some t) rest ≡ true → ApartFrom node_label (y ++ s) rest
roots_after y s t none g l a = tt
roots_after y s t (node e inner rest) g l a =
    let p = parts y (Some t) e inner rest a in
    let joined = front_splits y e.label p.front in
    let u = segment_below y e.label in
    let m = le_lt s t u l (before_lt t u (lt_is (slice_cmp int_cmp t u) p.above)) in
    (subst (Apart (y ++ s)) (sym joined) (siblings_apart y s u g p.whole m), roots_after y s u rest g m.0 p.after)

pub labelled_formed : (y : Label) (left : Option Label) (forest : Trees Labelled) → are_labelled y left forest ≡ true → Formed node_label y forest
labelled_formed y left none a = tt
labelled_formed y left (node e inner rest) a =
    let p = parts y left e inner rest a in
    let joined = front_splits y e.label p.front in
    let s = segment_below y e.label in (
      subst (IsChild y) (sym joined) (child_is y s p.whole),
      labelled_formed e.label None inner p.below,
      subst (λ (x : Label). ApartFrom node_label x rest) (sym joined) (roots_after y s s rest p.whole (front_le s s (front_refl s)) p.after),
      labelled_formed y (Some s) rest p.after,
    )

pub formed : (forest : Trees Labelled) → IsTrue (is_well_formed forest) → Formed node_label [] forest
formed forest w = labelled_formed [] None forest (and_parts (are_labelled [] None forest) _ w).0

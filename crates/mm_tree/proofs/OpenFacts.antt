-- The neighbours of a gap, and their segments.
use Rattle.std.proofs.Common.{◌≡◌, refl, ap, sym, subst, ◌∙◌, Bool, true, false, cond, List, [], ◌∷◌, ◌++◌, ◌⊎◌, inl, inr}
use Rattle.std.specs.Prelude.{ℤ, Option, Some, None, IfSome, IsTrue, if◌then◌else◌, Err}
use Rattle.std.specs.List.{starts_with}
use Rattle.std.specs.Ordering.{int_eq}
use Rattle.std.proofs.lemmas.Bool.{and_from, and_parts}
use Rattle.mm_label.specs.Label.{is_odd, is_empty, is_segment, is_in_range, all_in_range, last_odd, is_child}
use Rattle.mm_label.specs.Refusals.{RefusesSegment}
use Rattle.mm_label.specs.declared.LabelError.{LabelError}
use Rattle.mm_label.specs.declared.LabelError.TheVariants as label_error
use Rattle.mm_tree.specs.Refusals.{of_label}
use Rattle.mm_label.specs.Between.{IsOrdered}
use Rattle.mm_tree.specs.declared.forest.place.Place.{Place}
use Rattle.mm_tree.specs.declared.forest.place.Place.TheVariants.{Before, After, First, Last}
use Rattle.mm_tree.specs.Trees.{Trees, none, node}
use Rattle.mm_tree.specs.Numbering.{Labelled, Labels}
use Rattle.mm_tree.specs.Forests.{segment_below, rises, are_labelled}
use Rattle.mm_tree.specs.Edits.{has_label, Gap, first_label, last_label, gap_at}
use Rattle.mm_tree.specs.Gaps.{IsOpen}
use Rattle.mm_tree.specs.Inside.Ways.{leads_to, gap_down, EndsIn}
use Rattle.mm_tree.specs.Facts.Formed.{front_splits, Parts, parts}
use Rattle.mm_tree.proofs.OrderLaws.{before_is}
use Rattle.mm_tree.proofs.LoadFacts.{alone, out_of_range, no_fit, no_fit_either}
use Rattle.mm_tree.proofs.FormLaws.{segment_of}

-- ---- a label has one last segment

-- nothing, or segments
abbrev pub Ends : List ℤ → Type 0
Ends y = (y ≡ []) ⊎ (last_odd false y ≡ true)

ends_after : (c : ℤ) (y : List ℤ) → Ends (c ∷ y) → Ends y
ends_after c y (inl e) = absurd cc
ends_after c [] (inr o) = inl refl
ends_after c (d ∷ y) (inr o) = inr o

some_ends : (c : ℤ) (y s : List ℤ) → Ends (c ∷ y) → is_segment (c ∷ y ++ s) ≡ true → is_segment s ≡ true → ⊥
some_ends c y s (inl e) w h = absurd cc
some_ends c y s (inr o) w h = alone (c ∷ y) s w h o

pub last_segment_is : (f v y s : List ℤ) → f ++ v ≡ y ++ s → is_segment v ≡ true → is_segment s ≡ true → Ends f → Ends y → v ≡ s
last_segment_is [] v [] s e h k a b = e
last_segment_is [] v (d ∷ y) s e h k a b = absurd (some_ends d y s b (ap (λ z. is_segment z) (sym e) ∙ h) k)
last_segment_is (c ∷ f) v [] s e h k a b = absurd (some_ends c f v a (ap (λ z. is_segment z) e ∙ k) h)
last_segment_is (c ∷ f) v (d ∷ y) s e h k a b = last_segment_is f v y s (cc) h k (ends_after c f a) (ends_after d y b)

ends_odd : (y s : List ℤ) (b : Bool) → is_segment s ≡ true → last_odd b (y ++ s) ≡ true
ends_odd (c ∷ y) s b h = ends_odd y s (is_odd c) h
ends_odd [] [] b h = absurd cc
ends_odd [] (c ∷ s) b h = by_test (is_odd c) s h (λ k. ends_odd [] s false k)
  where
    by_test : (o : Bool) (s : List ℤ) → cond o (is_empty s) (is_segment s) ≡ true → (is_segment s ≡ true → last_odd false s ≡ true) → last_odd o s ≡ true
    by_test true [] h f = refl
    by_test true (d ∷ s) h f = absurd cc
    by_test false s h f = f h

-- the neighbours' last segments are the segments by which they go on from the parent
pub segments_are : (y : List ℤ) (l s : Option (List ℤ)) → Ends y → IfSome l (λ z. IsTrue (is_child y z)) → EndsIn l s → s ≡ segment_of y l
segments_are y None None e h k = refl
segments_are y None (Some s) e h k = absurd k
segments_are y (Some l) None e h k = absurd k
segments_are y (Some l) (Some s) e h k =
    let p = and_parts (starts_with int_eq l y) (is_segment (segment_below y l)) h in
    let last = k.0.1 in
    ap (λ (z : List ℤ). Some z) (last_segment_is k.0.0 s y (segment_below y l) (sym last.parts ∙ front_splits y l p.0) last.one p.1 last.before e)

-- ---- every gap of a well-formed forest is open

below_of : (y : List ℤ) (left : Option (List ℤ)) (e : Labelled) (inner rest : Trees Labelled) → Parts y left e inner rest → is_child y e.label ≡ true
below_of y left e inner rest p = and_from (starts_with int_eq e.label y) _ p.front p.whole

ends_of : (y : List ℤ) (left : Option (List ℤ)) (e : Labelled) (inner rest : Trees Labelled) → Parts y left e inner rest → Ends e.label
ends_of y left e inner rest p = inr (ap (λ (z : List ℤ). last_odd false z) (front_splits y e.label p.front) ∙ ends_odd y (segment_below y e.label) false p.whole)

first_below : (y : List ℤ) (left : Option (List ℤ)) (ts : Trees Labelled) → are_labelled y left ts ≡ true → IfSome (first_label ts) (λ z. IsTrue (is_child y z))
first_below y left none l = tt
first_below y left (node e inner rest) l = below_of y left e inner rest (parts y left e inner rest l)

last_below : (y : List ℤ) (left l : Option (List ℤ)) (ts : Trees Labelled) → are_labelled y left ts ≡ true → IfSome l (λ z. IsTrue (is_child y z)) → IfSome (last_label l ts) (λ z. IsTrue (is_child y z))
last_below y left l none k h = h
last_below y left l (node e inner rest) k h =
    let p = parts y left e inner rest k in
    last_below y (Some (segment_below y e.label)) (Some e.label) rest p.after (below_of y left e inner rest p)

risen : (left : Option (List ℤ)) (s : List ℤ) → rises left s ≡ true → IsOrdered left (Some s)
risen None s h = tt
risen (Some l) s h = before_is l s h

no_right : (left : Option (List ℤ)) → IsOrdered left None
no_right None = tt
no_right (Some l) = tt

then_first : (y s : List ℤ) (ts : Trees Labelled) → are_labelled y (Some s) ts ≡ true → IsOrdered (Some s) (segment_of y (first_label ts))
then_first y s none l = tt
then_first y s (node e inner rest) l = let p = parts y (Some s) e inner rest l in before_is s (segment_below y e.label) p.above

open_at : (p : Place) (y : List ℤ) (l : Option (List ℤ)) (e : Labelled) (inner rest : Trees Labelled) → Ends y → IfSome l (λ z. IsTrue (is_child y z)) → are_labelled y (segment_of y l) (node e inner rest) ≡ true → IsOpen (gap_at p y l e inner rest)
open_at Before y l e inner rest a b k =
    let q = parts y (segment_of y l) e inner rest k in
    record { parent = a; left = b; right = below_of y (segment_of y l) e inner rest q; ordered = risen (segment_of y l) (segment_below y e.label) q.above }
open_at After y l e inner rest a b k =
    let q = parts y (segment_of y l) e inner rest k in
    record { parent = a; left = below_of y (segment_of y l) e inner rest q; right = first_below y (Some (segment_below y e.label)) rest q.after; ordered = then_first y (segment_below y e.label) rest q.after }
open_at First y l e inner rest a b k =
    let q = parts y (segment_of y l) e inner rest k in
    record { parent = ends_of y (segment_of y l) e inner rest q; left = tt; right = first_below e.label None inner q.below; ordered = tt }
open_at Last y l e inner rest a b k =
    let q = parts y (segment_of y l) e inner rest k in
    record { parent = ends_of y (segment_of y l) e inner rest q; left = last_below e.label None None inner q.below tt; right = tt; ordered = no_right (segment_of e.label (last_label None inner)) }

some_gap : (a b : Gap) → Some a ≡ Some b → a ≡ b
some_gap a b e = cc

pub gap_open : (p : Place) (x y : List ℤ) (l : Option (List ℤ)) (ts : Trees Labelled) (g : Gap) → Ends y → IfSome l (λ z. IsTrue (is_child y z)) → are_labelled y (segment_of y l) ts ≡ true
    → gap_down p x y l ts ≡ Some g → IsOpen g
gap_open p x y l none g a b k h = absurd cc
gap_open p x y l (node e inner rest) g a b k h =
    let q = parts y (segment_of y l) e inner rest k in
    by_tests (leads_to x e) (has_label x e) h (λ m. gap_open p x e.label None inner g (ends_of y (segment_of y l) e inner rest q) tt q.below m) (λ m. gap_open p x y (Some e.label) rest g a (below_of y (segment_of y l) e inner rest q) q.after m)
  where
    by_tests : (c d : Bool) → (if c then (if d then Some (gap_at p y l e inner rest) else gap_down p x e.label None inner) else gap_down p x y (Some e.label) rest) ≡ Some g
        → (gap_down p x e.label None inner ≡ Some g → IsOpen g) → (gap_down p x y (Some e.label) rest ≡ Some g → IsOpen g) → IsOpen g
    by_tests true true h i r = subst (λ (z : Gap). IsOpen z) (some_gap (gap_at p y l e inner rest) g h) (open_at p y l e inner rest a b k)
    by_tests true false h i r = i h
    by_tests false d h i r = r h

-- ---- the new label

pub moved : (P : Option (List ℤ) → Option (List ℤ) → Type 0) (a b c d : Option (List ℤ)) → a ≡ c → b ≡ d → P a b → P c d
moved P a b c d e f h = subst (λ (z : Option (List ℤ)). P c z) f (subst (λ (z : Option (List ℤ)). P z b) e h)

out_below : (y s : List ℤ) → all_in_range s ≡ false → all_in_range (y ++ s) ≡ false
out_below [] s h = h
out_below (c ∷ y) s h = no_fit_either (is_in_range c) _ (out_below y s h)

-- a segment out of range
pub refused_below : (e : LabelError) (y s : List ℤ) → RefusesSegment e s → Labels (Err (of_label e)) (y ++ s)
refused_below label_error.NotALabel y s h = absurd h
refused_below (label_error.OutOfRange v) y s h = (refl, no_fit (all_in_range (y ++ s)) _ (out_below y s (out_of_range s v h)))
refused_below (label_error.Full n) y s h = absurd h
refused_below label_error.Memory y s h = tt

-- Edits keep the labels in order.
use Rattle.std.proofs.Common.{◌≡◌, refl, ap, sym, ◌∙◌, subst, Bool, true, false, List, ◌++◌}
use Rattle.std.specs.Prelude.{ℤ, Option, Some, None, option_map, if◌then◌else◌}
use Rattle.std.specs.List.{starts_with}
use Rattle.std.specs.Ordering.{int_eq}
use Rattle.std.proofs.lemmas.Bool.{and_from}
use Rattle.mm_label.specs.Label.{is_segment}
use Rattle.mm_tree.specs.declared.forest.place.Place.{Place}
use Rattle.mm_tree.specs.declared.forest.place.Place.TheVariants.{Before, After, First, Last}
use Rattle.mm_tree.specs.Trees.{Trees, none, node, Tree, one}
use Rattle.mm_tree.specs.Numbering.{Labelled}
use Rattle.mm_tree.specs.Forests.{segment_below, is_before, rises, is_child_label, are_labelled, and_then, last_segment}
use Rattle.mm_tree.specs.Edits.{has_label, Change, taken_out, put_instead, put, Gap, first_label, last_label, gap_at, left_segment, right_segment}
use Rattle.mm_tree.specs.Inside.Ways.{leads_to, edit_down, gap_down}
use Rattle.mm_tree.proofs.LabelledLaws.{whole_of, at_end}
use Rattle.mm_tree.specs.Facts.Formed.{Parts, parts, child_ok}
use Rattle.mm_tree.proofs.OrderLaws.{rises_more}
use Rattle.mm_tree.proofs.WayLaws.{label_is}

abbrev pub segment_of : List ℤ → Option (List ℤ) → Option (List ℤ)
segment_of y label = option_map (λ l. segment_below y l) label

-- below the segment on the right, if there is one
abbrev pub falls : List ℤ → Option (List ℤ) → Bool
falls s None = true
falls s (Some right) = is_before s right

-- a tree whose root may stand in the gap
pub record Suits (g : Gap) (u : Tree Labelled) : Type 0 where
  pub segment : List ℤ
  pub label : u.0.label ≡ g.parent ++ segment
  pub whole : is_segment segment ≡ true
  pub above : rises (left_segment g) segment ≡ true
  pub below : falls segment (right_segment g) ≡ true
  pub inner : are_labelled u.0.label None u.1 ≡ true

-- other siblings on the left
behind : (y s : List ℤ) (left : Option (List ℤ)) (ts : Trees Labelled) → are_labelled y left ts ≡ true → falls s (segment_of y (first_label ts)) ≡ true → are_labelled y (Some s) ts ≡ true
behind y s left none l b = refl
behind y s left (node e inner rest) l b =
    let p = parts y left e inner rest l in
    whole_of y (Some s) e inner rest (record { front = p.front; whole = p.whole; above = b; below = p.below; after = p.after })

without_left : (y s : List ℤ) (left : Option (List ℤ)) (ts : Trees Labelled) → rises left s ≡ true → are_labelled y (Some s) ts ≡ true → are_labelled y left ts ≡ true
without_left y s left none r l = refl
without_left y s left (node e inner rest) r l =
    let p = parts y (Some s) e inner rest l in
    whole_of y left e inner rest (record { front = p.front; whole = p.whole; above = rises_more left s (segment_below y e.label) r p.above; below = p.below; after = p.after })

-- a tree before its siblings
in_front : (y : List ℤ) (left right : Option (List ℤ)) (u : Tree Labelled) (ts : Trees Labelled) → Suits (record { parent = y; left = left; right = right }) u
    → ((s : List ℤ) → falls s (segment_of y right) ≡ true → are_labelled y (Some s) ts ≡ true) → are_labelled y (segment_of y left) (node u.0 u.1 ts) ≡ true
in_front y left right u ts h f =
    let c = child_ok y h.segment u.0.label (segment_of y left) h.label h.whole h.above in
    and_from (is_child_label y (segment_of y left) u.0.label) _ c.0 (and_from (are_labelled u.0.label None u.1) _ h.inner (ap (λ s. are_labelled y (Some s) ts) c.1 ∙ f h.segment h.below))

pub last_is : (y : List ℤ) (l : Option (List ℤ)) (ts : Trees Labelled) → segment_of y (last_label l ts) ≡ last_segment y (segment_of y l) ts
last_is y l none = refl
last_is y l (node e inner rest) = last_is y (Some e.label) rest

put_here : (p : Place) (y : List ℤ) (l : Option (List ℤ)) (e : Labelled) (inner rest : Trees Labelled) (u : Tree Labelled) → are_labelled y (segment_of y l) (node e inner rest) ≡ true
    → Suits (gap_at p y l e inner rest) u → are_labelled y (segment_of y l) (put p u e inner rest) ≡ true
put_here Before y l e inner rest u k h =
    in_front y l (Some e.label) u (node e inner rest) h (λ s b. behind y s (segment_of y l) (node e inner rest) k b)
put_here After y l e inner rest u k h =
    let p = parts y (segment_of y l) e inner rest k in
    whole_of y (segment_of y l) e inner (node u.0 u.1 rest) (record {
      front = p.front;
      whole = p.whole;
      above = p.above;
      below = p.below;
      after = in_front y (Some e.label) (first_label rest) u rest h (λ s b. behind y s (Some (segment_below y e.label)) rest p.after b);
    })
put_here First y l e inner rest u k h =
    let p = parts y (segment_of y l) e inner rest k in
    whole_of y (segment_of y l) e (node u.0 u.1 inner) rest (record {
      front = p.front;
      whole = p.whole;
      above = p.above;
      after = p.after;
      below = in_front e.label None (first_label inner) u inner h (λ s b. behind e.label s None inner p.below b);
    })
put_here Last y l e inner rest u k h =
    let p = parts y (segment_of y l) e inner rest k in
    whole_of y (segment_of y l) e (and_then inner (one u)) rest (record {
      front = p.front;
      whole = p.whole;
      above = p.above;
      after = p.after;
      below = at_end e.label None u h.segment inner p.below h.label h.whole (ap (λ z. rises z h.segment) (sym (last_is e.label None inner)) ∙ h.above) h.inner;
    })

some_gap : (a b : Gap) → Some a ≡ Some b → a ≡ b
some_gap a b e = cc

-- a tree that suits the gap may be put there
pub put_keeps : (p : Place) (u : Tree Labelled) (x y : List ℤ) (l : Option (List ℤ)) (ts : Trees Labelled) (g : Gap) → are_labelled y (segment_of y l) ts ≡ true
    → gap_down p x y l ts ≡ Some g → Suits g u → are_labelled y (segment_of y l) (edit_down (put p u) x ts) ≡ true
put_keeps p u x y l none g k h s = absurd cc
put_keeps p u x y l (node e inner rest) g k h s =
    let q = parts y (segment_of y l) e inner rest k in
    by_tests (leads_to x e) (has_label x e) h q (λ m. put_keeps p u x e.label None inner g q.below m s) (λ m. put_keeps p u x y (Some e.label) rest g q.after m s)
  where
    by_tests : (a b : Bool) → (if a then (if b then Some (gap_at p y l e inner rest) else gap_down p x e.label None inner) else gap_down p x y (Some e.label) rest) ≡ Some g
        → Parts y (segment_of y l) e inner rest
        → (gap_down p x e.label None inner ≡ Some g → are_labelled e.label None (edit_down (put p u) x inner) ≡ true)
        → (gap_down p x y (Some e.label) rest ≡ Some g → are_labelled y (Some (segment_below y e.label)) (edit_down (put p u) x rest) ≡ true)
        → are_labelled y (segment_of y l) (if a then (if b then put p u e inner rest else node e (edit_down (put p u) x inner) rest) else node e inner (edit_down (put p u) x rest)) ≡ true
    by_tests true true h q i r = put_here p y l e inner rest u k (subst (λ (z : Gap). Suits z u) (sym (some_gap (gap_at p y l e inner rest) g h)) s)
    by_tests true false h q i r = whole_of y (segment_of y l) e (edit_down (put p u) x inner) rest (record { front = q.front; whole = q.whole; above = q.above; below = i h; after = q.after })
    by_tests false b h q i r = whole_of y (segment_of y l) e inner (edit_down (put p u) x rest) (record { front = q.front; whole = q.whole; above = q.above; below = q.below; after = r h })

-- a change that keeps the order among siblings keeps it in the forest
change_keeps : (f : Change) (x : List ℤ)
    → ((y : List ℤ) (left : Option (List ℤ)) (e : Labelled) (inner rest : Trees Labelled) → e.label ≡ x → are_labelled y left (node e inner rest) ≡ true → are_labelled y left (f e inner rest) ≡ true)
    → (y : List ℤ) (left : Option (List ℤ)) (ts : Trees Labelled) → are_labelled y left ts ≡ true → are_labelled y left (edit_down f x ts) ≡ true
change_keeps f x k y left none l = refl
change_keeps f x k y left (node e inner rest) l =
    let q = parts y left e inner rest l in
    by_tests (leads_to x e) (has_label x e) (label_is x e) q (change_keeps f x k e.label None inner q.below) (change_keeps f x k y (Some (segment_below y e.label)) rest q.after)
  where
    by_tests : (a b : Bool) → (b ≡ true → e.label ≡ x) → Parts y left e inner rest → are_labelled e.label None (edit_down f x inner) ≡ true → are_labelled y (Some (segment_below y e.label)) (edit_down f x rest) ≡ true
        → are_labelled y left (if a then (if b then f e inner rest else node e (edit_down f x inner) rest) else node e inner (edit_down f x rest)) ≡ true
    by_tests true true h q i r = k y left e inner rest (h refl) l
    by_tests true false h q i r = whole_of y left e (edit_down f x inner) rest (record { front = q.front; whole = q.whole; above = q.above; below = i; after = q.after })
    by_tests false b h q i r = whole_of y left e inner (edit_down f x rest) (record { front = q.front; whole = q.whole; above = q.above; below = q.below; after = r })

pub delete_keeps : (x y : List ℤ) (left : Option (List ℤ)) (ts : Trees Labelled) → are_labelled y left ts ≡ true → are_labelled y left (edit_down taken_out x ts) ≡ true
delete_keeps x = change_keeps taken_out x (λ y left e inner rest h l. let p = parts y left e inner rest l in without_left y (segment_below y e.label) left rest p.above p.after)

pub replace_keeps : (x : List ℤ) (u : Tree Labelled) → u.0.label ≡ x → are_labelled u.0.label None u.1 ≡ true → (y : List ℤ) (left : Option (List ℤ)) (ts : Trees Labelled)
    → are_labelled y left ts ≡ true → are_labelled y left (edit_down (put_instead u) x ts) ≡ true
replace_keeps x u is inner_ok = change_keeps (put_instead u) x (λ y left e inner rest h l.
    let p = parts y left e inner rest l in
    let same_label : e.label ≡ u.0.label = h ∙ sym is in
    and_from (is_child_label y left u.0.label) _
    (ap (λ z. is_child_label y left z) (sym same_label) ∙ and_from (starts_with int_eq e.label y) _ p.front (and_from (is_segment (segment_below y e.label)) _ p.whole p.above))
    (and_from (are_labelled u.0.label None u.1) _ inner_ok (ap (λ z. are_labelled y (Some (segment_below y z)) rest) (sym same_label) ∙ p.after)))

-- The child of a node on the way to a label below it, found by parents.
use Rattle.std.proofs.Common.{inl, inr, ◌≡◌, ℕ, ◌+◌, ◌<◌, ◌≤◌, Bool, true, false, cond, [], ◌∷◌, ◌++◌, length, refl, ap, sym, subst, ◌∙◌, Option, Some, None, Result, Ok, Err, IfOk, arith, length-append}
use Rattle.std.specs.Prelude.{ℤ, MatchBool, MatchOption, not}
use Rattle.std.specs.Ordering.{int_eq}
use Rattle.std.specs.Cmp.Lexicographic.{pointwise}
use Rattle.mm_label.specs.Fronts.{Front, IsChild, Label}
use Rattle.mm_label.specs.Label.{IsLabel, IsParent, is_empty, is_odd, is_segment, last_odd, level, whole}
use Rattle.mm_label.specs.Refusals.{front_of}
use Rattle.mm_label.specs.Facts.Children.{child_is, front_none, parent_child}
use Rattle.mm_label.specs.Facts.Fronts.{front_antisym, front_refl, front_trans}
use Rattle.mm_label.specs.Facts.Levels.{level-cons}
use Rattle.mm_label.specs.Facts.Order.{other_label, same_label}
use Rattle.mm_label.specs.Facts.Parents.{label_some, label_whole}
use Rattle.mm_edit.specs.Inside.Placing.{IsUnder, LeadsTo}

pub ok_so : {A E : Type 0} {P Q : A → Type 0} (r : Result A E) → ((a : A) → P a → Q a) → IfOk r P → IfOk r Q
ok_so (Ok a) f h = f a h
ok_so (Err e) f h = tt

-- ---- labels of level 1

some_level : (b : Bool) (c : ℤ) (x : Label) → last_odd b (c ∷ x) ≡ true → 1 ≤ level (c ∷ x)
some_level b c [] o = let l = level-cons c [] in let k : ◌≡◌ {A = ℕ} (cond (is_odd c) 1 0) 1 = ap (λ (t : Bool). cond t 1 0) o in omega (arith, l, k)
some_level b c (d ∷ x) o = let l = level-cons c (d ∷ x) in let i = some_level (is_odd c) d x o in omega (arith, l, i)

one_segment : (b : Bool) (x : Label) → last_odd b x ≡ true → level x ≡ 1 → is_segment x ≡ true
one_segment b [] o l = absurd (omega (arith, l))
one_segment b (c ∷ x) o l = by (is_odd c) refl x o (sym (level-cons c x) ∙ l) (one_segment (is_odd c) x)
  where
    by : (t : Bool) → is_odd c ≡ t → (x : Label) → last_odd (is_odd c) x ≡ true → cond (is_odd c) 1 0 + level x ≡ 1 → (last_odd (is_odd c) x ≡ true → level x ≡ 1 → is_segment x ≡ true) → cond (is_odd c) (is_empty x) (is_segment x) ≡ true
    by true e [] o l f = ap (λ (t : Bool). cond t true false) e
    by true e (d ∷ x) o l f =
        let k = some_level (is_odd c) d x o in
        let n : ◌≡◌ {A = ℕ} (cond (is_odd c) 1 0) 1 = ap (λ (t : Bool). cond t 1 0) e in
        absurd (omega (arith, k, l, n))
    by false e x o l f =
        let n : ◌≡◌ {A = ℕ} (cond (is_odd c) 1 0) 0 = ap (λ (t : Bool). cond t 1 0) e in
        ap (λ (t : Bool). cond t (is_empty x) (is_segment x)) e ∙ f o (omega (arith, l, n))

pub parent_is : (o : Option Label) (x : Label) → IsLabel x → MatchOption o (level x ≡ 1) (λ p. IsParent p x) → IsChild (front_of o) x
parent_is None x g l = child_is [] x (one_segment false x g.ends_odd l)
parent_is (Some p) x g h = parent_child p x h

pub parent_is_whole : (o : Option Label) (x : Label) → MatchOption o (level x ≡ 1) (λ p. IsParent p x) → whole (front_of o) ≡ front_of o
parent_is_whole None x l = refl
parent_is_whole (Some p) x h = label_whole p h.label

-- ---- up from a label to the child

-- y is above the child, which is the label or above it
pub record IsBetween (y z child : Label) : Type 0 where
  pub under : IsUnder y child
  pub above : Front child z

pub up_between : (y z child up : Label) → whole y ≡ y → IsBetween y z child → IsChild up child → (y ≡ up → ⊥) → IsBetween y z up
up_between y z child up w b c n = record {
  under = (elim (c.one y w b.under.0) [ inl f ↦ f | inr e ↦ absurd (b.under.1 (sym e)) ], λ e. n (sym e));
  above = front_trans up child z c.below b.above;
}

pub end_between : (y z child up : Label) → IsBetween y z child → IsChild up child → y ≡ up → LeadsTo y (Some z) (Some child)
end_between y z child up b c e = (front_under, subst (λ (u : Label). IsChild u child) (sym e) c, b.above)
  where
    front_under : IsUnder y z
    front_under = (front_trans y child z b.under.0 b.above, λ q. b.under.1 (front_antisym child y (subst (Front child) q b.above) b.under.0))

-- no parent is left
pub top_between : (y z child : Label) → whole y ≡ y → IsBetween y z child → IsChild [] child → LeadsTo y (Some z) (Some child)
top_between y z child w b c =
    let e : y ≡ [] = elim (c.one y w b.under.0) [ inl f ↦ front_none y f | inr q ↦ absurd (b.under.1 (sym q)) ] in
    end_between y z child [] b c e

pub child_longer : (up child : Label) → IsParent up child → length up < length child
child_longer up child p = by p.segment p.one p.parts
  where
    by : (s : Label) → is_segment s ≡ true → child ≡ up ++ s → length up < length child
    by [] g e = absurd cc
    by (c ∷ s) g e = let l = ap length e in let k = length-append up (c ∷ s) in omega (arith, l, k)

pub parent_is_shorter : (o : Option Label) (x : Label) → IsLabel x → MatchOption o (level x ≡ 1) (λ p. IsParent p x) → length (front_of o) < length x
parent_is_shorter None [] g l = absurd (label_some [] g refl)
parent_is_shorter None (c ∷ x) g l = omega arith
parent_is_shorter (Some p) x g h = child_longer p x h

-- ---- tests

pub same_match : (t : Bool) (a b : Label) → t ≡ pointwise int_eq a b → MatchBool t (a ≡ b) (a ≡ b → ⊥)
same_match true a b e = same_label a b (sym e)
same_match false a b e = other_label a b (sym e)

pub under_match : (t : Bool) (y z : Label) → t ≡ not (pointwise int_eq y z) → Front y z → MatchBool t (IsUnder y z) (IsUnder y z → ⊥)
under_match t y z e f = by (pointwise int_eq y z) refl t e
  where
    by : (s : Bool) → pointwise int_eq y z ≡ s → (t : Bool) → t ≡ not s → MatchBool t (IsUnder y z) (IsUnder y z → ⊥)
    by true q true e = absurd cc
    by true q false e = λ u. u.1 (sym (same_label y z q))
    by false q true e = (f, λ k. other_label y z q (sym k))
    by false q false e = absurd cc

pub true_match : (t : Bool) (P Q : Type 0) → t ≡ true → MatchBool t P Q → P
true_match true P Q e m = m
true_match false P Q e m = absurd cc

pub false_match : (t : Bool) (P Q : Type 0) → t ≡ false → MatchBool t P Q → Q
false_match true P Q e m = absurd cc
false_match false P Q e m = m

pub first_between : (y z child : Label) → child ≡ z → IsUnder y z → IsBetween y z child
first_between y z child e u = record { under = subst (IsUnder y) (sym e) u; above = subst (λ (k : Label). Front k z) (sym e) (front_refl z) }

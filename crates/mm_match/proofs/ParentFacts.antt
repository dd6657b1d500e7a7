-- What the parent of a label is made of.
use Rattle.std.proofs.Common.{◌≡◌, Bool, true, false, cond, ℕ, ◌<◌, ◌+◌, [], ◌∷◌, ◌++◌, refl, ap, sym, subst, ◌∙◌, Option, Some, None, arith}
use Rattle.std.specs.Prelude.{ℤ, MatchOption}
use Rattle.mm_label.specs.Label.{IsLabel, IsParent, level, whole, onto_whole, is_odd, is_segment, last_odd}
use Rattle.mm_label.specs.Fronts.{Label, but_last, parent, unless_empty}
use Rattle.mm_label.specs.Facts.Fronts.{kept}
use Rattle.mm_label.specs.Facts.Children.{no_segment}
use Rattle.mm_label.specs.Facts.Levels.{level-cons}
use Rattle.mm_label.specs.Facts.Parents.{unless_empty_some, label_some, label_whole}

segment_parent : (s : Label) → is_segment s ≡ true → whole (but_last s) ≡ []
segment_parent [] g = absurd cc
segment_parent (c ∷ []) g = refl
segment_parent (c ∷ d ∷ ds) g = by (is_odd c) refl g (segment_parent (d ∷ ds))
  where
    by : (b : Bool) → is_odd c ≡ b → cond b false (is_segment (d ∷ ds)) ≡ true → (is_segment (d ∷ ds) ≡ true → whole (but_last (d ∷ ds)) ≡ []) → onto_whole c (whole (but_last (d ∷ ds))) ≡ []
    by true e g again = absurd cc
    by false e g again = ap (onto_whole c) (again g) ∙ ap (λ (t : Bool). cond t (c ∷ []) []) e

but_last_more : (c : ℤ) (x : Label) → (x ≡ [] → ⊥) → but_last (c ∷ x) ≡ c ∷ but_last x
but_last_more c [] n = absurd (n refl)
but_last_more c (d ∷ x) n = refl

not_none : (y s : Label) → is_segment s ≡ true → y ++ s ≡ [] → ⊥
not_none [] s g e = no_segment s g e
not_none (c ∷ y) s g e = absurd cc

parent_joined : (y s : Label) → whole y ≡ y → is_segment s ≡ true → parent (y ++ s) ≡ y
parent_joined [] s w g = segment_parent s g
parent_joined (c ∷ y) s w g =
    let k = kept c (whole y) y w in
    ap whole (but_last_more c (y ++ s) (not_none y s g)) ∙ (ap (onto_whole c) (parent_joined y s k.0 g ∙ sym k.0) ∙ w)

some_level : (b : Bool) (x : Label) → (x ≡ [] → ⊥) → last_odd b x ≡ true → 0 < level x
some_level b [] n o = absurd (n refl)
some_level b (c ∷ []) n o = subst (λ (k : ℕ). 0 < k) (sym (level-cons c [])) (by (is_odd c) o)
  where
    by : (t : Bool) → t ≡ true → 0 < cond t 1 0 + 0
    by true e = omega arith
    by false e = absurd cc
some_level b (c ∷ d ∷ ds) n o = let i = some_level (is_odd c) (d ∷ ds) (λ e. absurd cc) o in let e = level-cons c (d ∷ ds) in omega arith

one_level : (b : Bool) (x : Label) → (x ≡ [] → ⊥) → last_odd b x ≡ true → level x ≡ 1 → whole (but_last x) ≡ []
one_level b [] n o l = absurd (n refl)
one_level b (c ∷ []) n o l = refl
one_level b (c ∷ d ∷ ds) n o l = by (is_odd c) refl (sym (level-cons c (d ∷ ds)) ∙ l) (one_level (is_odd c) (d ∷ ds) (λ e. absurd cc) o) (some_level (is_odd c) (d ∷ ds) (λ e. absurd cc) o)
  where
    by : (t : Bool) → is_odd c ≡ t → cond t 1 0 + level (d ∷ ds) ≡ 1 → (level (d ∷ ds) ≡ 1 → whole (but_last (d ∷ ds)) ≡ []) → 0 < level (d ∷ ds) → onto_whole c (whole (but_last (d ∷ ds))) ≡ []
    by true e l again p = absurd (omega arith)
    by false e l again p = ap (onto_whole c) (again (omega (arith, l))) ∙ ap (λ (t : Bool). cond t (c ∷ []) []) e

pub found_is : (found : Option Label) (x : Label) → IsLabel x → MatchOption found (level x ≡ 1) (λ p. IsParent p x) → found ≡ unless_empty (parent x)
found_is None x l h = sym (ap unless_empty (one_level false x (label_some x l) l.ends_odd h))
found_is (Some p) x l h = sym (ap unless_empty (ap parent h.parts ∙ parent_joined p h.segment (label_whole p h.label) h.one) ∙ unless_empty_some p (label_some p h.label))

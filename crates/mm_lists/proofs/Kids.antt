-- The way up from a node to the child of a node above it.
use Rattle.std.proofs.Common.{inl, inr, ◌≡◌, ◌⊎◌, ℕ, ℤ, ◌+◌, ◌<◌, Bool, true, false, cond, [], ◌∷◌, ◌∙◌, ap, sym, subst, Option, Some, None, length, length-append, arith, refl}
use Rattle.std.specs.Prelude.{MatchOption}
use Rattle.mm_label.specs.Label.{whole, is_odd, is_empty, is_segment, level, IsParent}
use Rattle.mm_label.specs.Fronts.{Label, Front, IsChild}
use Rattle.mm_label.specs.Facts.Fronts.{front_refl, front_trans, front_antisym, kept}
use Rattle.mm_label.specs.Facts.Children.{child_is, parent_child}
use Rattle.mm_label.specs.Facts.Levels.{level-cons}
use Rattle.mm_label.specs.Facts.Parents.{label_whole}

-- k is on the way from x down to t, below x
pub record IsBetween (x t k : Label) : Type 0 where
  pub below : Front x k
  pub longer : k ≡ x → ⊥
  pub is_whole : whole k ≡ k
  pub front : Front k t

pub between_first : (x t k : Label) → k ≡ t → whole t ≡ t → Front x t → (t ≡ x → ⊥) → IsBetween x t k
between_first x t k e w f n = subst (IsBetween x t) (sym e) (record { below = f; longer = n; is_whole = w; front = front_refl t })

pub between_up : (x t k up : Label) → whole x ≡ x → IsBetween x t k → IsParent up k → (up ≡ x → ⊥) → IsBetween x t up
between_up x t k up w b p n =
    let c = parent_child up k p in
    record {
      below = elim (c.one x w b.below) [ inl f ↦ f | inr e ↦ absurd (b.longer (sym e)) ];
      longer = n;
      is_whole = label_whole up p.label;
      front = front_trans up k t c.below b.front;
    }

pub between_end : (x k up : Label) → IsParent up k → up ≡ x → IsChild x k
between_end x k up p e = subst (λ (y : Label). IsChild y k) e (parent_child up k p)

odd_case : (c : ℤ) (cs : Label) (n : ℕ) → level (c ∷ cs) ≡ n → ((is_odd c ≡ true) × (level cs + 1 ≡ n)) ⊎ ((is_odd c ≡ false) × (level cs ≡ n))
odd_case c cs n h = by (is_odd c) refl (sym (level-cons c cs) ∙ h)
  where
    by : (o : Bool) → is_odd c ≡ o → cond o 1 0 + level cs ≡ n → ((is_odd c ≡ true) × (level cs + 1 ≡ n)) ⊎ ((is_odd c ≡ false) × (level cs ≡ n))
    by true e h = inl (e, omega arith)
    by false e h = inr (e, omega arith)

none_odd : (k : Label) → whole k ≡ k → level k ≡ 0 → k ≡ []
none_odd [] w h = refl
none_odd (c ∷ cs) w h = elim (odd_case c cs 0 h) [
  | inl o ↦ let z = o.1 in absurd (omega arith)
  | inr o ↦ let q = kept c (whole cs) cs w in let e = q.1 (q.0 ∙ none_odd cs q.0 o.1) in let f = o.0 in absurd cc
]

one_segment : (k : Label) → whole k ≡ k → level k ≡ 1 → is_segment k ≡ true
one_segment [] w h = absurd (omega arith)
one_segment (c ∷ cs) w h =
    let q = kept c (whole cs) cs w in
    elim (odd_case c cs 1 h) [
      | inl o ↦ let e = none_odd cs q.0 (omega (arith, o.1)) in ap (λ (b : Bool). cond b (is_empty cs) (is_segment cs)) o.0 ∙ ap is_empty e
      | inr o ↦ ap (λ (b : Bool). cond b (is_empty cs) (is_segment cs)) o.0 ∙ one_segment cs q.0 o.1
    ]

pub between_top : (x t k : Label) → whole x ≡ x → IsBetween x t k → level k ≡ 1 → IsChild x k
between_top x t k w b h =
    let c : IsChild [] k = child_is [] k (one_segment k b.is_whole h) in
    elim (c.one x w b.below) [
      | inl f ↦ subst (λ (y : Label). IsChild y k) (sym (front_antisym x [] f tt)) c
      | inr e ↦ absurd (b.longer (sym e))
    ]

segment_length : (s : Label) → is_segment s ≡ true → 0 < length s
segment_length [] e = absurd cc
segment_length (c ∷ cs) e = omega arith

pub parent_shorter : (up k : Label) → IsParent up k → length up < length k
parent_shorter up k p = omega (arith, ap length p.parts, length-append up p.segment, segment_length p.segment p.one)

-- ---- as the code takes it

pub parent_is : (o : Option Label) (up k : Label) → MatchOption o (level k ≡ 1) (λ p. IsParent p k) → o ≡ Some up → IsParent up k
parent_is o up k m e = subst (λ (p : Option Label). MatchOption p (level k ≡ 1) (λ q. IsParent q k)) e m

pub top_is : (o : Option Label) (k : Label) → MatchOption o (level k ≡ 1) (λ p. IsParent p k) → o ≡ None → level k ≡ 1
top_is o k m e = subst (λ (p : Option Label). MatchOption p (level k ≡ 1) (λ q. IsParent q k)) e m

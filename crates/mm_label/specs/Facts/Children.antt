-- A label and one segment more is a child, and siblings lie apart.
use Rattle.std.proofs.Common.{inl, inr, ◌≡◌, ◌⊎◌, Bool, true, false, cond, [], ◌∷◌, ◌++◌, refl, ap, sym, subst, ◌∙◌}
use Rattle.std.specs.Prelude.{ℤ}
use Rattle.mm_label.specs.Label.{whole, onto_whole, is_odd, is_empty, is_segment, IsParent}
use Rattle.mm_label.specs.Fronts.{Label, Front, Le, Lt, Apart, IsChild}
use Rattle.mm_label.specs.Facts.Fronts.{kept, le_trans, le_antisym, le_total, front_refl, front_trans, front_antisym, front_cases, front_le, fronts_of_one, between_front}

-- ---- segments

last_or_more : (c : ℤ) (s : Label) → is_segment (c ∷ s) ≡ true → ((is_odd c ≡ true) × (s ≡ [])) ⊎ ((is_odd c ≡ false) × (is_segment s ≡ true))
last_or_more c s g = by (is_odd c) refl s g
  where
    by : (b : Bool) → is_odd c ≡ b → (s : Label) → cond b (is_empty s) (is_segment s) ≡ true → ((is_odd c ≡ true) × (s ≡ [])) ⊎ ((is_odd c ≡ false) × (is_segment s ≡ true))
    by true e [] g = inl (e, refl)
    by true e (d ∷ s) g = absurd cc
    by false e s g = inr (e, g)

pub front_none : (z : Label) → Front z [] → z ≡ []
front_none [] f = refl
front_none (c ∷ z) f = absurd f

no_odd : (b : Bool) → b ≡ true → b ≡ false → ⊥
no_odd b p q = absurd cc

-- a front of a segment, of whole segments itself, is all of it or nothing
segment_front : (s z : Label) → is_segment s ≡ true → whole z ≡ z → Front z s → (z ≡ []) ⊎ (z ≡ s)
segment_front s [] g w f = inl refl
segment_front [] (e ∷ z) g w f = absurd f
segment_front (c ∷ s) (e ∷ z) g w f = elim (last_or_more c s g) [
  | inl h ↦ let t = front_none z (subst (Front z) h.1 f.1) in let p = f.0 in let q = h.1 in inr cc
  | inr h ↦
      let k = kept e (whole z) z w in
      elim (segment_front s z h.1 k.0 f.1) [
        | inl t ↦ absurd (no_odd (is_odd c) (subst (λ (x : ℤ). is_odd x ≡ true) f.0 (k.1 (k.0 ∙ t))) h.0)
        | inr t ↦ let p = f.0 in inr cc
      ]
]

segment_whole : (s : Label) → is_segment s ≡ true → whole s ≡ s
segment_whole [] g = refl
segment_whole (c ∷ s) g = elim (last_or_more c s g) [
  | inl h ↦ subst (λ (x : Label). whole (c ∷ x) ≡ c ∷ x) (sym h.1) (ap (λ (b : Bool). cond b (c ∷ []) []) h.0)
  | inr h ↦ ap (onto_whole c) (segment_whole s h.1) ∙ onto s h.1
]
  where
    onto : (s : Label) → is_segment s ≡ true → onto_whole c s ≡ c ∷ s
    onto [] g = absurd cc
    onto (d ∷ s) g = refl

joined_front : (y s : Label) → Front y (y ++ s)
joined_front [] s = tt
joined_front (c ∷ y) s = (refl, joined_front y s)

joined_whole : (y s : Label) → is_segment s ≡ true → whole (y ++ s) ≡ y ++ s
joined_whole [] s g = segment_whole s g
joined_whole (c ∷ y) [] g = absurd cc
joined_whole (c ∷ []) (d ∷ s) g = ap (onto_whole c) (joined_whole [] (d ∷ s) g)
joined_whole (c ∷ b ∷ y) (d ∷ s) g = ap (onto_whole c) (joined_whole (b ∷ y) (d ∷ s) g)

joined_longer : (y s : Label) → is_segment s ≡ true → y ++ s ≡ y → ⊥
joined_longer [] [] g e = absurd cc
joined_longer [] (d ∷ s) g e = absurd cc
joined_longer (c ∷ y) s g e = joined_longer y s g cc

joined_one : (y s z : Label) → is_segment s ≡ true → whole z ≡ z → Front z (y ++ s) → Front z y ⊎ (z ≡ y ++ s)
joined_one [] s z g w f = elim (segment_front s z g w f) [ inl h ↦ inl (subst (λ (x : Label). Front x []) (sym h) tt) | inr h ↦ inr h ]
joined_one (c ∷ y) s [] g w f = inl tt
joined_one (c ∷ y) s (e ∷ z) g w f =
    let k = kept e (whole z) z w in
    elim (joined_one y s z g k.0 f.1) [ inl h ↦ inl (f.0, h) | inr h ↦ let p = f.0 in inr cc ]

pub child_is : (y s : Label) → is_segment s ≡ true → IsChild y (y ++ s)
child_is y s g = record {
  below = joined_front y s;
  is_whole = joined_whole y s g;
  longer = joined_longer y s g;
  one = λ z w f. joined_one y s z g w f;
}

pub under : (y x z m : Label) → IsChild y x → whole z ≡ z → Front y z → (z ≡ y → ⊥) → Front z m → Front x m → Front x z
under y x z m c w f n p q = elim (fronts_of_one z x m p q) [
  | inl h ↦ elim (c.one z w h) [
    | inl k ↦ absurd (n (front_antisym z y k f))
    | inr k ↦ subst (Front x) (sym k) (front_refl x)
  ]
  | inr h ↦ h
]

-- ---- siblings

le_joined : (y s t : Label) → Le s t → Le (y ++ s) (y ++ t)
le_joined [] s t l = l
le_joined (c ∷ y) s t l = inr (refl, le_joined y s t l)

pub front_joined : (y s t : Label) → Front (y ++ s) (y ++ t) → Front s t
front_joined [] s t f = f
front_joined (c ∷ y) s t f = front_joined y s t f.1

pub no_segment : (s : Label) → is_segment s ≡ true → s ≡ [] → ⊥
no_segment [] g e = absurd cc
no_segment (c ∷ s) g e = absurd cc

pub siblings_apart : (y s t : Label) → is_segment s ≡ true → is_segment t ≡ true → Lt s t → Apart (y ++ s) (y ++ t)
siblings_apart y s t g h l = (le_joined y s t l.0, λ f. elim (segment_front t s h (segment_whole s g) (front_joined y s t f)) [ inl e ↦ no_segment s g e | inr e ↦ l.1 e ])

pub le_lt : (a b c : Label) → Le a b → Lt b c → Lt a c
le_lt a b c l m = (le_trans a b c l m.0, λ e. m.1 (le_antisym b c m.0 (subst (λ (x : Label). Le x b) e l)))

-- ---- the child on the way to a node

-- it is the first on that way
pub child_first : (x t k z : Label) → IsChild x k → Front k t → whole z ≡ z → Front x z → (z ≡ x → ⊥) → Front z t → Front k z
child_first x t k z c f w g n h = elim (fronts_of_one k z t f h) [
  | inl p ↦ p
  | inr p ↦ elim (c.one z w p) [
    | inl q ↦ absurd (n (front_antisym z x q g))
    | inr e ↦ subst (Front k) (sym e) (front_refl k)
  ]
]

-- the children on the way to two that come one after the other are the same, or come one after the other
pub children_rise : (x s t j k : Label) → IsChild x j → Front j s → IsChild x k → Front k t → Apart s t → (j ≡ k) ⊎ Apart j k
children_rise x s t j k a f b g p = elim (front_cases j t) [
  | inl h ↦
      let l = child_first x t k j b g a.is_whole a.below a.longer h in
      inl (front_antisym j k (child_first x s j k a f b.is_whole b.below b.longer (front_trans k j s l f)) l)
  | inr n ↦ inr (
    elim (le_total j k) [
      | inl h ↦ h
      | inr h ↦ absurd (n (front_trans j k t (child_first x s j k a f b.is_whole b.below b.longer
          (between_front k s t (le_trans k j s h (front_le j s f)) p.0 g)) g))
    ],
    λ h. n (front_trans j k t h g),
  )
]

-- children above one node are the same
pub same_child : (x m j k : Label) → IsChild x j → Front j m → IsChild x k → Front k m → j ≡ k
same_child x m j k a f b g =
    front_antisym j k (child_first x m j k a f b.is_whole b.below b.longer g) (child_first x m k j b g a.is_whole a.below a.longer f)

pub parent_child : (up k : Label) → IsParent up k → IsChild up k
parent_child up k p = subst (IsChild up) (sym p.parts) (child_is up p.segment p.one)

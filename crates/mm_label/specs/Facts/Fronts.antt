-- The laws of order and front.
use Rattle.std.proofs.Common.{inl, inr, ◌≡◌, ◌⊎◌, Bool, true, false, cond, [], ◌∷◌, refl, ap, sym, subst, ◌∙◌, arith}
use Rattle.std.specs.Prelude.{ℤ, ◌<ℤ◌}
use Rattle.std.specs.Ordering.{int_eq}
use Rattle.std.proofs.lemmas.Int.{ints, by_lt_z}
use Rattle.std.proofs.lemmas.Bool.{cases_Bool, and_parts, and_from}
use Rattle.std.proofs.lemmas.Bool.Decides.{Decides-int_eq}
use Rattle.mm_label.specs.Fronts.{Label, Front, is_front, same, Le, Apart}
use Rattle.mm_label.specs.Label.{onto_whole, whole, common_front, lca, is_odd}

order : (x y : ℤ) → (x <ℤ y) ⊎ ((x ≡ y) ⊎ (y <ℤ x))
order x y = by_lt_z x y (λ h. inl h) (λ h. by_lt_z y x (λ k. inr (inr k)) (λ k. inr (inl (omega (arith, ints)))))

pub front_refl : (a : Label) → Front a a
front_refl [] = tt
front_refl (x ∷ a) = (refl, front_refl a)

pub front_trans : (a b c : Label) → Front a b → Front b c → Front a c
front_trans [] b c f g = tt
front_trans (x ∷ a) [] c f g = absurd f
front_trans (x ∷ a) (y ∷ b) [] f g = absurd g
front_trans (x ∷ a) (y ∷ b) (z ∷ c) f g = (f.0 ∙ g.0, front_trans a b c f.1 g.1)

pub front_antisym : (a b : Label) → Front a b → Front b a → a ≡ b
front_antisym [] [] f g = refl
front_antisym [] (y ∷ b) f g = absurd g
front_antisym (x ∷ a) [] f g = absurd f
front_antisym (x ∷ a) (y ∷ b) f g = let e = front_antisym a b f.1 g.1 in cc (f.0, e)

pub fronts_of_one : (a b v : Label) → Front a v → Front b v → Front a b ⊎ Front b a
fronts_of_one [] b v f g = inl tt
fronts_of_one (x ∷ a) [] v f g = inr tt
fronts_of_one (x ∷ a) (y ∷ b) [] f g = absurd f
fronts_of_one (x ∷ a) (y ∷ b) (z ∷ v) f g =
    elim (fronts_of_one a b v f.1 g.1) [ inl h ↦ inl (f.0 ∙ sym g.0, h) | inr h ↦ inr (g.0 ∙ sym f.0, h) ]

pub front_le : (a b : Label) → Front a b → Le a b
front_le [] b f = tt
front_le (x ∷ a) [] f = absurd f
front_le (x ∷ a) (y ∷ b) f = inr (f.0, front_le a b f.1)

pub le_trans : (a b c : Label) → Le a b → Le b c → Le a c
le_trans [] b c f g = tt
le_trans (x ∷ a) [] c f g = absurd f
le_trans (x ∷ a) (y ∷ b) [] f g = absurd g
le_trans (x ∷ a) (y ∷ b) (z ∷ c) f g =
    elim f [
      | inl h ↦ elim g [ inl k ↦ inl (omega (arith, ints)) | inr k ↦ inl (omega (arith, ints)) ]
      | inr h ↦ elim g [ inl k ↦ inl (omega (arith, ints)) | inr k ↦ inr (h.0 ∙ k.0, le_trans a b c h.1 k.1) ]
    ]

pub le_antisym : (a b : Label) → Le a b → Le b a → a ≡ b
le_antisym [] [] f g = refl
le_antisym [] (y ∷ b) f g = absurd g
le_antisym (x ∷ a) [] f g = absurd f
le_antisym (x ∷ a) (y ∷ b) f g =
    elim f [
      | inl h ↦ elim g [ inl k ↦ absurd (omega (arith, ints)) | inr k ↦ absurd (omega (arith, ints)) ]
      | inr h ↦ elim g [ inl k ↦ absurd (omega (arith, ints)) | inr k ↦ let e = le_antisym a b h.1 k.1 in cc (h.0, e) ]
    ]

pub le_total : (a b : Label) → Le a b ⊎ Le b a
le_total [] b = inl tt
le_total (x ∷ a) [] = inr tt
le_total (x ∷ a) (y ∷ b) =
    elim (order x y) [
      | inl h ↦ inl (inl h)
      | inr h ↦ elim h [
        | inl e ↦ elim (le_total a b) [ inl k ↦ inl (inr (e, k)) | inr k ↦ inr (inr (sym e, k)) ]
        | inr k ↦ inr (inl k)
      ]
    ]

-- what lies between a label and one below it lies below it
pub between_front : (a b c : Label) → Le a b → Le b c → Front a c → Front a b
between_front [] b c f g h = tt
between_front (x ∷ a) [] c f g h = absurd f
between_front (x ∷ a) (y ∷ b) [] f g h = absurd h
between_front (x ∷ a) (y ∷ b) (z ∷ c) f g h =
    elim f [
      | inl p ↦ elim g [ inl q ↦ absurd (omega (arith, ints)) | inr q ↦ absurd (omega (arith, ints)) ]
      | inr p ↦ elim g [ inl q ↦ absurd (omega (arith, ints)) | inr q ↦ (p.0, between_front a b c p.1 q.1 h.1) ]
    ]

pub apart_trans : (a b c : Label) → Apart a b → Apart b c → Apart a c
apart_trans a b c p q = (le_trans a b c p.0 q.0, λ f. p.1 (between_front a b c p.0 q.0 f))

-- what lies below the second is apart from the first too
pub apart_below : (a r m : Label) → Apart a r → Front r m → Apart a m
apart_below a r m p f =
    let k = front_le r m f in
    (le_trans a r m p.0 k, λ g. p.1 (between_front a r m p.0 k g))

-- what lies below the first is apart from the second too
pub below_apart : (a u r : Label) → Apart a r → Front a u → Apart u r
below_apart a u r p f =
    (elim (le_total u r) [ inl k ↦ k | inr k ↦ absurd (p.1 (between_front a r u p.0 k f)) ], λ g. p.1 (front_trans a u r f g))

cut_left : (t : Bool) (x : ℤ) (c a : Label) → Front c a → Front (cond t (x ∷ c) []) (x ∷ a)
cut_left true x c a f = (refl, f)
cut_left false x c a f = tt

pub common_left : (a b : Label) → Front (common_front a b) a
common_left [] b = tt
common_left (x ∷ a) [] = tt
common_left (x ∷ a) (y ∷ b) = cut_left (int_eq x y) x (common_front a b) a (common_left a b)

cut_right : (t : Bool) (x y : ℤ) (c b : Label) → (t ≡ true → x ≡ y) → Front c b → Front (cond t (x ∷ c) []) (y ∷ b)
cut_right true x y c b e f = (e refl, f)
cut_right false x y c b e f = tt

pub common_right : (a b : Label) → Front (common_front a b) b
common_right [] b = tt
common_right (x ∷ a) [] = tt
common_right (x ∷ a) (y ∷ b) = cut_right (int_eq x y) x y (common_front a b) b (λ t. (Decides-int_eq x y).0 t) (common_right a b)

pub front_common : (z a b : Label) → Front z a → Front z b → Front z (common_front a b)
front_common [] a b f g = tt
front_common (z ∷ zs) [] b f g = absurd f
front_common (z ∷ zs) (x ∷ a) [] f g = absurd g
front_common (z ∷ zs) (x ∷ a) (y ∷ b) f g =
    let e : int_eq x y ≡ true = (Decides-int_eq x y).1 (sym f.0 ∙ g.0) in
    subst (λ (t : Bool). Front (z ∷ zs) (cond t (x ∷ common_front a b) [])) (sym e) (f.0, front_common zs a b f.1 g.1)

-- ---- whole segments

keep_front : (c : ℤ) (w a : Label) → Front w a → Front (onto_whole c w) (c ∷ a)
keep_front c [] a f = by (is_odd c)
  where
    by : (t : Bool) → Front (cond t (c ∷ []) []) (c ∷ a)
    by true = (refl, tt)
    by false = tt
keep_front c (d ∷ w) a f = (refl, f)

pub whole_front : (a : Label) → Front (whole a) a
whole_front [] = tt
whole_front (c ∷ a) = keep_front c (whole a) a (whole_front a)

keep_whole : (c : ℤ) (w : Label) → whole w ≡ w → whole (onto_whole c w) ≡ onto_whole c w
keep_whole c [] e = by (is_odd c) refl
  where
    by : (t : Bool) → is_odd c ≡ t → whole (cond t (c ∷ []) []) ≡ cond t (c ∷ []) []
    by true h = ap (λ (t : Bool). cond t (c ∷ []) []) h
    by false h = refl
keep_whole c (d ∷ w) e = ap (onto_whole c) e

pub whole_whole : (a : Label) → whole (whole a) ≡ whole a
whole_whole [] = refl
whole_whole (c ∷ a) = keep_whole c (whole a) (whole_whole a)

abbrev pub nothing : Label
nothing = []

-- where a whole label begins with c, the rest of it is whole, and c is odd where it ends there
pub kept : (c : ℤ) (w z : Label) → onto_whole c w ≡ c ∷ z → (w ≡ z) × (w ≡ [] → is_odd c ≡ true)
kept c [] z e = by (is_odd c) refl e
  where
    by : (t : Bool) → is_odd c ≡ t → cond t (c ∷ []) [] ≡ c ∷ z → ([] ≡ z) × (nothing ≡ [] → is_odd c ≡ true)
    by true h k = ((cc), λ _. h)
    by false h k = absurd (cc)
kept c (d ∷ w) z e = ((cc), λ k. absurd (cc))

keep_longer : (c : ℤ) (z w : Label) → (z ≡ [] → is_odd c ≡ true) → Front z w → Front (c ∷ z) (onto_whole c w)
keep_longer c [] [] o f = subst (λ (t : Bool). Front (c ∷ []) (cond t (c ∷ []) [])) (sym (o refl)) (refl, tt)
keep_longer c [] (d ∷ w) o f = (refl, tt)
keep_longer c (y ∷ z) [] o f = absurd f
keep_longer c (y ∷ z) (d ∷ w) o f = (refl, f)

-- a whole front is a front of the whole front
pub front_whole : (z a : Label) → whole z ≡ z → Front z a → Front z (whole a)
front_whole [] a e f = tt
front_whole (c ∷ z) [] e f = absurd f
front_whole (c ∷ z) (b ∷ a) e f =
    let k = kept c (whole z) z e in
    subst (λ (b : ℤ). Front (c ∷ z) (onto_whole b (whole a))) f.0 (keep_longer c z (whole a) (λ n. k.1 (k.0 ∙ n)) (front_whole z a k.0 f.1))

-- ---- the lowest common ancestor

pub lca_whole : (a b : Label) → whole (lca a b) ≡ lca a b
lca_whole a b = whole_whole (common_front a b)

pub lca_left : (a b : Label) → Front (lca a b) a
lca_left a b = front_trans (lca a b) (common_front a b) a (whole_front (common_front a b)) (common_left a b)

pub lca_right : (a b : Label) → Front (lca a b) b
lca_right a b = front_trans (lca a b) (common_front a b) b (whole_front (common_front a b)) (common_right a b)

pub front_lca : (z a b : Label) → whole z ≡ z → Front z a → Front z b → Front z (lca a b)
front_lca z a b w f g = front_whole z (common_front a b) w (front_common z a b f g)

-- ---- the test

pub front_yes : (a b : Label) → is_front a b ≡ true → Front a b
front_yes [] b e = tt
front_yes (x ∷ a) [] e = absurd (cc)
front_yes (x ∷ a) (y ∷ b) e = let t = and_parts (int_eq x y) (is_front a b) e in ((Decides-int_eq x y).0 t.0, front_yes a b t.1)

pub is_front_of : (a b : Label) → Front a b → is_front a b ≡ true
is_front_of [] b f = refl
is_front_of (x ∷ a) [] f = absurd f
is_front_of (x ∷ a) (y ∷ b) f = and_from (int_eq x y) (is_front a b) ((Decides-int_eq x y).1 f.0) (is_front_of a b f.1)

pub front_no : (a b : Label) → is_front a b ≡ false → Front a b → ⊥
front_no a b e f = let k = is_front_of a b f in absurd (cc)

pub not_front : (a b : Label) → (Front a b → ⊥) → is_front a b ≡ false
not_front a b n = by (is_front a b) refl
  where
    by : (t : Bool) → is_front a b ≡ t → t ≡ false
    by true e = absurd (n (front_yes a b e))
    by false e = refl

pub front_cases : (a b : Label) → Front a b ⊎ (Front a b → ⊥)
front_cases [] b = inl tt
front_cases (x ∷ a) [] = inr (λ f. f)
front_cases (x ∷ a) (y ∷ b) = elim (cases_Bool (int_eq x y)) [
  | inl t ↦ elim (front_cases a b) [ inl f ↦ inl ((Decides-int_eq x y).0 t, f) | inr n ↦ inr (λ f. n f.1) ]
  | inr t ↦ inr (λ f. clash (int_eq x y) ((Decides-int_eq x y).1 f.0) t)
]
  where
    clash : (b : Bool) → b ≡ true → b ≡ false → ⊥
    clash b p q = absurd (cc)

pub same_is : (a b : Label) → same a b ≡ true → a ≡ b
same_is a b e = let t = and_parts (is_front a b) (is_front b a) e in front_antisym a b (front_yes a b t.0) (front_yes b a t.1)

pub same_of : (a b : Label) → a ≡ b → same a b ≡ true
same_of a b e = subst (λ (x : Label). same a x ≡ true) e (and_from (is_front a a) (is_front a a) (is_front_of a a (front_refl a)) (is_front_of a a (front_refl a)))

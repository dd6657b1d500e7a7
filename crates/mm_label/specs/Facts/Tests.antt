-- The test for a child, and what it tells.
use Rattle.std.proofs.Common.{inl, inr, ◌≡◌, ◌⊎◌, Bool, true, false, cond, [], ◌∷◌, ◌++◌, refl, ap, sym, subst, ◌∙◌, length, drop, append-nil}
use Rattle.std.specs.List.{starts_with}
use Rattle.std.specs.Ordering.{int_eq}
use Rattle.std.proofs.lemmas.Slice.Eq.{starts_is}
use Rattle.std.proofs.lemmas.Bool.{and_parts, and_from}
use Rattle.std.proofs.lemmas.Bool.Decides.{Decides-int_eq}
use Rattle.mm_label.specs.Label.{whole, is_odd, is_empty, is_segment, onto_whole, is_child}
use Rattle.mm_label.specs.Fronts.{Label, Front, IsChild}
use Rattle.mm_label.specs.Facts.Fronts.{front_refl, front_antisym, kept}
use Rattle.mm_label.specs.Facts.Order.{splits}
use Rattle.mm_label.specs.Facts.Children.{front_none, front_joined, child_is}

drop_front : (y s : Label) → drop (length y) (y ++ s) ≡ s
drop_front [] s = refl
drop_front (c ∷ y) s = drop_front y s

pub child_of : (y x : Label) → is_child y x ≡ true → IsChild y x
child_of y x e =
    let p = and_parts (starts_with int_eq x y) (is_segment (drop (length y) x)) e in
    subst (IsChild y) (sym ((starts_is Decides-int_eq x y (starts_with int_eq x y) refl).0 p.0)) (child_is y (drop (length y) x) p.1)

-- a list behind a label by which it goes on to whole segments, and none of whose proper fronts does, is one segment
last_one : (s : Label) → whole s ≡ s → (s ≡ [] → ⊥) → ((z : Label) → whole z ≡ z → Front z s → (z ≡ []) ⊎ (z ≡ s)) → is_segment s ≡ true
last_one [] w n o = absurd (n refl)
last_one (c ∷ s) w n o = by (is_odd c) refl (last_one s)
  where
    closed : is_odd c ≡ true → whole (c ∷ []) ≡ c ∷ []
    closed e = ap (λ (t : Bool). cond t (c ∷ []) []) e

    nothing_more : (s : Label) → (c ∷ [] ≡ c ∷ s) → is_empty s ≡ true
    nothing_more [] e = refl
    nothing_more (d ∷ s) e = absurd cc

    open_on : is_odd c ≡ false → s ≡ [] → ⊥
    open_on e h = let k = kept c (whole s) s w in let q = k.1 (k.0 ∙ h) in absurd cc

    longer : (z : Label) → (z ≡ [] → ⊥) → whole z ≡ z → whole (c ∷ z) ≡ c ∷ z
    longer [] m v = absurd (m refl)
    longer (d ∷ z) m v = ap (onto_whole c) v

    below : is_odd c ≡ false → (z : Label) → whole z ≡ z → Front z s → (z ≡ []) ⊎ (z ≡ s)
    below e [] v f = inl refl
    below e (d ∷ z) v f = elim (o (c ∷ d ∷ z) (longer (d ∷ z) (λ q. absurd cc) v) (refl, f)) [ inl q ↦ absurd cc | inr q ↦ inr cc ]

    by : (t : Bool) → is_odd c ≡ t → (whole s ≡ s → (s ≡ [] → ⊥) → ((z : Label) → whole z ≡ z → Front z s → (z ≡ []) ⊎ (z ≡ s)) → is_segment s ≡ true) → is_segment (c ∷ s) ≡ true
    by true e i = ap (λ (t : Bool). cond t (is_empty s) (is_segment s)) e ∙ elim (o (c ∷ []) (closed e) (refl, tt)) [ inl q ↦ absurd cc | inr q ↦ nothing_more s q ]
    by false e i = ap (λ (t : Bool). cond t (is_empty s) (is_segment s)) e ∙ i (kept c (whole s) s w).0 (open_on e) (below e)

-- what stands behind a front of whole segments is whole
whole_behind : (y s : Label) → whole (y ++ s) ≡ y ++ s → whole s ≡ s
whole_behind [] s w = w
whole_behind (c ∷ y) s w = whole_behind y s (kept c (whole (y ++ s)) (y ++ s) w).0

whole_joined : (y z : Label) → (z ≡ [] → ⊥) → whole z ≡ z → whole (y ++ z) ≡ y ++ z
whole_joined [] z n w = w
whole_joined (c ∷ []) [] n w = absurd (n refl)
whole_joined (c ∷ []) (d ∷ z) n w = ap (onto_whole c) w
whole_joined (c ∷ b ∷ y) z n w = ap (onto_whole c) (whole_joined (b ∷ y) z n w)

front_behind : (y z s : Label) → Front z s → Front (y ++ z) (y ++ s)
front_behind [] z s f = f
front_behind (c ∷ y) z s f = (refl, front_behind y z s f)

of_joined : (y s : Label) → IsChild y (y ++ s) → is_segment s ≡ true
of_joined y s k = last_one s (whole_behind y s k.is_whole) (λ e. k.longer (ap (λ (q : Label). y ++ q) e ∙ append-nil y)) by
  where
    by : (z : Label) → whole z ≡ z → Front z s → (z ≡ []) ⊎ (z ≡ s)
    by [] w f = inl refl
    by (d ∷ z) w f = elim (k.one (y ++ d ∷ z) (whole_joined y (d ∷ z) (λ e. absurd cc) w) (front_behind y (d ∷ z) s f)) [
      | inl q ↦ inl (front_none (d ∷ z) (front_joined y (d ∷ z) [] (subst (Front (y ++ d ∷ z)) (sym (append-nil y)) q)))
      | inr q ↦ inr (front_antisym (d ∷ z) s f (front_joined y s (d ∷ z) (subst (λ (x : Label). Front x (y ++ d ∷ z)) q (front_refl (y ++ d ∷ z)))))
    ]

pub of_child : (y x : Label) → IsChild y x → is_child y x ≡ true
of_child y x k =
    let t = (splits y x).0 k.below in
    let g = of_joined y t.0 (subst (IsChild y) t.1 k) in
    and_from (starts_with int_eq x y) _ ((starts_is Decides-int_eq x y (starts_with int_eq x y) refl).1 t.0 t.1)
    (ap is_segment (ap (drop (length y)) t.1 ∙ drop_front y t.0) ∙ g)

-- Members of lists.
use Rattle.std.proofs.Common.{inl, inr, ◌≡◌, ◌⊎◌, Bool, true, false, ◌||◌, ℕ, zero, suc, ◌<◌, List, [], ◌∷◌, ◌++◌, map, cond, refl, ap, sym, subst, ◌∙◌, length, arith}
use Rattle.std.specs.Prelude.{slice_index_or, flat_map, filter}
use Rattle.std.specs.List.{Contains, list_any}
use Rattle.std.proofs.lemmas.Bool.{or_right}
use Rattle.mm_label.specs.Fronts.{Within}

pub contains_of : {A : Type 0} (x : A) (ms : List A) → Within x ms → Contains ms x
contains_of x [] w = absurd w
contains_of x (m ∷ ms) w = elim w [
  | inl e ↦ (0, omega arith, sym e)
  | inr k ↦ let t = contains_of x ms k in (suc t.0, omega (arith, t.1), t.2)
]

pub within_of : {A : Type 0} (x : A) (ms : List A) → Contains ms x → Within x ms
within_of {A} x ms h = at ms h.0 h.1 h.2
  where
    at : (ms : List A) (k : ℕ) → k < length ms → slice_index_or ms k x ≡ x → Within x ms
    at [] k h e = absurd (omega arith)
    at (m ∷ ms) zero h e = inl (sym e)
    at (m ∷ ms) (suc k) h e = inr (at ms k (omega arith) e)

pub within_joined : {A : Type 0} (x : A) (front back : List A) → Within x (front ++ back) → Within x front ⊎ Within x back
within_joined x [] back h = inr h
within_joined x (a ∷ front) back h = elim h [
  | inl k ↦ inl (inl k)
  | inr k ↦ elim (within_joined x front back k) [ inl q ↦ inl (inr q) | inr q ↦ inr q ]
]

pub within_first : {A : Type 0} (x : A) (front back : List A) → Within x front → Within x (front ++ back)
within_first x [] back w = absurd w
within_first x (m ∷ ms) back w = elim w [ inl e ↦ inl e | inr k ↦ inr (within_first x ms back k) ]

pub within_second : {A : Type 0} (x : A) (front back : List A) → Within x back → Within x (front ++ back)
within_second x [] back w = w
within_second x (m ∷ ms) back w = inr (within_second x ms back w)

-- ---- of a list of what stands at each

pub within_in : {A B : Type 0} (at : A → B) (x : B) (xs : List A) → Within x (map at xs) → (p : A) × Within p xs × (x ≡ at p)
within_in at x [] w = absurd w
within_in at x (m ∷ ms) w = elim w [ inl e ↦ (m, inl refl, e) | inr k ↦ let t = within_in at x ms k in (t.0, inr t.1, t.2) ]

pub in_within : {A B : Type 0} (at : A → B) (p : A) (xs : List A) → Within p xs → Within (at p) (map at xs)
in_within at p [] w = absurd w
in_within at p (m ∷ ms) w = elim w [ inl e ↦ inl (ap at e) | inr k ↦ inr (in_within at p ms k) ]

-- ---- of lists one after the other, and of those that pass a test

pub within_flat : {A B : Type 0} (f : A → List B) (y : B) (xs : List A) → Within y (flat_map f xs) → (x : A) × Within x xs × Within y (f x)
within_flat f y [] w = absurd w
within_flat f y (x ∷ xs) w = elim (within_joined y (f x) (flat_map f xs) w) [
  | inl k ↦ (x, inl refl, k)
  | inr k ↦ let t = within_flat f y xs k in (t.0, inr t.1, t.2)
]

pub flat_within : {A B : Type 0} (f : A → List B) (x : A) (y : B) (xs : List A) → Within x xs → Within y (f x) → Within y (flat_map f xs)
flat_within f x y [] w k = absurd w
flat_within f x y (a ∷ xs) w k = elim w [
  | inl e ↦ within_first y (f a) (flat_map f xs) (subst (λ z. Within y (f z)) e k)
  | inr q ↦ within_second y (f a) (flat_map f xs) (flat_within f x y xs q k)
]

pub within_filter : {A : Type 0} (p : A → Bool) (x : A) (xs : List A) → Within x (filter p xs) → p x ≡ true
within_filter p x [] w = absurd w
within_filter {A} p x (a ∷ xs) w = by (p a) refl w (within_filter p x xs)
  where
    by : (b : Bool) → p a ≡ b → Within x (cond b (a ∷ filter p xs) (filter p xs)) → (Within x (filter p xs) → p x ≡ true) → p x ≡ true
    by true e w f = elim w [ inl q ↦ subst (λ (z : A). p z ≡ true) (sym q) e | inr q ↦ f q ]
    by false e w f = f w

-- ---- tests of members

pub any_found : {A : Type 0} (t : A → Bool) (xs : List A) → list_any t xs ≡ true → (p : A) × Within p xs × (t p ≡ true)
any_found t [] e = absurd cc
any_found {A} t (x ∷ xs) e = by (t x) refl e (any_found t xs)
  where
    by : (b : Bool) → t x ≡ b → (b || list_any t xs) ≡ true → (list_any t xs ≡ true → (p : A) × Within p xs × (t p ≡ true)) → (p : A) × Within p (x ∷ xs) × (t p ≡ true)
    by true h k i = (x, inl refl, h)
    by false h k i = let r = i k in (r.0, inr r.1, r.2)

pub any_at : {A : Type 0} (t : A → Bool) (p : A) (xs : List A) → Within p xs → t p ≡ true → list_any t xs ≡ true
any_at t p [] w h = absurd w
any_at t p (x ∷ xs) w h = elim w [
  | inl e ↦ ap (λ (b : Bool). b || list_any t xs) (ap t (sym e) ∙ h)
  | inr k ↦ or_right (t x) (list_any t xs) (any_at t p xs k h)
]

pub any_none : {A : Type 0} (t : A → Bool) (xs : List A) → ((p : A) → Within p xs → t p ≡ true → ⊥) → list_any t xs ≡ false
any_none t xs h = by (list_any t xs) refl
  where
    by : (b : Bool) → list_any t xs ≡ b → b ≡ false
    by true e = let r = any_found t xs e in absurd (h r.0 r.1 r.2)
    by false e = refl

pub any_same : {A : Type 0} (s t : A → Bool) (xs ys : List A) → ((p : A) → Within p xs → s p ≡ true → Within p ys × (t p ≡ true)) → ((p : A) → Within p ys → t p ≡ true → Within p xs × (s p ≡ true))
    → list_any s xs ≡ list_any t ys
any_same s t xs ys there back = by (list_any s xs) (list_any t ys) refl refl
  where
    by : (a b : Bool) → list_any s xs ≡ a → list_any t ys ≡ b → a ≡ b
    by true true h k = refl
    by false false h k = refl
    by true false h k = let f = any_found s xs h in let r = there f.0 f.1 f.2 in let z = any_at t f.0 ys r.0 r.1 in absurd cc
    by false true h k = let f = any_found t ys k in let r = back f.0 f.1 f.2 in let z = any_at s f.0 xs r.0 r.1 in absurd cc

-- Entries that pass a test.
use Rattle.std.proofs.Common.{inl, inr, ◌≡◌, refl, ap, sym, ◌∙◌, subst, Bool, true, false, ◌+◌, List, [], ◌∷◌, arith}
use Rattle.std.specs.Prelude.{Some, None, if◌then◌else◌, not, ◌&&◌, filter}
use Rattle.std.specs.Str.{bytes_eq}
use Rattle.mm_label.specs.Fronts.{Within}
use Rattle.mm_keeper.specs.Entries.{Entry, Entries, IsBelow, Rises, weight_of}
use Rattle.mm_edit.specs.Difference.{Key}
use Rattle.mm_edit.specs.Inside.Finding.{find}
use Rattle.mm_edit.proofs.Keys.{same, differs}
use Rattle.mm_edit.proofs.Lookups.{Value, find_above, find_at}

abbrev pub Each : {A : Type 0} → (A → Type 0) → List A → Type 0
Each P [] = Unit {0}
Each P (x ∷ xs) = P x × Each P xs

pub each_so : {A : Type 0} (P Q : A → Type 0) (xs : List A) → ((x : A) → P x → Q x) → Each P xs → Each Q xs
each_so P Q [] f a = tt
each_so P Q (x ∷ xs) f a = (f x a.0, each_so P Q xs f a.1)

pub each_within : {A : Type 0} (P : A → Type 0) (xs : List A) → Each P xs → (x : A) → Within x xs → P x
each_within P [] a x w = absurd w
each_within P (y ∷ ys) a x w = elim w [ inl e ↦ subst P (sym e) a.0 | inr k ↦ each_within P ys a.1 x k ]

pub filter_same : {A : Type 0} (p q : A → Bool) (xs : List A) → Each (λ x. p x ≡ q x) xs → filter p xs ≡ filter q xs
filter_same p q [] a = refl
filter_same {A} p q (x ∷ xs) a = ap (λ b. if b then x ∷ filter p xs else filter p xs) a.0 ∙ ap (λ z. if q x then x ∷ z else z) (filter_same p q xs a.1)

pub filter_twice : {A : Type 0} (p q : A → Bool) (xs : List A) → filter p (filter q xs) ≡ filter (λ x. q x && p x) xs
filter_twice p q [] = refl
filter_twice {A} p q (x ∷ xs) = by (q x) (filter_twice p q xs)
  where
    by : (b : Bool) → filter p (filter q xs) ≡ filter (λ x. q x && p x) xs → filter p (if b then x ∷ filter q xs else filter q xs) ≡ (if b && p x then x ∷ filter (λ x. q x && p x) xs else filter (λ x. q x && p x) xs)
    by true h = ap (λ z. if p x then x ∷ z else z) h
    by false h = h

-- what passes was there, and passes
pub filter_passes : {A : Type 0} (p : A → Bool) (xs : List A) (x : A) → Within x (filter p xs) → Within x xs × (p x ≡ true)
filter_passes p [] x w = absurd w
filter_passes {A} p (y ∷ ys) x w = by (p y) refl w (filter_passes p ys x)
  where
    by : (b : Bool) → p y ≡ b → Within x (if b then y ∷ filter p ys else filter p ys) → (Within x (filter p ys) → Within x ys × (p x ≡ true)) → Within x (y ∷ ys) × (p x ≡ true)
    by true e w f = elim w [ inl q ↦ (inl q, subst (λ z. p z ≡ true) (sym q) e) | inr q ↦ let t = f q in (inr t.0, t.1) ]
    by false e w f = let t = f w in (inr t.0, t.1)

pub below-filter : (k : Key) (p : Entry → Bool) (m : Entries) → IsBelow k m → IsBelow k (filter p m)
below-filter k p [] b = tt
below-filter k p (e ∷ m) b = by (p e) (below-filter k p m b.1)
  where
    by : (t : Bool) → IsBelow k (filter p m) → IsBelow k (if t then e ∷ filter p m else filter p m)
    by true h = (b.0, h)
    by false h = h

pub rises-filter : (p : Entry → Bool) (m : Entries) → Rises m → Rises (filter p m)
rises-filter p [] r = tt
rises-filter p (e ∷ m) r = by (p e) (rises-filter p m r.1)
  where
    by : (t : Bool) → Rises (filter p m) → Rises (if t then e ∷ filter p m else filter p m)
    by true h = (below-filter e.0 p m r.0, h)
    by false h = h

-- of what is found, what passes
abbrev pub keep : (Entry → Bool) → Key → Value → Value
keep p k None = None
keep p k (Some v) = if p (k, v) then Some v else None

pub find-filter : (p : Entry → Bool) (m : Entries) (k : Key) → Rises m → find (filter p m) k ≡ keep p k (find m k)
find-filter p [] k r = refl
find-filter p (e ∷ m) k r = by (p e) refl (bytes_eq e.0 k) refl (find-filter p m k r.1)
  where
    at_key : bytes_eq e.0 k ≡ true → p (k, e.1) ≡ p e
    at_key q = ap (λ z. p (z, e.1)) (sym (same e.0 k q))

    by : (t : Bool) → p e ≡ t → (b : Bool) → bytes_eq e.0 k ≡ b → find (filter p m) k ≡ keep p k (find m k)
        → find (if t then e ∷ filter p m else filter p m) k ≡ keep p k (if b then Some e.1 else find m k)
    by true h true q ih = ap (λ b. if b then Some e.1 else find (filter p m) k) q ∙ sym (ap (λ t. if t then Some e.1 else None) (at_key q ∙ h))
    by true h false q ih = ap (λ b. if b then Some e.1 else find (filter p m) k) q ∙ ih
    by false h true q ih = find_above k (filter p m) (subst (λ z. IsBelow z (filter p m)) (same e.0 k q) (below-filter e.0 p m r.0)) ∙ sym (ap (λ t. if t then Some e.1 else None) (at_key q ∙ h))
    by false h false q ih = ih

-- each entry is found where the keys rise
pub each_found : (m : Entries) → Rises m → Each (λ e. find m e.0 ≡ Some e.1) m
each_found [] r = tt
each_found (e ∷ m) r = (find_at e m, behind m r.0 (each_found m r.1))
  where
    behind : (xs : Entries) → IsBelow e.0 xs → Each (λ g. find m g.0 ≡ Some g.1) xs → Each (λ g. find (e ∷ m) g.0 ≡ Some g.1) xs
    behind [] b a = tt
    behind (g ∷ xs) b a = (ap (λ t. if t then Some e.1 else find m g.0) (differs e.0 g.0 b.0) ∙ a.0, behind xs b.1 a.1)

pub weight_parts : (p : Entry → Bool) (m : Entries) → weight_of (filter p m) + weight_of (filter (λ e. not (p e)) m) ≡ weight_of m
weight_parts p [] = refl
weight_parts p (e ∷ m) = by (p e) (weight_parts p m)
  where
    by : (t : Bool) → weight_of (filter p m) + weight_of (filter (λ e. not (p e)) m) ≡ weight_of m
        → weight_of (if t then e ∷ filter p m else filter p m) + weight_of (if not t then e ∷ filter (λ e. not (p e)) m else filter (λ e. not (p e)) m) ≡ weight_of (e ∷ m)
    by true h = omega (arith, h)
    by false h = omega (arith, h)

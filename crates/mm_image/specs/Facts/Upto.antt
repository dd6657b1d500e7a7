-- The order of keys as a recursion, and what stands between two keys with one front.
use Rattle.std.proofs.Common.{inl, inr, ◌≡◌, ◌⊎◌, ℕ, zero, suc, ◌<◌, true, false, List, [], ◌∷◌, ◌++◌, refl, sym, ◌∙◌, Ordering, Less, Equal, Greater, arith}
use Rattle.std.specs.Ordering.{nat_cmp, is_lt, ordering_then}
use Rattle.std.specs.Cmp.Lexicographic.{slice_cmp}
use Rattle.mm_keeper.specs.Entries.{below}

-- a is b, or stands before it
abbrev pub UpTo : List ℕ → List ℕ → Type 0
UpTo [] b = Unit {0}
UpTo (x ∷ a) [] = ⊥
UpTo (x ∷ a) (y ∷ b) = (x < y) ⊎ ((x ≡ y) × UpTo a b)

less_is : (x y : ℕ) → nat_cmp x y ≡ Less → x < y
less_is x y e = grind arith

equal_is : (x y : ℕ) → nat_cmp x y ≡ Equal → x ≡ y
equal_is x y e = grind arith

greater_is : (x y : ℕ) → nat_cmp x y ≡ Greater → y < x
greater_is x y e = grind arith

-- b isn't below a
pub not_below : (a b : List ℕ) → below b a ≡ false → UpTo a b
not_below [] b h = tt
not_below (x ∷ a) [] h = absurd cc
not_below (x ∷ a) (y ∷ b) h = by (nat_cmp y x) refl h (not_below a b)
  where
    by : (o : Ordering) → nat_cmp y x ≡ o → is_lt (ordering_then o (slice_cmp nat_cmp b a)) ≡ false → (below b a ≡ false → UpTo a b) → (x < y) ⊎ ((x ≡ y) × UpTo a b)
    by Less e h f = absurd cc
    by Equal e h f = inr (sym (equal_is y x e), f h)
    by Greater e h f = inl (greater_is y x e)

pub below_not : (a b : List ℕ) → below b a ≡ true → UpTo a b → ⊥
below_not [] [] h u = absurd cc
below_not [] (y ∷ b) h u = absurd cc
below_not (x ∷ a) [] h u = u
below_not (x ∷ a) (y ∷ b) h u = by (nat_cmp y x) refl h u (below_not a b)
  where
    by : (o : Ordering) → nat_cmp y x ≡ o → is_lt (ordering_then o (slice_cmp nat_cmp b a)) ≡ true → (x < y) ⊎ ((x ≡ y) × UpTo a b) → (below b a ≡ true → UpTo a b → ⊥) → ⊥
    by Less e h u f = let p = less_is y x e in elim u [ inl q ↦ omega (arith, p, q) | inr q ↦ let s = q.0 in omega (arith, p, s) ]
    by Equal e h u f = let p = equal_is y x e in elim u [ inl q ↦ omega (arith, p, q) | inr q ↦ f h q.1 ]
    by Greater e h u f = absurd cc

pub below_upto : (a b : List ℕ) → below a b ≡ true → UpTo a b
below_upto [] b h = tt
below_upto (x ∷ a) [] h = absurd cc
below_upto (x ∷ a) (y ∷ b) h = by (nat_cmp x y) refl h (below_upto a b)
  where
    by : (o : Ordering) → nat_cmp x y ≡ o → is_lt (ordering_then o (slice_cmp nat_cmp a b)) ≡ true → (below a b ≡ true → UpTo a b) → (x < y) ⊎ ((x ≡ y) × UpTo a b)
    by Less e h f = inl (less_is x y e)
    by Equal e h f = inr (equal_is x y e, f h)
    by Greater e h f = absurd cc

pub upto_refl : (a : List ℕ) → UpTo a a
upto_refl [] = tt
upto_refl (x ∷ a) = inr (refl, upto_refl a)

pub upto_trans : (a b c : List ℕ) → UpTo a b → UpTo b c → UpTo a c
upto_trans [] b c h k = tt
upto_trans (x ∷ a) [] c h k = absurd h
upto_trans (x ∷ a) (y ∷ b) [] h k = absurd k
upto_trans (x ∷ a) (y ∷ b) (z ∷ c) h k = elim h [
  | inl p ↦ elim k [ inl q ↦ inl (omega (arith, p, q)) | inr q ↦ let s = q.0 in inl (omega (arith, p, s)) ]
  | inr p ↦ elim k [ inl q ↦ let s = p.0 in inl (omega (arith, q, s)) | inr q ↦ inr (p.0 ∙ q.0, upto_trans a b c p.1 q.1) ]
]

pub upto_antisym : (a b : List ℕ) → UpTo a b → UpTo b a → a ≡ b
upto_antisym [] [] h k = refl
upto_antisym [] (y ∷ b) h k = absurd k
upto_antisym (x ∷ a) [] h k = absurd h
upto_antisym (x ∷ a) (y ∷ b) h k = elim h [
  | inl p ↦ absurd (elim k [ inl q ↦ omega (arith, p, q) | inr q ↦ let s = q.0 in omega (arith, p, s) ])
  | inr p ↦ elim k [ inl q ↦ absurd (let s = p.0 in omega (arith, q, s)) | inr q ↦ let s = p.0 in let t = upto_antisym a b p.1 q.1 in cc ]
]

-- ---- keys with one front

pub upto_front : (p a b : List ℕ) → UpTo a b → UpTo (p ++ a) (p ++ b)
upto_front [] a b h = h
upto_front (x ∷ p) a b h = inr (refl, upto_front p a b h)

pub upto_cancel : (p a b : List ℕ) → UpTo (p ++ a) (p ++ b) → UpTo a b
upto_cancel [] a b h = h
upto_cancel (x ∷ p) a b h = elim h [ inl q ↦ absurd (omega (arith, q)) | inr q ↦ upto_cancel p a b q.1 ]

-- what stands between two keys with one front has that front
pub between : (p a b e : List ℕ) → UpTo (p ++ a) e → UpTo e (p ++ b) → (r : List ℕ) × (e ≡ p ++ r)
between [] a b e h k = (e, refl)
between (x ∷ p) a b [] h k = absurd h
between (x ∷ p) a b (y ∷ e) h k = elim h [
  | inl q ↦ absurd (elim k [ inl r ↦ omega (arith, q, r) | inr r ↦ let s = r.0 in omega (arith, q, s) ])
  | inr q ↦ elim k [
    | inl r ↦ absurd (let s = q.0 in omega (arith, r, s))
    | inr r ↦ let t = between p a b e q.1 r.1 in let s = q.0 in let u = t.1 in (t.0, cc)
  ]
]

-- ---- the next key: 00 behind it

pub upto_next : (k x : List ℕ) → UpTo (k ++ 0 ∷ []) x → UpTo k x × (k ≡ x → ⊥)
upto_next [] [] h = absurd h
upto_next [] (y ∷ x) h = (tt, λ e. cc)
upto_next (c ∷ k) [] h = absurd h
upto_next (c ∷ k) (y ∷ x) h = elim h [
  | inl q ↦ (inl q, λ e. let s : c ≡ y = cc in omega (arith, q, s))
  | inr q ↦ let t = upto_next k x q.1 in (inr (q.0, t.0), λ e. t.1 cc)
]

pub next_upto : (k x : List ℕ) → UpTo k x → (k ≡ x → ⊥) → UpTo (k ++ 0 ∷ []) x
next_upto [] [] h n = absurd (n refl)
next_upto [] (y ∷ x) h n = by y
  where
    by : (z : ℕ) → (0 < z) ⊎ ((0 ≡ z) × UpTo [] x)
    by zero = inr (refl, tt)
    by (suc z) = inl (omega arith)
next_upto (c ∷ k) [] h n = absurd h
next_upto (c ∷ k) (y ∷ x) h n = elim h [
  | inl q ↦ inl q
  | inr q ↦ inr (q.0, next_upto k x q.1 (λ e. let s = q.0 in n cc))
]

-- where a isn't at the front of x, what stands behind a doesn't matter
pub upto_behind : (a s x : List ℕ) → UpTo a x → ((r : List ℕ) → x ≡ a ++ r → ⊥) → UpTo (a ++ s) x
upto_behind [] s x h n = absurd (n x refl)
upto_behind (c ∷ a) s [] h n = absurd h
upto_behind (c ∷ a) s (y ∷ x) h n = elim h [
  | inl q ↦ inl q
  | inr q ↦ inr (q.0, upto_behind a s x q.1 (λ r e. let t = q.0 in n r cc))
]

pub upto_more : (a s x : List ℕ) → UpTo (a ++ s) x → UpTo a x
upto_more [] s x h = tt
upto_more (c ∷ a) s [] h = absurd h
upto_more (c ∷ a) s (y ∷ x) h = elim h [ inl q ↦ inl q | inr q ↦ inr (q.0, upto_more a s x q.1) ]

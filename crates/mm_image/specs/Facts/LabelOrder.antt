-- The order of labels by their bytes. The laws of mm_label come as premises.
use Rattle.std.proofs.Common.{inl, inr, ◌≡◌, ℕ, ◌+◌, ◌-◌, ◌/◌, ◌%◌, ◌<◌, nat_lt, Bool, true, false, cond, List, [], ◌∷◌, ◌++◌, refl, ap, sym, subst, ◌∙◌, ℤ, Ordering, Less, Equal, Greater, arith, append-nil}
use Rattle.std.specs.Int.{to_be_bytes, w32}
use Rattle.std.proofs.lemmas.Bool.{ltb-true}
use Rattle.std.specs.Ordering.{nat_cmp, int_cmp, is_lt, ordering_reverse}
use Rattle.std.specs.Cmp.Lexicographic.{slice_cmp}
use Rattle.std.proofs.lemmas.Cmp.{lists_total, int_cmp_total}
use Rattle.std.proofs.lemmas.Grind.{flat_map-append}
use Rattle.mm_label.specs.Bytes.{bytes_of, spell, spelling, rank, one, two, five, split}
use Rattle.mm_label.specs.Label.{IsLabel, IsPrefix, IsAncestorOrSelf}
use Rattle.mm_label.specs.Fronts.{IsAtOrBefore, IsPast}
use Rattle.mm_label.specs.Facts.Order.{exact, splits}
use Rattle.mm_image.specs.Facts.Upto.{UpTo, below_not, below_upto, upto_refl, upto_cancel, upto_behind, upto_more}

abbrev pub ByteOrder : Type 0
ByteOrder = (a b : List ℤ) → IsLabel a → IsLabel b → slice_cmp nat_cmp (bytes_of a) (bytes_of b) ≡ slice_cmp int_cmp a b

abbrev pub Ancestry : Type 0
Ancestry = (a b : List ℤ) → IsLabel a → IsLabel b → (IsPrefix (bytes_of a) (bytes_of b) → IsAncestorOrSelf a b) × (IsAncestorOrSelf a b → IsPrefix (bytes_of a) (bytes_of b))

pub label_upto : ByteOrder → (a b : List ℤ) → IsLabel a → IsLabel b → UpTo (bytes_of a) (bytes_of b) → IsAtOrBefore a b
label_upto order a b g h u = by (slice_cmp int_cmp a b) refl
  where
    by : (o : Ordering) → slice_cmp int_cmp a b ≡ o → IsAtOrBefore a b
    by Less e = inr e
    by Equal e = inl (exact a b e)
    by Greater e =
        let r : slice_cmp int_cmp b a ≡ Less = (lists_total int_cmp_total).antisymm b a ∙ ap ordering_reverse e in
        absurd (below_not (bytes_of a) (bytes_of b) (ap is_lt (order b a h g ∙ r)) u)

pub upto_label : ByteOrder → (a b : List ℤ) → IsLabel a → IsLabel b → IsAtOrBefore a b → UpTo (bytes_of a) (bytes_of b)
upto_label order a b g h l = elim l [
  | inl e ↦ subst (λ (z : List ℤ). UpTo (bytes_of a) (bytes_of z)) e (upto_refl (bytes_of a))
  | inr e ↦ below_upto (bytes_of a) (bytes_of b) (ap is_lt (order a b g h ∙ e))
]

-- a spelling begins with a byte above 00 and below FF
pub record Begins (bytes : List ℕ) : Type 0 where
  pub head : ℕ
  pub tail : List ℕ
  pub is : bytes ≡ head ∷ tail
  pub above : 0 < head
  pub low : head < 255

by_split : (k : ℕ) (f g : ℕ → List ℕ) (n : ℕ) → ((m : ℕ) → m < k → Begins (f m)) → ((m : ℕ) → Begins (g m)) → Begins (split k f g n)
by_split k f g n u v = by (nat_lt n k) refl
  where
    by : (b : Bool) → nat_lt n k ≡ b → Begins (cond b (f n) (g (n - k)))
    by true e = u n (ltb-true n k e)
    by false e = v (n - k)

pub begins : (n : ℕ) → Begins (spelling n)
begins n =
    by_split 4294967296 (five 31) (split 8192 (two 32) (split 128 (one 64) (split 8192 (two 192) (five 224)))) n
    (λ m h. record { head = 31; tail = to_be_bytes w32 m; is = refl; above = omega arith; low = omega arith })
    (λ m. by_split 8192 (two 32) (split 128 (one 64) (split 8192 (two 192) (five 224))) m
    (λ i h. record { head = 32 + i / 256; tail = i % 256 ∷ []; is = refl; above = omega arith; low = omega (arith, h) })
    (λ i. by_split 128 (one 64) (split 8192 (two 192) (five 224)) i
    (λ j h. record { head = 64 + j; tail = []; is = refl; above = omega arith; low = omega (arith, h) })
    (λ j. by_split 8192 (two 192) (five 224) j
    (λ l h. record { head = 192 + l / 256; tail = l % 256 ∷ []; is = refl; above = omega arith; low = omega (arith, h) })
    (λ l. record { head = 224; tail = to_be_bytes w32 l; is = refl; above = omega arith; low = omega arith }))))

-- ---- after all of a subtree

-- what a label's bytes begin with behind a front is below 255
not_under : (rest : List ℤ) → UpTo (255 ∷ []) (bytes_of rest) → ⊥
not_under [] u = u
not_under (c ∷ rest) u =
    let s = begins (rank c) in
    elim (subst (λ (z : List ℕ). UpTo (255 ∷ []) (z ++ bytes_of rest)) s.is u) [ inl q ↦ let l = s.low in omega (arith, q, l) | inr q ↦ let l = s.low in let t = q.0 in omega (arith, t, l) ]

pub upto_past : ByteOrder → (v m : List ℤ) → IsLabel v → IsLabel m → UpTo (bytes_of v ++ 255 ∷ []) (bytes_of m) → IsPast v m
upto_past order v m g h u = (
  elim (label_upto order v m g h (upto_more (bytes_of v) (255 ∷ []) (bytes_of m) u)) [
    | inl e ↦ absurd (under ((splits v m).1 ([], sym e ∙ sym (append-nil v))))
    | inr k ↦ k
  ],
  under,
)
  where
    under : IsAncestorOrSelf v m → ⊥
    under a = let r = (splits v m).0 a in not_under r.0 (upto_cancel (bytes_of v) (255 ∷ []) (bytes_of r.0) (subst (UpTo (bytes_of v ++ 255 ∷ [])) (ap bytes_of r.1 ∙ flat_map-append spell v r.0) u))

pub past_upto : ByteOrder → Ancestry → (v m : List ℤ) → IsLabel v → IsLabel m → IsPast v m → UpTo (bytes_of v ++ 255 ∷ []) (bytes_of m)
past_upto order ancestry v m g h p = upto_behind (bytes_of v) (255 ∷ []) (bytes_of m) (upto_label order v m g h (inr p.0)) (λ r e. p.1 ((ancestry v m g h).0 (r, e)))

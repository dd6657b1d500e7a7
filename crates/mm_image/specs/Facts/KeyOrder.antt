-- The order of keys is the order of what they stand for.
use Rattle.std.proofs.Common.{inl, inr, ◌≡◌, ◌⊎◌, ℕ, ℤ, zero, suc, ◌<◌, ◌≤◌, ◌/◌, ◌%◌, Bool, true, false, nat_lt, not, List, [], ◌∷◌, ◌++◌, refl, ap, sym, subst, ◌∙◌, Ordering, Less, Equal, Greater, arith, append-nil}
use Rattle.std.specs.Prelude.{◌==◌}
use Rattle.std.specs.Cmp.Lexicographic.{slice_cmp}
use Rattle.std.specs.Ordering.{int_cmp, nat_cmp, ordering_reverse, ordering_then}
use Rattle.std.proofs.lemmas.Bool.{and_parts, ltb-true}
use Rattle.std.proofs.lemmas.Cmp.{nat_list_cmp_total, int_cmp_total, lists_total, tied_itself}
use Rattle.std.proofs.lemmas.Grind.{flat_map-append}
use Rattle.std.proofs.lemmas.Map.Lookups.{exact_bytes}
use Rattle.byteorder.specs.Endian.{big_bytes}
use Rattle.mm_label.specs.Bytes.{bytes_of, spell, rank}
use Rattle.mm_label.specs.Label.{IsLabel}
use Rattle.mm_label.specs.Facts.Order.{exact, splits}
use Rattle.mm_words.specs.Words.{has_no_zero}
use Rattle.mm_image.specs.Facts.LabelOrder.{Ancestry, ByteOrder, begins}
use Rattle.mm_image.specs.Keys.{chunk_key}
use Rattle.mm_image.specs.Laws.{ChunkOrder, OccurrenceOrder}
use Rattle.mm_image.specs.Facts.Keys.{no_zero}

-- ---- lists with ends

pub less_is : (x y : ℕ) → x < y → nat_cmp x y ≡ Less
less_is x y h = grind arith

pub tie : (x : ℕ) → nat_cmp x x ≡ Equal
tie x = grind arith

equal_is : (x y : ℕ) → nat_cmp x y ≡ Equal → x ≡ y
equal_is x y e = grind arith

-- a front below another stays so with ends behind, where what goes on from the first goes on above its end
less_on : (x y s t : List ℕ) → slice_cmp nat_cmp x y ≡ Less → ((r : List ℕ) → y ≡ x ++ r → slice_cmp nat_cmp s (r ++ t) ≡ Less) → slice_cmp nat_cmp (x ++ s) (y ++ t) ≡ Less
less_on [] [] s t h f = absurd cc
less_on [] (b ∷ y) s t h f = f (b ∷ y) refl
less_on (a ∷ x) [] s t h f = absurd cc
less_on (a ∷ x) (b ∷ y) s t h f = by (nat_cmp a b) refl h (λ e k. less_on x y s t k (λ r q. f r (let p = e in cc)))
  where
    by : (o : Ordering) → nat_cmp a b ≡ o → ordering_then o (slice_cmp nat_cmp x y) ≡ Less → (a ≡ b → slice_cmp nat_cmp x y ≡ Less → slice_cmp nat_cmp (x ++ s) (y ++ t) ≡ Less) → ordering_then (nat_cmp a b) (slice_cmp nat_cmp (x ++ s) (y ++ t)) ≡ Less
    by Less e h i = ap (λ (o : Ordering). ordering_then o (slice_cmp nat_cmp (x ++ s) (y ++ t))) e
    by Equal e h i = ap (λ (o : Ordering). ordering_then o (slice_cmp nat_cmp (x ++ s) (y ++ t))) e ∙ i (equal_is a b e) h
    by Greater e h i = absurd cc

-- one front
same_on : (x s t : List ℕ) → slice_cmp nat_cmp (x ++ s) (x ++ t) ≡ slice_cmp nat_cmp s t
same_on [] s t = refl
same_on (a ∷ x) s t = ap (λ (o : Ordering). ordering_then o (slice_cmp nat_cmp (x ++ s) (x ++ t))) (tie a) ∙ same_on x s t

reversed : (x y : List ℕ) → slice_cmp nat_cmp y x ≡ Less → slice_cmp nat_cmp x y ≡ Greater
reversed x y h = nat_list_cmp_total.antisymm x y ∙ ap ordering_reverse h

-- ---- numbers in four bytes

step : (x y : ℕ) (o : Ordering) → (x < y) ⊎ ((x ≡ y) × (o ≡ Less)) → ordering_then (nat_cmp x y) o ≡ Less
step x y o h = elim h [
  | inl p ↦ ap (λ (q : Ordering). ordering_then q o) (less_is x y p)
  | inr p ↦ ap (λ (q : Ordering). ordering_then q o) (ap (λ (z : ℕ). nat_cmp x z) (sym p.0) ∙ tie x) ∙ p.1
]

which : (x y : ℕ) → x ≤ y → (x < y) ⊎ (x ≡ y)
which x y h = by (nat_lt x y) refl
  where
    by : (b : Bool) → nat_lt x y ≡ b → (x < y) ⊎ (x ≡ y)
    by true e = inl (ltb-true x y e)
    by false e = inr (grind arith)

-- the digits of the lower number are the lower
digits_less : (m n : ℕ) → m < n → m < 4294967296 → n < 4294967296 → slice_cmp nat_cmp (big_bytes 4 m) (big_bytes 4 n) ≡ Less
digits_less m n h p q =
    step (m / 16777216 % 256) (n / 16777216 % 256) _ (elim (which (m / 16777216 % 256) (n / 16777216 % 256) (omega arith)) [
      | inl a ↦ inl a
      | inr a ↦ inr (
        a,
        step (m / 65536 % 256) (n / 65536 % 256) _ (elim (which (m / 65536 % 256) (n / 65536 % 256) (omega arith)) [
          | inl b ↦ inl b
          | inr b ↦ inr (
            b,
            step (m / 256 % 256) (n / 256 % 256) _ (elim (which (m / 256 % 256) (n / 256 % 256) (omega arith)) [
              | inl c ↦ inl c
              | inr c ↦ inr (c, step (m % 256) (n % 256) _ (inl (omega arith)))
            ]),
          )
        ]),
      )
    ])

pub number_order : (m n : ℕ) → m < 4294967296 → n < 4294967296 → slice_cmp nat_cmp (big_bytes 4 m) (big_bytes 4 n) ≡ nat_cmp m n
number_order m n p q = by (nat_cmp m n) refl
  where
    by : (o : Ordering) → nat_cmp m n ≡ o → slice_cmp nat_cmp (big_bytes 4 m) (big_bytes 4 n) ≡ o
    by Less e = digits_less m n (grind arith) p q
    by Equal e = ap (λ (z : ℕ). slice_cmp nat_cmp (big_bytes 4 m) (big_bytes 4 z)) (sym (equal_is m n e)) ∙ tied_itself nat_list_cmp_total (big_bytes 4 m)
    by Greater e = reversed (big_bytes 4 m) (big_bytes 4 n) (digits_less n m (grind arith) q p)

spelled_above : (c : ℤ) (rest : List ℤ) (s t : List ℕ) → slice_cmp nat_cmp (0 ∷ s) (bytes_of (c ∷ rest) ++ t) ≡ Less
spelled_above c rest s t =
    let b = begins (rank c) in
    ap (λ (z : List ℕ). slice_cmp nat_cmp (0 ∷ s) ((z ++ bytes_of rest) ++ t)) b.is
    ∙ step 0 b.head _ (inl b.above)

cancel : (x r s : List ℕ) → x ++ r ≡ x ++ s → r ≡ s
cancel [] r s e = e
cancel (a ∷ x) r s e = cancel x r s cc

-- ---- chunks

pub chunk_less : ByteOrder → Ancestry → (a b : List ℤ) (s t : List ℕ) → IsLabel a → IsLabel b → slice_cmp int_cmp a b ≡ Less → slice_cmp nat_cmp (bytes_of a ++ (0 ∷ s)) (bytes_of b ++ (0 ∷ t)) ≡ Less
chunk_less order ancestry a b s t g h l = less_on (bytes_of a) (bytes_of b) (0 ∷ s) (0 ∷ t) (order a b g h ∙ l) (λ r e.
    let i = (splits a b).0 ((ancestry a b g h).0 (r, e)) in
    let q : bytes_of a ++ r ≡ bytes_of a ++ bytes_of i.0 = sym e ∙ (ap bytes_of i.1 ∙ flat_map-append spell a i.0) in
    goes_on i.0 i.1 r (cancel (bytes_of a) r (bytes_of i.0) q))
  where
    goes_on : (rest : List ℤ) → b ≡ a ++ rest → (r : List ℕ) → r ≡ bytes_of rest → slice_cmp nat_cmp (0 ∷ s) (r ++ (0 ∷ t)) ≡ Less
    goes_on [] e r q = let k : b ≡ a = e ∙ append-nil a in let m : slice_cmp int_cmp a a ≡ Less = subst (λ (z : List ℤ). slice_cmp int_cmp a z ≡ Less) k l in let n = tied_itself (lists_total int_cmp_total) a in absurd cc
    goes_on (c ∷ rest) e r q = ap (λ (z : List ℕ). slice_cmp nat_cmp (0 ∷ s) (z ++ (0 ∷ t))) q ∙ spelled_above c rest s (0 ∷ t)

pub chunk_order : ByteOrder → Ancestry → ChunkOrder
chunk_order order ancestry a b m n g h p q = by (slice_cmp int_cmp a b) refl
  where
    by : (o : Ordering) → slice_cmp int_cmp a b ≡ o → slice_cmp nat_cmp (chunk_key a m) (chunk_key b n) ≡ ordering_then o (nat_cmp m n)
    by Less e = chunk_less order ancestry a b (big_bytes 4 m) (big_bytes 4 n) g h e
    by Equal e = ap (λ (z : List ℤ). slice_cmp nat_cmp (bytes_of a ++ (0 ∷ big_bytes 4 m)) (bytes_of z ++ (0 ∷ big_bytes 4 n))) (sym (exact a b e)) ∙ (same_on (bytes_of a) (0 ∷ big_bytes 4 m) (0 ∷ big_bytes 4 n) ∙ number_order m n p q)
    by Greater e = reversed (bytes_of a ++ (0 ∷ big_bytes 4 m)) (bytes_of b ++ (0 ∷ big_bytes 4 n)) (chunk_less order ancestry b a (big_bytes 4 n) (big_bytes 4 m) h g ((lists_total int_cmp_total).antisymm b a ∙ ap ordering_reverse e))

-- ---- occurrences

-- what goes on from a word goes on with a byte above 00
pub word_less : (v w s t : List ℕ) → has_no_zero w ≡ true → slice_cmp nat_cmp v w ≡ Less → slice_cmp nat_cmp (v ++ (0 ∷ s)) (w ++ (0 ∷ t)) ≡ Less
word_less v w s t z l = less_on v w (0 ∷ s) (0 ∷ t) l (λ r e. goes_on r e)
  where
    head_of : (x r : List ℕ) (c : ℕ) → has_no_zero (x ++ (c ∷ r)) ≡ true → not (c == 0) ≡ true
    head_of [] r c h = (and_parts (not (c == 0)) (has_no_zero r) h).0
    head_of (b ∷ x) r c h = head_of x r c (and_parts (not (b == 0)) (has_no_zero (x ++ (c ∷ r))) h).1

    above : (c : ℕ) → not (c == 0) ≡ true → 0 < c
    above zero h = absurd cc
    above (suc c) h = omega arith

    goes_on : (r : List ℕ) → w ≡ v ++ r → slice_cmp nat_cmp (0 ∷ s) (r ++ (0 ∷ t)) ≡ Less
    goes_on [] e = let k : w ≡ v = e ∙ append-nil v in let m : slice_cmp nat_cmp v v ≡ Less = subst (λ (x : List ℕ). slice_cmp nat_cmp v x ≡ Less) k l in let n = tied_itself nat_list_cmp_total v in absurd cc
    goes_on (c ∷ r) e = step 0 c _ (inl (above c (head_of v r c (subst (λ (x : List ℕ). has_no_zero x ≡ true) e z))))

pub occurrence_order : ByteOrder → OccurrenceOrder
occurrence_order order v w a b f i g h = by (slice_cmp nat_cmp v w) refl
  where
    by : (o : Ordering) → slice_cmp nat_cmp v w ≡ o → slice_cmp nat_cmp (v ++ (0 ∷ bytes_of a)) (w ++ (0 ∷ bytes_of b)) ≡ ordering_then o (slice_cmp int_cmp a b)
    by Less e = word_less v w (bytes_of a) (bytes_of b) (no_zero w i) e
    by Equal e = ap (λ (z : List ℕ). slice_cmp nat_cmp (v ++ (0 ∷ bytes_of a)) (z ++ (0 ∷ bytes_of b))) (sym (exact_bytes v w e)) ∙ (same_on v (0 ∷ bytes_of a) (0 ∷ bytes_of b) ∙ order a b g h)
    by Greater e = reversed (v ++ (0 ∷ bytes_of a)) (w ++ (0 ∷ bytes_of b)) (word_less w v (bytes_of b) (bytes_of a) (no_zero v f) (nat_list_cmp_total.antisymm w v ∙ ap ordering_reverse e))

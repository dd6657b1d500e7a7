-- The order of the spellings is the order of the numbers.
use Rattle.std.proofs.Common.{◌⊎◌, inl, inr, ◌≡◌, ℕ, ◌+◌, ◌-◌, ◌*◌, ◌/◌, ◌%◌, ◌<◌, ◌≤◌, true, false, cond, List, [], ◌∷◌, ◌++◌, nat_cmp, int_cmp, Ordering, Less, Equal, Greater, refl, sym, ap, ◌∙◌, arith, ltb, ℤ, pos, negsuc}
use Rattle.std.specs.Cmp.{ranked, nat_cmp_is}
use Rattle.std.specs.Cmp.Lexicographic.{slice_cmp}
use Rattle.std.specs.Ordering.{ordering_then, MatchOrdering}
use Rattle.std.specs.Int.{to_be_bytes, w32}
use Rattle.std.proofs.lemmas.Bool.{ltb-true, ltb-false}
use Rattle.std.proofs.lemmas.Bool.Decides.{nat_tests}
use Rattle.std.proofs.lemmas.Nat.{row_fits}
use Rattle.mm_label.specs.Bytes.{rank, one, two, five, split, spelling, spell}

pub then_assoc : (a b c : Ordering) → ordering_then (ordering_then a b) c ≡ ordering_then a (ordering_then b c)
then_assoc Less b c = refl
then_assoc Equal b c = refl
then_assoc Greater b c = refl

by_add : (k a b : ℕ) (r : Ordering) → MatchOrdering r (a < b) (a ≡ b) (b < a) → MatchOrdering r (k + a < k + b) (k + a ≡ k + b) (k + b < k + a)
by_add k a b Less h = omega arith
by_add k a b Equal h = omega arith
by_add k a b Greater h = omega arith

pub cmp_add : (k a b : ℕ) → nat_cmp (k + a) (k + b) ≡ nat_cmp a b
cmp_add k a b = sym (nat_cmp_is (k + a) (k + b) (nat_cmp a b) (by_add k a b (nat_cmp a b) (ranked a b (nat_cmp a b) refl)))

less_row : (a c w b d : ℕ) → b < w → a < c → a * w + b < c * w + d
less_row a c w b d h lt = omega (arith, row_fits a w c w lt (omega arith))

by_radix : (w a b c d : ℕ) (r s : Ordering) → b < w → d < w → MatchOrdering r (a < c) (a ≡ c) (c < a) → MatchOrdering s (b < d) (b ≡ d) (d < b)
    → MatchOrdering (ordering_then r s) (a * w + b < c * w + d) (a * w + b ≡ c * w + d) (c * w + d < a * w + b)
by_radix w a b c d Less s h k p q = less_row a c w b d h p
by_radix w a b c d Equal Less h k p q = rw p (omega arith)
by_radix w a b c d Equal Equal h k p q = rw (p, q) refl
by_radix w a b c d Equal Greater h k p q = rw p (omega arith)
by_radix w a b c d Greater s h k p q = less_row c a w d b k p

pub radix : (w a b c d : ℕ) → b < w → d < w → nat_cmp (a * w + b) (c * w + d) ≡ ordering_then (nat_cmp a c) (nat_cmp b d)
radix w a b c d h k = sym (nat_cmp_is (a * w + b) (c * w + d) (ordering_then (nat_cmp a c) (nat_cmp b d)) (by_radix w a b c d (nat_cmp a c) (nat_cmp b d) h k (ranked a c (nat_cmp a c) refl) (ranked b d (nat_cmp b d) refl)))

-- f spells the numbers below k in their order, and tells where each ends
pub record IsRising (k : ℕ) (f : ℕ → List ℕ) : Type 0 where
  pub order : (n m : ℕ) → n < k → m < k → (xs ys : List ℕ) → slice_cmp nat_cmp (f n ++ xs) (f m ++ ys) ≡ ordering_then (nat_cmp n m) (slice_cmp nat_cmp xs ys)

pub one_rises : (first k : ℕ) → IsRising k (one first)
one_rises first k = record { order = λ n m p q xs ys. ap (λ o. ordering_then o (slice_cmp nat_cmp xs ys)) (cmp_add first n m) }

cut_in : (n : ℕ) → n ≡ n / 256 * 256 + n % 256
cut_in n = omega arith

two_order : (first n m : ℕ) (o : Ordering) → ordering_then (nat_cmp (first + n / 256) (first + m / 256)) (ordering_then (nat_cmp (n % 256) (m % 256)) o) ≡ ordering_then (nat_cmp n m) o
two_order first n m o =
    ap (λ r. ordering_then r (ordering_then (nat_cmp (n % 256) (m % 256)) o)) (cmp_add first (n / 256) (m / 256))
    ∙ sym (then_assoc (nat_cmp (n / 256) (m / 256)) (nat_cmp (n % 256) (m % 256)) o)
    ∙ ap (λ r. ordering_then r o) (sym (radix 256 (n / 256) (n % 256) (m / 256) (m % 256) (omega arith) (omega arith)))
    ∙ ap (λ k. ordering_then (nat_cmp k (m / 256 * 256 + m % 256)) o) (sym (cut_in n))
    ∙ ap (λ k. ordering_then (nat_cmp n k) o) (sym (cut_in m))

pub two_rises : (first k : ℕ) → IsRising k (two first)
two_rises first k = record { order = λ n m p q xs ys. two_order first n m (slice_cmp nat_cmp xs ys) }

-- ---- four bytes

cut_3 : (n : ℕ) → n < 4294967296 → n / 65536 ≡ n / 16777216 % 256 * 256 + n / 65536 % 256
cut_3 n h = omega arith

cut_2 : (n : ℕ) → n / 256 ≡ n / 65536 * 256 + n / 256 % 256
cut_2 n = omega arith

below : (n : ℕ) → n % 256 < 256
below n = omega arith

-- one more byte at the end
radix_by : (n m a b : ℕ) (c d : ℕ) (r : Ordering) → n ≡ a * 256 + b % 256 → m ≡ c * 256 + d % 256 → nat_cmp a c ≡ r → nat_cmp n m ≡ ordering_then r (nat_cmp (b % 256) (d % 256))
radix_by n m a b c d r e f g =
    ap (λ k. nat_cmp k m) e ∙ ap (λ k. nat_cmp (a * 256 + b % 256) k) f ∙ radix 256 a (b % 256) c (d % 256) (below b) (below d) ∙ ap (λ o. ordering_then o (nat_cmp (b % 256) (d % 256))) g

four_cmp : (n m : ℕ) → n < 4294967296 → m < 4294967296
    → nat_cmp n m ≡ ordering_then (ordering_then (ordering_then (nat_cmp (n / 16777216 % 256) (m / 16777216 % 256)) (nat_cmp (n / 65536 % 256) (m / 65536 % 256))) (nat_cmp (n / 256 % 256) (m / 256 % 256))) (nat_cmp (n % 256) (m % 256))
four_cmp n m h k =
    radix_by n m (n / 256) n (m / 256) m _ (cut_in n) (cut_in m)
    (radix_by (n / 256) (m / 256) (n / 65536) (n / 256) (m / 65536) (m / 256) _ (cut_2 n) (cut_2 m)
    (radix_by (n / 65536) (m / 65536) (n / 16777216 % 256) (n / 65536) (m / 16777216 % 256) (m / 65536) _ (cut_3 n h) (cut_3 m k) refl))

four_then : (a b c d o : Ordering) → ordering_then (ordering_then (ordering_then (ordering_then a b) c) d) o ≡ ordering_then a (ordering_then b (ordering_then c (ordering_then d o)))
four_then a b c d o = then_assoc (ordering_then (ordering_then a b) c) d o ∙ then_assoc (ordering_then a b) c (ordering_then d o) ∙ then_assoc a b (ordering_then c (ordering_then d o))

cmp_same : (n : ℕ) → nat_cmp n n ≡ Equal
cmp_same n = sym (nat_cmp_is n n Equal refl)

pub five_rises : (first : ℕ) → IsRising 4294967296 (five first)
five_rises first = record {
  order = λ n m p q xs ys.
      ap (λ o. ordering_then o (slice_cmp nat_cmp (to_be_bytes w32 n ++ xs) (to_be_bytes w32 m ++ ys))) (cmp_same first)
      ∙ sym (four_then (nat_cmp (n / 16777216 % 256) (m / 16777216 % 256)) (nat_cmp (n / 65536 % 256) (m / 65536 % 256)) (nat_cmp (n / 256 % 256) (m / 256 % 256)) (nat_cmp (n % 256) (m % 256)) (slice_cmp nat_cmp xs ys)) ∙ ap (λ o. ordering_then o (slice_cmp nat_cmp xs ys)) (sym (four_cmp n m p q));
}

-- ---- the rows together

-- what f spells of a number below k begins with a byte of this range
pub record Begins (low high k : ℕ) (f : ℕ → List ℕ) (n : ℕ) : Type 0 where
  pub head : ℕ
  pub tail : List ℕ
  pub is : f n ≡ head ∷ tail
  pub from : low ≤ head
  pub below : head < high

abbrev pub BeginsIn : ℕ → ℕ → ℕ → (ℕ → List ℕ) → Type 0
BeginsIn low high k f = (n : ℕ) → n < k → Begins low high k f n

first_less : (a b : ℕ) (s t xs ys : List ℕ) → a < b → slice_cmp nat_cmp ((a ∷ s) ++ xs) ((b ∷ t) ++ ys) ≡ Less
first_less a b s t xs ys h = ap (λ o. ordering_then o (slice_cmp nat_cmp (s ++ xs) (t ++ ys))) (sym (nat_cmp_is a b Less h))

first_greater : (a b : ℕ) (s t xs ys : List ℕ) → b < a → slice_cmp nat_cmp ((a ∷ s) ++ xs) ((b ∷ t) ++ ys) ≡ Greater
first_greater a b s t xs ys h = ap (λ o. ordering_then o (slice_cmp nat_cmp (s ++ xs) (t ++ ys))) (sym (nat_cmp_is a b Greater h))

pub split_low : (k : ℕ) (f g : ℕ → List ℕ) (n : ℕ) → n < k → split k f g n ≡ f n
split_low k f g n h = ap (λ b. cond b (f n) (g (n - k))) (lt_true n k h)
  where
    lt_true : (n k : ℕ) → n < k → ltb n k ≡ true
    lt_true n k h = grind (arith, nat_tests)

pub split_high : (k : ℕ) (f g : ℕ → List ℕ) (n : ℕ) → k ≤ n → split k f g n ≡ g (n - k)
split_high k f g n h = ap (λ b. cond b (f n) (g (n - k))) (lt_false n k h)
  where
    lt_false : (n k : ℕ) → k ≤ n → ltb n k ≡ false
    lt_false n k h = grind (arith, nat_tests)

cmp_sub : (n m k : ℕ) → k ≤ n → k ≤ m → nat_cmp (n - k) (m - k) ≡ nat_cmp n m
cmp_sub n m k p q = sym (cmp_add k (n - k) (m - k)) ∙ ap (λ a. nat_cmp a (k + (m - k))) (omega arith) ∙ ap (λ a. nat_cmp n a) (omega arith)

pub split_rises : (k j low mid high : ℕ) (f g : ℕ → List ℕ) → IsRising k f → IsRising j g → BeginsIn low mid k f → BeginsIn mid high j g → IsRising (k + j) (split k f g)
split_rises k j low mid high f g rf rg bf bg = record { order = λ n m p q xs ys. by_tests n m xs ys p q (side n k) (side m k) }
  where
    side : (n k : ℕ) → (n < k) ⊎ (k ≤ n)
    side n k = elim (ltb n k) as (λ b. ltb n k ≡ b → (n < k) ⊎ (k ≤ n)) [ true ↦ λ e. inl (ltb-true n k e) | false ↦ λ e. inr (ltb-false n k e) ] refl

    by_tests : (n m : ℕ) (xs ys : List ℕ) → n < k + j → m < k + j → (n < k) ⊎ (k ≤ n) → (m < k) ⊎ (k ≤ m)
        → slice_cmp nat_cmp (split k f g n ++ xs) (split k f g m ++ ys) ≡ ordering_then (nat_cmp n m) (slice_cmp nat_cmp xs ys)
    by_tests n m xs ys p q (inl a) (inl b) = rw (split_low k f g n a, split_low k f g m b) (rf.order n m a b xs ys)
    by_tests n m xs ys p q (inl a) (inr b) =
        let s = bf n a in let t = bg (m - k) (omega arith) in
        rw (split_low k f g n a, split_high k f g m b, s.is, t.is, sym (nat_cmp_is n m Less (omega arith)))
        (first_less s.head t.head s.tail t.tail xs ys (omega (arith, s.below, t.from)))
    by_tests n m xs ys p q (inr a) (inl b) =
        let s = bg (n - k) (omega arith) in let t = bf m b in
        rw (split_high k f g n a, split_low k f g m b, s.is, t.is, sym (nat_cmp_is n m Greater (omega arith)))
        (first_greater s.head t.head s.tail t.tail xs ys (omega (arith, s.from, t.below)))
    by_tests n m xs ys p q (inr a) (inr b) =
        rw (split_high k f g n a, split_high k f g m b) (rg.order (n - k) (m - k) (omega arith) (omega arith) xs ys ∙ ap (λ o. ordering_then o (slice_cmp nat_cmp xs ys)) (cmp_sub n m k a b))

-- ---- where the rows begin

five_begins : (first : ℕ) → BeginsIn first (first + 1) 4294967296 (five first)
five_begins first = λ n h. record { head = first; tail = to_be_bytes w32 n; is = refl; from = omega arith; below = omega arith }

two_begins : (first : ℕ) → BeginsIn first (first + 32) 8192 (two first)
two_begins first = λ n h. record { head = first + n / 256; tail = n % 256 ∷ []; is = refl; from = omega arith; below = omega arith }

one_begins : (first k : ℕ) → BeginsIn first (first + k) k (one first)
one_begins first k = λ n h. record { head = first + n; tail = []; is = refl; from = omega arith; below = omega arith }

split_begins : (k j low mid high : ℕ) (f g : ℕ → List ℕ) → BeginsIn low mid k f → BeginsIn mid high j g → low ≤ mid → mid ≤ high → BeginsIn low high (k + j) (split k f g)
split_begins k j low mid high f g bf bg p q = λ n h. by_test n h (side n k)
  where
    side : (n k : ℕ) → (n < k) ⊎ (k ≤ n)
    side n k = elim (ltb n k) as (λ b. ltb n k ≡ b → (n < k) ⊎ (k ≤ n)) [ true ↦ λ e. inl (ltb-true n k e) | false ↦ λ e. inr (ltb-false n k e) ] refl

    by_test : (n : ℕ) → n < k + j → (n < k) ⊎ (k ≤ n) → Begins low high (k + j) (split k f g) n
    by_test n h (inl a) = let s = bf n a in record { head = s.head; tail = s.tail; is = split_low k f g n a ∙ s.is; from = s.from; below = omega (arith, s.below) }
    by_test n h (inr a) = let s = bg (n - k) (omega arith) in record { head = s.head; tail = s.tail; is = split_high k f g n a ∙ s.is; from = omega (arith, s.from); below = s.below }

abbrev last_two : ℕ → List ℕ
last_two = split 8192 (two 192) (five 224)

abbrev last_three : ℕ → List ℕ
last_three = split 128 (one 64) last_two

abbrev last_four : ℕ → List ℕ
last_four = split 8192 (two 32) last_three

begins_two : BeginsIn 192 225 (8192 + 4294967296) last_two
begins_two = split_begins 8192 4294967296 192 224 225 (two 192) (five 224) (two_begins 192) (five_begins 224) (omega arith) (omega arith)

begins_three : BeginsIn 64 225 (128 + (8192 + 4294967296)) last_three
begins_three = split_begins 128 (8192 + 4294967296) 64 192 225 (one 64) last_two (one_begins 64 128) begins_two (omega arith) (omega arith)

begins_four : BeginsIn 32 225 (8192 + (128 + (8192 + 4294967296))) last_four
begins_four = split_begins 8192 (128 + (8192 + 4294967296)) 32 64 225 (two 32) last_three (two_begins 32) begins_three (omega arith) (omega arith)

pub spelling_begins : BeginsIn 31 225 (4294967296 + (8192 + (128 + (8192 + 4294967296)))) spelling
spelling_begins = split_begins 4294967296 (8192 + (128 + (8192 + 4294967296))) 31 32 225 (five 31) last_four (five_begins 31) begins_four (omega arith) (omega arith)

pub spelling_rises : IsRising 8589951104 spelling
spelling_rises =
    split_rises 4294967296 (8192 + (128 + (8192 + 4294967296))) 31 32 225 (five 31) last_four (five_rises 31)
    (split_rises 8192 (128 + (8192 + 4294967296)) 32 64 225 (two 32) last_three (two_rises 32 8192)
    (split_rises 128 (8192 + 4294967296) 64 192 225 (one 64) last_two (one_rises 64 128)
    (split_rises 8192 4294967296 192 224 225 (two 192) (five 224) (two_rises 192 8192) (five_rises 224) (two_begins 192) (five_begins 224))
    (one_begins 64 128) begins_two)
    (two_begins 32) begins_three)
    (five_begins 31) begins_four

-- ---- components

abbrev pub IsInRange : ℤ → Type 0
IsInRange (pos n) = n < 4294975552
IsInRange (negsuc n) = n < 4294975552

pub rank_below : (c : ℤ) → IsInRange c → rank c < 8589951104
rank_below (pos n) h = omega arith
rank_below (negsuc n) h = omega arith

pub rank_cmp : (c d : ℤ) → IsInRange c → IsInRange d → nat_cmp (rank c) (rank d) ≡ int_cmp c d
rank_cmp (pos a) (pos b) h k = grind (arith, nat_tests)
rank_cmp (pos a) (negsuc b) h k = sym (nat_cmp_is (a + 4294975552) (4294975551 - b) Greater (omega arith))
rank_cmp (negsuc a) (pos b) h k = sym (nat_cmp_is (4294975551 - a) (b + 4294975552) Less (omega arith))
rank_cmp (negsuc a) (negsuc b) h k = grind (arith, nat_tests)

pub spell_order : (c d : ℤ) → IsInRange c → IsInRange d → (xs ys : List ℕ) → slice_cmp nat_cmp (spell c ++ xs) (spell d ++ ys) ≡ ordering_then (int_cmp c d) (slice_cmp nat_cmp xs ys)
spell_order c d h k xs ys = spelling_rises.order (rank c) (rank d) (rank_below c h) (rank_below d k) xs ys ∙ ap (λ o. ordering_then o (slice_cmp nat_cmp xs ys)) (rank_cmp c d h k)

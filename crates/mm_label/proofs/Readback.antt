-- A component that is read is the one that was spelled, and what was spelled is read again.
use Rattle.std.proofs.Common.{◌⊎◌, inl, inr, ◌≡◌, ℕ, zero, suc, ◌+◌, ◌-◌, ◌*◌, ◌/◌, ◌%◌, ◌<◌, ◌≤◌, Bool, true, false, cond, IsTrue, List, [], ◌∷◌, ◌++◌, length, refl, sym, ap, subst, ◌∙◌, arith, ltb, ℤ, pos, negsuc, append_assoc, zero-add, Option, Some, None, get_or, length-append}
use Rattle.std.proofs.lemmas.Bool.{cases_lt, and_parts}
use Rattle.std.proofs.lemmas.Bool.Decides.{nat_tests}
use Rattle.mm_label.specs.Bytes.{rank, one, two, five, split, spelling, spell, bytes_of}
use Rattle.mm_label.specs.Label.{is_in_range, all_in_range}
use Rattle.mm_label.specs.Components.{of_rank, Found, low_at, four_at, component_at, then_from, components_from, components}
use Rattle.mm_label.proofs.ByteLaws.{in_range_is}
use Rattle.mm_label.proofs.Order.{spelling_begins, IsInRange, rank_below, split_low, split_high}

pub yes : (n k : ℕ) → n < k → ltb n k ≡ true
yes n k h = grind (arith, nat_tests)

pub no : (n k : ℕ) → k ≤ n → ltb n k ≡ false
no n k h = grind (arith, nat_tests)

-- ---- the numbers back and forth

pub of_rank-rank : (c : ℤ) → IsInRange c → of_rank (rank c) ≡ c
of_rank-rank (pos n) h = ap (λ b. cond b (negsuc (4294975551 - (n + 4294975552))) (pos (n + 4294975552 - 4294975552))) (no (n + 4294975552) 4294975552 (omega arith)) ∙ ap pos (omega arith)
of_rank-rank (negsuc n) h = ap (λ b. cond b (negsuc (4294975551 - (4294975551 - n))) (pos (4294975551 - n - 4294975552))) (yes (4294975551 - n) 4294975552 (omega arith)) ∙ ap negsuc (omega arith)

pub record Raises (n : ℕ) : Type 0 where
  pub back : rank (of_rank n) ≡ n
  pub in_range : IsInRange (of_rank n)

pub raises : (n : ℕ) → n < 8589951104 → Raises n
raises n h = elim (cases_lt n 4294975552) [
  | inl a ↦
      let e : of_rank n ≡ negsuc (4294975551 - n) = ap (λ b. cond b (negsuc (4294975551 - n)) (pos (n - 4294975552))) (yes n 4294975552 a) in
      record { back = ap rank e ∙ omega arith; in_range = subst IsInRange (sym e) (omega arith) }
  | inr a ↦
      let e : of_rank n ≡ pos (n - 4294975552) = ap (λ b. cond b (negsuc (4294975551 - n)) (pos (n - 4294975552))) (no n 4294975552 a) in
      record { back = ap rank e ∙ omega arith; in_range = subst IsInRange (sym e) (omega arith) }
]

-- ---- the rows of the table

abbrev rest_2 : ℕ → List ℕ
rest_2 = split 8192 (two 192) (five 224)

abbrev rest_3 : ℕ → List ℕ
rest_3 = split 128 (one 64) rest_2

abbrev rest_4 : ℕ → List ℕ
rest_4 = split 8192 (two 32) rest_3

to_rest : (k n : ℕ) (f g : ℕ → List ℕ) → split k f g (k + n) ≡ g n
to_rest k n f g = split_high k f g (k + n) (omega arith) ∙ ap g (omega arith)

row_1 : (n : ℕ) → n < 4294967296 → spelling n ≡ five 31 n
row_1 n h = split_low 4294967296 (five 31) rest_4 n h

row_2 : (n : ℕ) → n < 8192 → spelling (4294967296 + n) ≡ two 32 n
row_2 n h = to_rest 4294967296 n (five 31) rest_4 ∙ split_low 8192 (two 32) rest_3 n h

row_3 : (n : ℕ) → n < 128 → spelling (4294967296 + (8192 + n)) ≡ one 64 n
row_3 n h = to_rest 4294967296 (8192 + n) (five 31) rest_4 ∙ to_rest 8192 n (two 32) rest_3 ∙ split_low 128 (one 64) rest_2 n h

row_4 : (n : ℕ) → n < 8192 → spelling (4294967296 + (8192 + (128 + n))) ≡ two 192 n
row_4 n h = to_rest 4294967296 (8192 + (128 + n)) (five 31) rest_4 ∙ to_rest 8192 (128 + n) (two 32) rest_3 ∙ to_rest 128 n (one 64) rest_2 ∙ split_low 8192 (two 192) (five 224) n h

row_5 : (n : ℕ) → spelling (4294967296 + (8192 + (128 + (8192 + n)))) ≡ five 224 n
row_5 n = to_rest 4294967296 (8192 + (128 + (8192 + n))) (five 31) rest_4 ∙ to_rest 8192 (128 + (8192 + n)) (two 32) rest_3 ∙ to_rest 128 (8192 + n) (one 64) rest_2 ∙ to_rest 8192 n (two 192) (five 224)

-- the row of a number, and the number in it
pub data Row (n : ℕ) : Type 0 where
  Row_1 : n < 4294967296 → Row n
  Row_2 : (m : ℕ) → n ≡ 4294967296 + m → m < 8192 → Row n
  Row_3 : (m : ℕ) → n ≡ 4294967296 + (8192 + m) → m < 128 → Row n
  Row_4 : (m : ℕ) → n ≡ 4294967296 + (8192 + (128 + m)) → m < 8192 → Row n
  Row_5 : (m : ℕ) → n ≡ 4294967296 + (8192 + (128 + (8192 + m))) → m < 4294967296 → Row n

row_of : (n : ℕ) → n < 8589951104 → Row n
row_of n h = elim (cases_lt n 4294967296) [
  | inl a ↦ Row_1 a
  | inr a ↦ elim (cases_lt n 4294975488) [
    | inl b ↦ Row_2 (n - 4294967296) (omega arith) (omega arith)
    | inr b ↦ elim (cases_lt n 4294975616) [
      | inl c ↦ Row_3 (n - 4294975488) (omega arith) (omega arith)
      | inr c ↦ elim (cases_lt n 4294983808) [
        | inl d ↦ Row_4 (n - 4294975616) (omega arith) (omega arith)
        | inr d ↦ Row_5 (n - 4294983808) (omega arith) (omega arith)
      ]
    ]
  ]
]

-- ---- what a first byte tells

abbrev none_found : Found
none_found = None

at_31 : (bs : List ℕ) → component_at (31 ∷ bs) ≡ four_at 0 bs
at_31 bs = refl

at_two : (b : ℕ) (bs : List ℕ) → 32 ≤ b → b < 64 → component_at (b ∷ bs) ≡ low_at (4294967296 + (b - 32) * 256) bs
at_two b bs p q = rw (no b 31 (omega arith), no b 32 (omega arith), yes b 64 q) refl

at_one : (b : ℕ) (bs : List ℕ) → 64 ≤ b → b < 192 → component_at (b ∷ bs) ≡ Some (of_rank (4294975488 + (b - 64)), bs)
at_one b bs p q = rw (no b 31 (omega arith), no b 32 (omega arith), no b 64 p, yes b 192 q) refl

at_two_high : (b : ℕ) (bs : List ℕ) → 192 ≤ b → b < 224 → component_at (b ∷ bs) ≡ low_at (4294975616 + (b - 192) * 256) bs
at_two_high b bs p q = rw (no b 31 (omega arith), no b 32 (omega arith), no b 64 (omega arith), no b 192 p, yes b 224 q) refl

at_224 : (bs : List ℕ) → component_at (224 ∷ bs) ≡ four_at 4294983808 bs
at_224 bs = refl

-- ---- what was spelled is read

abbrev found : ℤ → List ℕ → Found
found c ys = Some (c, ys)

some_found : (n : ℕ) (c : ℤ) (ys : List ℕ) → IsInRange c → n ≡ rank c → found (of_rank n) ys ≡ found c ys
some_found n c ys h e = ap (λ z. found z ys) (ap of_rank e ∙ of_rank-rank c h)

whole_of : (n : ℕ) → n < 4294967296 → n / 16777216 % 256 * 16777216 + n / 65536 % 256 * 65536 + n / 256 % 256 * 256 + n % 256 ≡ n
whole_of n h = omega arith

pub read_again : (c : ℤ) (ys : List ℕ) → IsInRange c → component_at (spell c ++ ys) ≡ Some (c, ys)
read_again c ys h = by_row (row_of (rank c) (rank_below c h))
  where
    by_row : Row (rank c) → component_at (spell c ++ ys) ≡ Some (c, ys)
    by_row (Row_1 a) =
        ap (λ zs. component_at (zs ++ ys)) (row_1 (rank c) a)
        ∙ some_found _ c ys h (omega (arith, whole_of (rank c) a))
    by_row (Row_2 m e lt) =
        ap (λ n. component_at (spelling n ++ ys)) e ∙ ap (λ zs. component_at (zs ++ ys)) (row_2 m lt)
        ∙ at_two (32 + m / 256) (m % 256 ∷ ys) (omega arith) (omega arith) ∙ some_found _ c ys h (omega (arith, e))
    by_row (Row_3 m e lt) =
        ap (λ n. component_at (spelling n ++ ys)) e ∙ ap (λ zs. component_at (zs ++ ys)) (row_3 m lt)
        ∙ at_one (64 + m) ys (omega arith) (omega arith) ∙ some_found _ c ys h (omega (arith, e))
    by_row (Row_4 m e lt) =
        ap (λ n. component_at (spelling n ++ ys)) e ∙ ap (λ zs. component_at (zs ++ ys)) (row_4 m lt)
        ∙ at_two_high (192 + m / 256) (m % 256 ∷ ys) (omega arith) (omega arith) ∙ some_found _ c ys h (omega (arith, e))
    by_row (Row_5 m e lt) =
        ap (λ n. component_at (spelling n ++ ys)) e ∙ ap (λ zs. component_at (zs ++ ys)) (row_5 m)
        ∙ some_found _ c ys h (omega (arith, e, whole_of m lt))

-- ---- what is read is spelled so

pub record Takes (bs : List ℕ) (x : ℤ × List ℕ) : Type 0 where
  pub in_range : IsInRange x.0
  pub parts : bs ≡ spell x.0 ++ x.1

abbrev some : {A : Type 0} → A → Option A
some x = Some x

some_is : {A : Type 0} (x y : A) → some x ≡ some y → x ≡ y
some_is x y e = cc

taken : (n : ℕ) (bs front rest : List ℕ) (x : ℤ × List ℕ) → n < 8589951104 → spelling n ≡ front → bs ≡ front ++ rest → some (of_rank n, rest) ≡ Some x → Takes bs x
taken n bs front rest x lt s b e =
    let r = raises n lt in
    subst (λ (y : ℤ × List ℕ). Takes bs y) (some_is (of_rank n, rest) x e)
    (record { in_range = r.in_range; parts = b ∙ ap (λ zs. zs ++ rest) (sym s ∙ ap spelling (sym r.back)) })

first_bytes : (w x y z : ℕ) → w < 256 → x < 256 → y < 256 → z < 256 → (n : ℕ) → n ≡ w * 16777216 + x * 65536 + y * 256 + z
    → (n / 16777216 % 256 ∷ n / 65536 % 256 ∷ n / 256 % 256 ∷ n % 256 ∷ []) ≡ w ∷ x ∷ y ∷ z ∷ []
first_bytes w x y z a b c d n e =
    let p : n / 16777216 % 256 ≡ w = omega arith in let q : n / 65536 % 256 ≡ x = omega arith in
    let r : n / 256 % 256 ≡ y = omega arith in let s : n % 256 ≡ z = omega arith in
    rw (p, q, r, s) refl

low_takes : (b base : ℕ) (bs : List ℕ) (x : ℤ × List ℕ) → ((k : ℕ) → get_or bs k 0 < 256) → (first : ℕ) → first ≤ b
    → ((l : ℕ) → l < 256 → (base + (b - first) * 256 + l < 8589951104) × (spelling (base + (b - first) * 256 + l) ≡ b ∷ l ∷ []))
    → low_at (base + (b - first) * 256) bs ≡ Some x → Takes (b ∷ bs) x
low_takes b base [] x t first le f e = absurd cc
low_takes b base (l ∷ bs) x t first le f e =
    let g = f l (t 0) in taken (base + (b - first) * 256 + l) (b ∷ l ∷ bs) (b ∷ l ∷ []) bs x g.0 g.1 refl e

four_takes : (b base : ℕ) (bs : List ℕ) (x : ℤ × List ℕ) → ((k : ℕ) → get_or bs k 0 < 256)
    → ((n : ℕ) → n < 4294967296 → (base + n < 8589951104) × (spelling (base + n) ≡ five b n))
    → four_at base bs ≡ Some x → Takes (b ∷ bs) x
four_takes b base [] x t f e = absurd cc
four_takes b base (p ∷ []) x t f e = absurd cc
four_takes b base (p ∷ q ∷ []) x t f e = absurd cc
four_takes b base (p ∷ q ∷ r ∷ []) x t f e = absurd cc
four_takes b base (p ∷ q ∷ r ∷ s ∷ bs) x t f e =
    let tp : p < 256 = t 0 in let tq : q < 256 = t 1 in let tr : r < 256 = t 2 in let ts : s < 256 = t 3 in
    let g = f (p * 16777216 + q * 65536 + r * 256 + s) (omega arith) in
    taken (base + (p * 16777216 + q * 65536 + r * 256 + s)) (b ∷ p ∷ q ∷ r ∷ s ∷ bs) (b ∷ p ∷ q ∷ r ∷ s ∷ []) bs x g.0
    (g.1 ∙ ap (λ zs. b ∷ zs) (first_bytes p q r s tp tq tr ts (p * 16777216 + q * 65536 + r * 256 + s) refl)) refl e

two_is : (first m b l : ℕ) → first ≤ b → l < 256 → m ≡ (b - first) * 256 + l → two first m ≡ b ∷ l ∷ []
two_is first m b l le lt e =
    let p : first + m / 256 ≡ b = omega arith in let q : m % 256 ≡ l = omega arith in rw (p, q) refl

-- the bytes after the first
tail_bytes : (b : ℕ) (bs : List ℕ) → ((k : ℕ) → get_or (b ∷ bs) k 0 < 256) → (k : ℕ) → get_or bs k 0 < 256
tail_bytes b bs t k = t (suc k)

low_row : (b base l first : ℕ) → first ≤ b → b < first + 32 → l < 256 → base < 4294983808 → ((m : ℕ) → m < 8192 → spelling (base + m) ≡ two first m)
    → (base + (b - first) * 256 + l < 8589951104) × (spelling (base + (b - first) * 256 + l) ≡ b ∷ l ∷ [])
low_row b base l first p q lt bound f =
    let e : base + (b - first) * 256 + l ≡ base + ((b - first) * 256 + l) = omega arith in
    (omega arith, ap spelling e ∙ f ((b - first) * 256 + l) (omega arith) ∙ two_is first ((b - first) * 256 + l) b l p lt refl)

shift_3 : (b : ℕ) → 64 ≤ b → 4294975488 + (b - 64) ≡ 4294967296 + (8192 + (b - 64))
shift_3 b h = omega arith

first_3 : (b : ℕ) → 64 ≤ b → 64 + (b - 64) ≡ b
first_3 b h = omega arith

shift_4 : (m : ℕ) → 4294975616 + m ≡ 4294967296 + (8192 + (128 + m))
shift_4 m = omega arith

shift_5 : (n : ℕ) → 4294983808 + n ≡ 4294967296 + (8192 + (128 + (8192 + n)))
shift_5 n = omega arith

pub read_takes : (bs : List ℕ) (x : ℤ × List ℕ) → ((k : ℕ) → get_or bs k 0 < 256) → component_at bs ≡ Some x → Takes bs x
read_takes [] x t e = absurd cc
read_takes (b ∷ bs) x t e = by_byte (cases_lt b 31) (cases_lt b 32) (cases_lt b 64) (cases_lt b 192) (cases_lt b 224) (cases_lt b 225)
  where
    by_byte : ((b < 31) ⊎ (31 ≤ b)) → ((b < 32) ⊎ (32 ≤ b)) → ((b < 64) ⊎ (64 ≤ b)) → ((b < 192) ⊎ (192 ≤ b)) → ((b < 224) ⊎ (224 ≤ b)) → ((b < 225) ⊎ (225 ≤ b)) → Takes (b ∷ bs) x
    by_byte (inl p) _ _ _ _ _ = absurd (let f : none_found ≡ Some x = sym (rw (yes b 31 p) refl) ∙ e in cc)
    by_byte (inr p) (inl q) _ _ _ _ =
        let at : b ≡ 31 = omega arith in
        four_takes b 0 bs x (tail_bytes b bs t) (λ n h. (omega arith, ap spelling (zero-add n) ∙ row_1 n h ∙ ap (λ a. five a n) (sym at))) (sym (ap (λ a. component_at (a ∷ bs)) at) ∙ e)
    by_byte (inr p) (inr q) (inl r) _ _ _ =
        low_takes b 4294967296 bs x (tail_bytes b bs t) 32 q (λ l lt. low_row b 4294967296 l 32 q (omega arith) lt (omega arith) row_2) (sym (at_two b bs q r) ∙ e)
    by_byte (inr p) (inr q) (inr r) (inl s) _ _ =
        taken (4294975488 + (b - 64)) (b ∷ bs) (b ∷ []) bs x (omega arith) (ap spelling (shift_3 b r) ∙ row_3 (b - 64) (omega arith) ∙ ap (λ a. a ∷ []) (first_3 b r)) refl (sym (at_one b bs r s) ∙ e)
    by_byte (inr p) (inr q) (inr r) (inr s) (inl u) _ =
        low_takes b 4294975616 bs x (tail_bytes b bs t) 192 s (λ l lt. low_row b 4294975616 l 192 s (omega arith) lt (omega arith) (λ m h. ap spelling (shift_4 m) ∙ row_4 m h)) (sym (at_two_high b bs s u) ∙ e)
    by_byte (inr p) (inr q) (inr r) (inr s) (inr u) (inl v) =
        let at : b ≡ 224 = omega arith in
        four_takes b 4294983808 bs x (tail_bytes b bs t) (λ n h. (omega arith, ap spelling (shift_5 n) ∙ row_5 n ∙ ap (λ a. five a n) (sym at))) (sym (ap (λ a. component_at (a ∷ bs)) at) ∙ e)
    by_byte (inr p) (inr q) (inr r) (inr s) (inr u) (inr v) =
        absurd (let f : none_found ≡ Some x = sym (rw (no b 31 p, no b 32 q, no b 64 r, no b 192 s, no b 224 u, no b 225 v) refl) ∙ e in cc)

-- ---- whole lists

pub spells_some : (c : ℤ) → IsInRange c → 1 ≤ length (spell c)
spells_some c h = let s = spelling_begins (rank c) (rank_below c h) in subst (λ (zs : List ℕ). 1 ≤ length zs) (sym s.is) (omega arith)

none_left : (n : ℕ) → components_from n [] ≡ []
none_left zero = refl
none_left (suc n) = refl

pub again_from : (n : ℕ) (cs : List ℤ) → IsTrue (all_in_range cs) → length (bytes_of cs) ≤ n → components_from n (bytes_of cs) ≡ cs
again_from n [] h le = none_left n
again_from zero (c ∷ cs) h le =
    absurd (let k = spells_some c (in_range_is c (and_parts (is_in_range c) (all_in_range cs) h).0) in let e = length-append (spell c) (bytes_of cs) in too_long (length (spell c)) (length (bytes_of cs)) k (subst (λ m. m ≤ 0) e le))
  where
    too_long : (a b : ℕ) → 1 ≤ a → a + b ≤ 0 → ⊥
    too_long a b p q = omega arith
again_from (suc n) (c ∷ cs) h le =
    let p = and_parts (is_in_range c) (all_in_range cs) h in let r = in_range_is c p.0 in
    ap (λ x. then_from x (λ rest. components_from n rest)) (read_again c (bytes_of cs) r)
    ∙ ap (λ zs. c ∷ zs) (again_from n cs p.1 (shorter (length (spell c)) (length (bytes_of cs)) n (spells_some c r) (subst (λ m. m ≤ suc n) (length-append (spell c) (bytes_of cs)) le)))
  where
    shorter : (a b n : ℕ) → 1 ≤ a → a + b ≤ suc n → b ≤ n
    shorter a b n p q = omega arith

-- the components of the bytes of a label are the label
pub components_again : (cs : List ℤ) → IsTrue (all_in_range cs) → components (bytes_of cs) ≡ cs
components_again cs h = again_from (length (bytes_of cs)) cs h (omega arith)

-- ---- step by step

-- fewer than n bytes are left
abbrev Within : Found → ℕ → Type 0
Within None n = Unit {0}
Within (Some x) n = length x.1 < n

low_within : (n : ℕ) (bs : List ℕ) → Within (low_at n bs) (suc (length bs))
low_within n [] = tt
low_within n (l ∷ bs) = omega arith

four_within : (n : ℕ) (bs : List ℕ) → Within (four_at n bs) (suc (length bs))
four_within n [] = tt
four_within n (w ∷ []) = tt
four_within n (w ∷ x ∷ []) = tt
four_within n (w ∷ x ∷ y ∷ []) = tt
four_within n (w ∷ x ∷ y ∷ z ∷ bs) = omega arith

component_within : (bs : List ℕ) → Within (component_at bs) (length bs)
component_within [] = tt
component_within (b ∷ bs) = by_tests (ltb b 31) (ltb b 32) (ltb b 64) (ltb b 192) (ltb b 224) (ltb b 225)
  where
    by_tests : (s t u v w x : Bool) → Within (cond s None (cond t (four_at 0 bs) (cond u (low_at (4294967296 + (b - 32) * 256) bs) (cond v (Some (of_rank (4294975488 + (b - 64)), bs)) (cond w (low_at (4294975616 + (b - 192) * 256) bs) (cond x (four_at 4294983808 bs) None)))))) (suc (length bs))
    by_tests true t u v w x = tt
    by_tests false true u v w x = four_within 0 bs
    by_tests false false true v w x = low_within (4294967296 + (b - 32) * 256) bs
    by_tests false false false true w x = omega arith
    by_tests false false false false true x = low_within (4294975616 + (b - 192) * 256) bs
    by_tests false false false false false true = four_within 4294983808 bs
    by_tests false false false false false false = tt

-- what is found does not hang on how far one may read
same_from : (n m : ℕ) (bs : List ℕ) → length bs ≤ n → length bs ≤ m → components_from n bs ≡ components_from m bs
same_from n m [] h k = none_left n ∙ sym (none_left m)
same_from zero m (b ∷ bs) h k = absurd (omega arith)
same_from (suc n) zero (b ∷ bs) h k = absurd (omega arith)
same_from (suc n) (suc m) (b ∷ bs) h k = by_found (component_at (b ∷ bs)) (component_within (b ∷ bs)) (λ zs p q. same_from n m zs p q)
  where
    by_found : (f : Found) → Within f (suc (length bs)) → ((zs : List ℕ) → length zs ≤ n → length zs ≤ m → components_from n zs ≡ components_from m zs)
        → then_from f (λ rest. components_from n rest) ≡ then_from f (λ rest. components_from m rest)
    by_found None w ih = refl
    by_found (Some x) w ih = ap (λ zs. x.0 ∷ zs) (ih x.1 (omega arith) (omega arith))

pub components_more : (bs after : List ℕ) (c : ℤ) → component_at bs ≡ Some (c, after) → components bs ≡ c ∷ components after
components_more [] after c e = absurd (let f : none_found ≡ Some (c, after) = e in cc)
components_more (b ∷ bs) after c e =
    let w : Within (found c after) (suc (length bs)) = subst (λ f. Within f (suc (length bs))) e (component_within (b ∷ bs)) in
    ap (λ f. then_from f (λ rest. components_from (length bs) rest)) e
    ∙ ap (λ zs. c ∷ zs) (same_from (length bs) (length after) after (omega arith) (omega arith))

pub components_none : (bs : List ℕ) → component_at bs ≡ None → components bs ≡ []
components_none [] e = refl
components_none (b ∷ bs) e = ap (λ f. then_from f (λ rest. components_from (length bs) rest)) e

pub component_shorter : (bs after : List ℕ) (c : ℤ) → component_at bs ≡ Some (c, after) → length after < length bs
component_shorter bs after c e = subst (λ f. Within f (length bs)) e (component_within bs)

pub collected_more : (items new : List ℤ) (rest after bytes : List ℕ) (c : ℤ) → new ≡ items ++ c ∷ [] → component_at rest ≡ Some (c, after) → items ++ components rest ≡ components bytes → new ++ components after ≡ components bytes
collected_more items new rest after bytes c e f h =
    ap (λ zs. zs ++ components after) e ∙ append_assoc items (c ∷ []) (components after) ∙ ap (λ zs. items ++ zs) (sym (components_more rest after c f)) ∙ h

-- What stands between two segments is a segment, and lies strictly between.
use Rattle.std.proofs.Common.{◌⊎◌, ◌≡◌, ◌≢◌, ℕ, zero, suc, ◌%◌, Bool, true, false, not, cond, ◌&&◌, IsTrue, List, [], ◌∷◌, int_cmp, int_eq, int_lt, Ordering, Less, Equal, Greater, refl, sym, ap, ap₂, subst, ◌∙◌, arith, ℤ, pos, negsuc, ◌+ℤ◌, ◌-ℤ◌, ◌<ℤ◌, ◌≤ℤ◌, T}
use Rattle.std.proofs.lemmas.Int.{ints, by_lt_z}
use Rattle.std.specs.Cmp.{int_cmp_is, int_ranked}
use Rattle.std.specs.Cmp.Lexicographic.{slice_cmp}
use Rattle.std.specs.Ordering.{ordering_then, MatchOrdering}
use Rattle.std.proofs.lemmas.Bool.Decides.{nat_tests, Decides-int_eq}
use Rattle.std.specs.Option.{ForSome}
use Rattle.std.specs.Borrow.{Bor}
use Rattle.std.specs.Prelude.{Option, Some, None, IfSome, option_map}
use Rattle.mm_label.specs.Label.{is_odd, is_in_range, all_in_range, is_segment, is_empty, IsSegment}
use Rattle.mm_label.specs.Between.{above, beneath, after, before, apart, inside, between, first_out, IsOrdered, LiesBetween}

half : (n : ℕ) → (n % 2 ≡ 0) ⊎ (n % 2 ≡ 1)
half n = grind arith

odd_two : (c : ℤ) → is_odd (c +ℤ pos 2) ≡ is_odd c
odd_two (pos n) = grind (arith, nat_tests)
odd_two (negsuc zero) = refl
odd_two (negsuc (suc zero)) = refl
odd_two (negsuc (suc (suc n))) = grind (arith, nat_tests)

below_above : (f : ℤ) → f <ℤ above f
below_above f = by_test (is_odd f)
  where
    by_test : (t : Bool) → f <ℤ cond t (f +ℤ pos 2) (f +ℤ pos 1)
    by_test true = omega (arith, ints)
    by_test false = omega (arith, ints)

beneath_below : (f : ℤ) → beneath f <ℤ f
beneath_below f = by_test (is_odd f)
  where
    by_test : (t : Bool) → cond t (f -ℤ pos 2) (f -ℤ pos 1) <ℤ f
    by_test true = omega (arith, ints)
    by_test false = omega (arith, ints)

odd_one : (c : ℤ) → is_odd c ≡ false → is_odd (c +ℤ pos 1) ≡ true
odd_one (pos n) h = grind (arith, nat_tests)
odd_one (negsuc zero) h = absurd cc
odd_one (negsuc (suc n)) h = grind (arith, nat_tests)

odd_above : (f : ℤ) → is_odd (above f) ≡ true
odd_above f = by_test (is_odd f) refl
  where
    by_test : (t : Bool) → is_odd f ≡ t → is_odd (cond t (f +ℤ pos 2) (f +ℤ pos 1)) ≡ true
    by_test true e = odd_two f ∙ e
    by_test false e = odd_one f e

-- rule 2
pub after_is : (f : ℤ) (fs : List ℤ) → IsTrue (is_segment (after (f ∷ fs))) × (slice_cmp int_cmp (f ∷ fs) (after (f ∷ fs)) ≡ Less)
after_is f fs =
    (ap (λ t. cond t true false) (odd_above f), ap (λ o. ordering_then o (slice_cmp int_cmp fs [])) (sym (int_cmp_is f (above f) Less (below_above f))))

odd_less_two : (c : ℤ) → is_odd (c -ℤ pos 2) ≡ is_odd c
odd_less_two (pos zero) = refl
odd_less_two (pos (suc zero)) = refl
odd_less_two (pos (suc (suc n))) = grind (arith, nat_tests)
odd_less_two (negsuc n) = grind (arith, nat_tests)

odd_less_one : (c : ℤ) → is_odd c ≡ false → is_odd (c -ℤ pos 1) ≡ true
odd_less_one (pos zero) h = refl
odd_less_one (pos (suc n)) h = grind (arith, nat_tests)
odd_less_one (negsuc n) h = grind (arith, nat_tests)

odd_beneath : (f : ℤ) → is_odd (beneath f) ≡ true
odd_beneath f = by_test (is_odd f) refl
  where
    by_test : (t : Bool) → is_odd f ≡ t → is_odd (cond t (f -ℤ pos 2) (f -ℤ pos 1)) ≡ true
    by_test true e = odd_less_two f ∙ e
    by_test false e = odd_less_one f e

-- rule 3
pub before_is : (f : ℤ) (fs : List ℤ) → IsTrue (is_segment (before (f ∷ fs))) × (slice_cmp int_cmp (before (f ∷ fs)) (f ∷ fs) ≡ Less)
before_is f fs =
    (ap (λ t. cond t true false) (odd_beneath f), ap (λ o. ordering_then o (slice_cmp int_cmp [] fs)) (sym (int_cmp_is (beneath f) f Less (beneath_below f))))

-- ---- rule 4

pub record Lies (l x r : List ℤ) : Type 0 where
  pub segment : IsTrue (is_segment x)
  pub above : slice_cmp int_cmp l x ≡ Less
  pub below : slice_cmp int_cmp x r ≡ Less

even_cons : (c : ℤ) (cs : List ℤ) → is_odd c ≡ false → is_segment cs ≡ true → is_segment (c ∷ cs) ≡ true
even_cons c cs e h = ap (λ t. cond t (is_empty cs) (is_segment cs)) e ∙ h

even_tail : (c : ℤ) (cs : List ℤ) → is_odd c ≡ false → is_segment (c ∷ cs) ≡ true → is_segment cs ≡ true
even_tail c cs e h = sym (ap (λ t. cond t (is_empty cs) (is_segment cs)) e) ∙ h

odd_tail : (c : ℤ) (cs : List ℤ) → is_odd c ≡ true → is_segment (c ∷ cs) ≡ true → cs ≡ []
odd_tail c cs e h = by_empty cs (sym (ap (λ t. cond t (is_empty cs) (is_segment cs)) e) ∙ h)
  where
    by_empty : (xs : List ℤ) → is_empty xs ≡ true → xs ≡ []
    by_empty [] k = refl
    by_empty (x ∷ xs) k = absurd cc

after_tail : (l : List ℤ) → is_segment l ≡ true → IsTrue (is_segment (after l)) × (slice_cmp int_cmp l (after l) ≡ Less)
after_tail [] h = absurd cc
after_tail (f ∷ fs) h = after_is f fs

before_tail : (r : List ℤ) → is_segment r ≡ true → IsTrue (is_segment (before r)) × (slice_cmp int_cmp (before r) r ≡ Less)
before_tail [] h = absurd cc
before_tail (f ∷ fs) h = before_is f fs

first_less : (a b : ℤ) (xs ys : List ℤ) → a <ℤ b → slice_cmp int_cmp (a ∷ xs) (b ∷ ys) ≡ Less
first_less a b xs ys h = ap (λ o. ordering_then o (slice_cmp int_cmp xs ys)) (sym (int_cmp_is a b Less h))

same_first : (a : ℤ) (xs ys : List ℤ) → slice_cmp int_cmp (a ∷ xs) (a ∷ ys) ≡ slice_cmp int_cmp xs ys
same_first a xs ys = ap (λ o. ordering_then o (slice_cmp int_cmp xs ys)) (sym (int_cmp_is a a Equal refl))

odd_next : (c : ℤ) → is_odd c ≡ true → is_odd (c +ℤ pos 1) ≡ false
odd_next (pos n) h = grind (arith, nat_tests)
odd_next (negsuc zero) h = refl
odd_next (negsuc (suc n)) h = grind (arith, nat_tests)

lt_is : (x y : ℤ) → int_lt x y ≡ true → x <ℤ y
lt_is x y e = record { lt = subst T (sym e) tt }

le_is : (x y : ℤ) → int_lt x y ≡ false → y ≤ℤ x
le_is x y e = by_lt_z x y (λ p. absurd (subst T e p.lt)) (λ q. q)

one_more : (a b c : ℤ) → c ≡ a +ℤ pos 1 → b ≤ℤ c → a <ℤ b → b ≡ a +ℤ pos 1
one_more a b c e h k = omega (arith, ints)

two_more : (a b c : ℤ) → c ≡ a +ℤ pos 2 → b ≤ℤ c → a <ℤ b → b ≢ a +ℤ pos 2 → b ≡ a +ℤ pos 1
two_more a b c e h k ne = omega (arith, ints)

not_two : (a b c : ℤ) → c ≡ a +ℤ pos 1 → b ≤ℤ c → b ≡ a +ℤ pos 2 → ⊥
not_two a b c e h k = omega (arith, ints)

next_up : (a b : ℤ) → b ≡ a +ℤ pos 2 → (a <ℤ (a +ℤ pos 1)) × ((a +ℤ pos 1) <ℤ b)
next_up a b e = (omega (arith, ints), omega (arith, ints))

not_eq : (a b : ℤ) → int_eq a b ≡ false → a ≢ b
not_eq a b e f = let k : false ≡ true = sym e ∙ (Decides-int_eq a b).1 f in cc

pub apart_lies : (a b : ℤ) (l r : List ℤ) → is_segment (a ∷ l) ≡ true → is_segment (b ∷ r) ≡ true → a <ℤ b → Lies (a ∷ l) (apart a l b r) (b ∷ r)
apart_lies a b l r h k lt = by_tests (int_lt (above a) b) (int_eq b (a +ℤ pos 2)) (is_odd a) refl refl refl
  where
    above_odd : is_odd a ≡ true → above a ≡ a +ℤ pos 2
    above_odd e = ap (λ t. cond t (a +ℤ pos 2) (a +ℤ pos 1)) e

    above_even : is_odd a ≡ false → above a ≡ a +ℤ pos 1
    above_even e = ap (λ t. cond t (a +ℤ pos 2) (a +ℤ pos 1)) e

    by_tests : (t u v : Bool) → int_lt (above a) b ≡ t → int_eq b (a +ℤ pos 2) ≡ u → is_odd a ≡ v
        → Lies (a ∷ l) (cond t (above a ∷ []) (cond u ((a +ℤ pos 1) ∷ pos 1 ∷ []) (cond v (b ∷ before r) (a ∷ after l)))) (b ∷ r)
    by_tests true u v e f g = record {
      segment = ap (λ t. cond t true false) (odd_above a);
      above = first_less a (above a) l [] (below_above a);
      below = first_less (above a) b [] r (lt_is (above a) b e);
    }
    by_tests false true true e f g =
        let n = next_up a b ((Decides-int_eq b (a +ℤ pos 2)).0 f) in record {
          segment = even_cons (a +ℤ pos 1) (pos 1 ∷ []) (odd_next a g) refl;
          above = first_less a (a +ℤ pos 1) l (pos 1 ∷ []) n.0;
          below = first_less (a +ℤ pos 1) b (pos 1 ∷ []) r n.1;
        }
    by_tests false true false e f g = absurd (not_two a b (above a) (above_even g) (le_is (above a) b e) ((Decides-int_eq b (a +ℤ pos 2)).0 f))
    by_tests false false true e f g =
        let s = two_more a b (above a) (above_odd g) (le_is (above a) b e) lt (not_eq b (a +ℤ pos 2) f) in
        let eb : is_odd b ≡ false = ap is_odd s ∙ odd_next a g in
        let t = before_tail r (even_tail b r eb k) in record {
          segment = even_cons b (before r) eb t.0;
          above = first_less a b l (before r) lt;
          below = same_first b (before r) r ∙ t.1;
        }
    by_tests false false false e f g =
        let t = after_tail l (even_tail a l g h) in record {
          segment = even_cons a (after l) g t.0;
          above = same_first a l (after l) ∙ t.1;
          below = first_less a b (after l) r lt;
        }

tail_less : (a b : ℤ) (l r : List ℤ) → a ≡ b → slice_cmp int_cmp (a ∷ l) (b ∷ r) ≡ Less → slice_cmp int_cmp l r ≡ Less
tail_less a b l r e h = sym (ap (λ o. ordering_then o (slice_cmp int_cmp l r)) (sym (int_cmp_is a b Equal e))) ∙ h

head_less : (a b : ℤ) (l r : List ℤ) → a ≢ b → slice_cmp int_cmp (a ∷ l) (b ∷ r) ≡ Less → a <ℤ b
head_less a b l r ne h = by_order (int_cmp a b) (int_ranked a b (int_cmp a b) refl) h
  where
    by_order : (o : Ordering) → MatchOrdering o (a <ℤ b) (a ≡ b) (b <ℤ a) → ordering_then o (slice_cmp int_cmp l r) ≡ Less → a <ℤ b
    by_order Less m k = m
    by_order Equal m k = absurd (ne m)
    by_order Greater m k = absurd cc

-- the answer is a segment strictly between
pub between_lies : (l r : List ℤ) → is_segment l ≡ true → is_segment r ≡ true → slice_cmp int_cmp l r ≡ Less → Lies l (inside l r) r
between_lies [] r h k less = absurd cc
between_lies (a ∷ l) [] h k less = absurd cc
between_lies (a ∷ l) (b ∷ r) h k less = by_test (int_eq a b) (is_odd a) refl refl (between_lies l r)
  where
    by_test : (t v : Bool) → int_eq a b ≡ t → is_odd a ≡ v → (is_segment l ≡ true → is_segment r ≡ true → slice_cmp int_cmp l r ≡ Less → Lies l (inside l r) r)
        → Lies (a ∷ l) (cond t (a ∷ inside l r) (apart a l b r)) (b ∷ r)
    by_test true true e o ih =
        let s = (Decides-int_eq a b).0 e in
        let f = odd_tail a l o h in let g = odd_tail b r (ap is_odd (sym s) ∙ o) k in
        absurd (let z : Equal ≡ Less = sym (ap₂ (λ x y. slice_cmp int_cmp x y) f g) ∙ tail_less a b l r s less in cc)
    by_test true false e o ih =
        let s = (Decides-int_eq a b).0 e in
        let i = ih (even_tail a l o h) (even_tail b r (ap is_odd (sym s) ∙ o) k) (tail_less a b l r s less) in record {
          segment = even_cons a (inside l r) o i.segment;
          above = same_first a l (inside l r) ∙ i.above;
          below = ap (λ z. slice_cmp int_cmp (a ∷ inside l r) (z ∷ r)) (sym s) ∙ same_first a (inside l r) r ∙ i.below;
        }
    by_test false v e o ih = apart_lies a b l r h k (head_less a b l r (not_eq a b e) less)

-- the same of neighbours that may be missing
pub lies : (l r : Option (List ℤ)) → IfSome l (λ s. IsTrue (is_segment s)) → IfSome r (λ s. IsTrue (is_segment s)) → IsOrdered l r → LiesBetween l (between l r) r
lies None None h k o = record { one = refl; above = tt; below = tt }
lies (Some l) None h k o = let t = after_tail l h in record { one = t.0; above = t.1; below = tt }
lies None (Some r) h k o = let t = before_tail r k in record { one = t.0; above = tt; below = t.1 }
lies (Some l) (Some r) h k o = let t = between_lies l r h k o in record { one = t.segment; above = t.above; below = t.below }

-- where no number is out of range, all are in it
pub none_out : (cs : List ℤ) → first_out cs ≡ None → all_in_range cs ≡ true
none_out [] e = refl
none_out (c ∷ cs) e = by_test (is_in_range c) e (none_out cs)
  where
    by_test : (t : Bool) → cond (not t) (Some c) (first_out cs) ≡ None → (first_out cs ≡ None → all_in_range cs ≡ true) → (t && all_in_range cs) ≡ true
    by_test true e rest = rest e
    by_test false e rest = absurd cc

-- what the neighbours behind references are
abbrev pub now : Option (Bor (List ℤ)) → Option (List ℤ)
now o = option_map (λ s. s.now) o

segments_now : (o : Option (Bor (List ℤ))) → ForSome o (λ s. IsSegment s.now) → IfSome (now o) (λ s. IsTrue (is_segment s))
segments_now None h = tt
segments_now (Some s) h = (h s refl).one

pub made_lies : (l r : Option (Bor (List ℤ))) (x : List ℤ) → ForSome l (λ s. IsSegment s.now) → ForSome r (λ s. IsSegment s.now) → IsOrdered (now l) (now r) → x ≡ between (now l) (now r) → LiesBetween (now l) x (now r)
made_lies l r x h k o e = subst (λ zs. LiesBetween (now l) zs (now r)) (sym e) (lies (now l) (now r) (segments_now l h) (segments_now r k) o)

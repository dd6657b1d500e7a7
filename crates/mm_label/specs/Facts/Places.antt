-- The tests of a search by halving, and what stands at a place of a list in document order.
use Rattle.std.proofs.Common.{inl, inr, ◌≡◌, ℕ, zero, suc, ◌<◌, ◌≤◌, true, false, List, [], ◌∷◌, refl, ap, sym, subst, ◌∙◌, Some, None, length, arith, Ordering, Less, Equal, Greater}
use Rattle.std.specs.Prelude.{slice_index_or, slice_get, AllPairs}
use Rattle.std.specs.List.{AllByRecursion}
use Rattle.std.specs.List.Sorted.{IsStrictlySortedBy}
use Rattle.std.specs.Ordering.{int_cmp, is_le, is_lt, ordering_reverse}
use Rattle.std.specs.Cmp.{int_cmp_total}
use Rattle.std.specs.Cmp.Lexicographic.{slice_cmp, lists_total}
use Rattle.std.proofs.lemmas.Cmp.{tied_itself}
use Rattle.std.proofs.lemmas.Bool.{cases_lt}
use Rattle.std.proofs.lemmas.List.Kept.{AllPairs-cons}
use Rattle.mm_label.specs.Label.{IsBefore}
use Rattle.mm_label.specs.Fronts.{Label, Lt, Within, Ascends, IsAtOrBefore}
use Rattle.mm_label.specs.Facts.Order.{before_lt, lt_before, exact}
use Rattle.mm_label.specs.Facts.Members.{within_of}

pub before_trans : (a b c : Label) → IsBefore a b → IsBefore b c → IsBefore a c
before_trans a b c p q = (lists_total int_cmp_total).trans a b c p q

pub turned : (a b : Label) (o : Ordering) → slice_cmp int_cmp b a ≡ o → slice_cmp int_cmp a b ≡ ordering_reverse o
turned a b o e = (lists_total int_cmp_total).antisymm a b ∙ ap ordering_reverse e

pub le_true : (m v : Label) → is_le (slice_cmp int_cmp m v) ≡ true → IsAtOrBefore m v
le_true m v e = by (slice_cmp int_cmp m v) refl e
  where
    by : (o : Ordering) → slice_cmp int_cmp m v ≡ o → is_le o ≡ true → IsAtOrBefore m v
    by Less h e = inr h
    by Equal h e = inl (exact m v h)
    by Greater h e = absurd cc

pub le_false : (m v : Label) → is_le (slice_cmp int_cmp m v) ≡ false → IsBefore v m
le_false m v e = by (slice_cmp int_cmp m v) refl e
  where
    by : (o : Ordering) → slice_cmp int_cmp m v ≡ o → is_le o ≡ false → IsBefore v m
    by Less h e = absurd cc
    by Equal h e = absurd cc
    by Greater h e = turned v m Greater h

pub true_le : (m v : Label) → IsAtOrBefore m v → is_le (slice_cmp int_cmp m v) ≡ true
true_le m v h = elim h [
  | inl e ↦ subst (λ (x : Label). is_le (slice_cmp int_cmp m x) ≡ true) e (ap is_le (tied_itself (lists_total int_cmp_total) m))
  | inr k ↦ ap is_le k
]

pub lt_true : (m v : Label) → is_lt (slice_cmp int_cmp m v) ≡ true → IsBefore m v
lt_true m v e = by (slice_cmp int_cmp m v) refl e
  where
    by : (o : Ordering) → slice_cmp int_cmp m v ≡ o → is_lt o ≡ true → IsBefore m v
    by Less h e = h
    by Equal h e = absurd cc
    by Greater h e = absurd cc

pub lt_false : (m v : Label) → is_lt (slice_cmp int_cmp m v) ≡ false → IsAtOrBefore v m
lt_false m v e = by (slice_cmp int_cmp m v) refl e
  where
    by : (o : Ordering) → slice_cmp int_cmp m v ≡ o → is_lt o ≡ false → IsAtOrBefore v m
    by Less h e = absurd cc
    by Equal h e = inl (sym (exact m v h))
    by Greater h e = inr (turned v m Greater h)

pub before_not : (a b : Label) → IsBefore a b → IsAtOrBefore b a → ⊥
before_not a b h k = elim k [
  | inl e ↦ (before_lt a b h).1 (sym e)
  | inr q ↦ let t = turned a b Less q in absurd cc
]

-- ---- what stands at a place

pub get_none : (ms : List Label) (i : ℕ) → length ms ≤ i → slice_get ms i ≡ None
get_none [] i h = refl
get_none (m ∷ ms) zero h = absurd (omega arith)
get_none (m ∷ ms) (suc i) h = get_none ms i (omega arith)

pub get_some : (ms : List Label) (i : ℕ) (d : Label) → i < length ms → slice_get ms i ≡ Some (slice_index_or ms i d)
get_some [] i d h = absurd (omega arith)
get_some (m ∷ ms) zero d h = refl
get_some (m ∷ ms) (suc i) d h = get_some ms i d (omega arith)

pub same_at : (ms : List Label) (i : ℕ) (d e : Label) → i < length ms → slice_index_or ms i d ≡ slice_index_or ms i e
same_at [] i d e h = absurd (omega arith)
same_at (m ∷ ms) zero d e h = refl
same_at (m ∷ ms) (suc i) d e h = same_at ms i d e (omega arith)

-- of two places, the earlier has the label at or before
pub at_or_before : (ms : List Label) (i k : ℕ) (d e : Label) → AllPairs IsBefore ms → i ≤ k → k < length ms → IsAtOrBefore (slice_index_or ms i d) (slice_index_or ms k e)
at_or_before ms i k d e a h q = subst (λ (x : Label). IsAtOrBefore (slice_index_or ms i d) x) (same_at ms k d e q) (elim (cases_lt i k) [
  | inl s ↦ inr (a i k d s q)
  | inr s ↦ let t : i ≡ k = omega arith in inl (ap (λ (n : ℕ). slice_index_or ms n d) t)
])

-- ---- lists in document order

pub in_order : (ms : List Label) → Ascends ms → AllPairs IsBefore ms
in_order [] a = λ i j d h k. absurd (omega arith)
in_order (m ∷ ms) a = AllPairs-cons IsBefore m ms (λ k d h. lt_before m (slice_index_or ms k d) (a.0 (slice_index_or ms k d) (within_of (slice_index_or ms k d) ms (k, h, same_at ms k (slice_index_or ms k d) d h)))) (in_order ms a.1)

before_all : (x m : Label) (ms : List Label) → AllByRecursion (λ y. slice_cmp int_cmp x y ≡ Less) ms → Within m ms → Lt x m
before_all x m [] a w = absurd w
before_all x m (y ∷ ms) a w = elim w [ inl e ↦ subst (Lt x) (sym e) (before_lt x y a.0) | inr k ↦ before_all x m ms a.1 k ]

pub sorted_ascends : (ms : List Label) → IsStrictlySortedBy (slice_cmp int_cmp) ms → Ascends ms
unfolding IsStrictlySortedBy
sorted_ascends [] s = tt
sorted_ascends (x ∷ ms) s = ((λ m w. before_all x m ms s.0 w), sorted_ascends ms s.1)

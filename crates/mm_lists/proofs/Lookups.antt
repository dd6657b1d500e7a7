-- A binary search of labels in document order finds the first and the last that are asked for.
use Rattle.std.proofs.Common.{inl, inr, ◌≡◌, ℕ, ◌+◌, ◌-◌, ◌<◌, ◌≤◌, Bool, true, false, List, [], ap, sym, subst, ◌∙◌, Option, Some, None, length, arith}
use Rattle.std.specs.Prelude.{slice_index_or, slice_get, AllPairs}
use Rattle.std.specs.List.{AllWithin}
use Rattle.std.specs.List.Sorted.{IsPartitionedBy, IsPartitionPoint}
use Rattle.std.specs.Ordering.{int_cmp, is_le, is_lt}
use Rattle.std.specs.Cmp.Lexicographic.{slice_cmp}
use Rattle.std.proofs.lemmas.Bool.{cases_lt, or_cases, or_left, or_right, or_parts}
use Rattle.mm_label.specs.Label.{IsBefore}
use Rattle.mm_label.specs.Fronts.{Label, is_front, IsAtOrBefore, IsPast}
use Rattle.mm_lists.specs.Full.{Word}
use Rattle.std.specs.BTreeMap.{BTreeMap}
use Rattle.mm_tree.specs.Trees.{Trees}
use Rattle.mm_tree.specs.Numbering.{Labelled}
use Rattle.mm_tree.specs.Search.{list_of, worded}
use Rattle.mm_tree.specs.KeywordLists.{list_in}
use Rattle.mm_lists.specs.Memory.{is_through, AreOf}
use Rattle.mm_lists.specs.Lists.{IsFirst, IsLast, IsLeft, IsRight, IsNext, IsRightPast}
use Rattle.mm_label.specs.Facts.Fronts.{front_yes, front_no, is_front_of, le_total, between_front}
use Rattle.mm_label.specs.Facts.Order.{before_lt, le_before}
use Rattle.mm_label.specs.Facts.Places.{before_trans, le_true, le_false, true_le, lt_true, lt_false, before_not, get_none, get_some, same_at, at_or_before, in_order}
use Rattle.mm_lists.specs.Facts.Formed.{formed}
use Rattle.mm_lists.specs.Facts.Listed.{list_ascends}

-- ---- the test holds of a first part of the list

parted : (p : Label → Bool) (ms : List Label) → AllPairs IsBefore ms → ((x y : Label) → IsBefore x y → p y ≡ true → p x ≡ true) → IsPartitionedBy p ms
parted p ms a f = λ i j d h k e. elim (cases_lt i j) [
  | inl q ↦ f (slice_index_or ms i d) (slice_index_or ms j d) (a i j d q k) e
  | inr q ↦ let s : j ≡ i = omega arith in subst (λ (n : ℕ). p (slice_index_or ms n d) ≡ true) s e
]

pub up_to_parted : (ms : List Label) (v : Label) → AllPairs IsBefore ms → IsPartitionedBy (λ m. is_le (slice_cmp int_cmp m v)) ms
up_to_parted ms v a = parted (λ m. is_le (slice_cmp int_cmp m v)) ms a
    (λ x y h e. elim (le_true y v e) [ inl q ↦ true_le x v (inr (subst (IsBefore x) q h)) | inr q ↦ true_le x v (inr (before_trans x y v h q)) ])

pub before_parted : (ms : List Label) (v : Label) → AllPairs IsBefore ms → IsPartitionedBy (λ m. is_lt (slice_cmp int_cmp m v)) ms
before_parted ms v a = parted (λ m. is_lt (slice_cmp int_cmp m v)) ms a (λ x y h e. ap is_lt (before_trans x y v h (lt_true y v e)))

pub through_parted : (ms : List Label) (v : Label) → AllPairs IsBefore ms → IsPartitionedBy (is_through v) ms
through_parted ms v a = parted (is_through v) ms a (λ x y h e.
    elim (or_cases (is_le (slice_cmp int_cmp y v)) _ e) [
      | inl q ↦ or_left (is_le (slice_cmp int_cmp x v)) _ (elim (le_true y v q) [ inl s ↦ true_le x v (inr (subst (IsBefore x) s h)) | inr s ↦ true_le x v (inr (before_trans x y v h s)) ])
      | inr q ↦ elim (le_total x v) [
        | inl s ↦ or_left (is_le (slice_cmp int_cmp x v)) _ (true_le x v (le_before x v s))
        | inr s ↦ or_right (is_le (slice_cmp int_cmp x v)) _ (is_front_of v x (between_front v x y s (before_lt x y h).0 (front_yes v y q)))
      ]
    ])

pub up_to_point : (ms : List Label) (v : Label) (i : ℕ) → IsPartitionPoint (λ m. is_le (slice_cmp int_cmp m v) ≡ true) (λ m. is_le (slice_cmp int_cmp m v) ≡ false) ms i
    → IsPartitionPoint (λ m. IsAtOrBefore m v) (λ m. IsBefore v m) ms i
up_to_point ms v i p = (λ k d h q. le_true _ v (p.0 k d h q), λ k d h q. le_false _ v (p.1 k d h q))

pub before_point : (ms : List Label) (v : Label) (i : ℕ) → IsPartitionPoint (λ m. is_lt (slice_cmp int_cmp m v) ≡ true) (λ m. is_lt (slice_cmp int_cmp m v) ≡ false) ms i
    → IsPartitionPoint (λ m. IsBefore m v) (λ m. IsAtOrBefore v m) ms i
before_point ms v i p = (λ k d h q. lt_true _ v (p.0 k d h q), λ k d h q. lt_false _ v (p.1 k d h q))

through_yes : (v m : Label) → is_through v m ≡ true → IsPast v m → ⊥
through_yes v m e h = elim (or_cases (is_le (slice_cmp int_cmp m v)) _ e) [
  | inl q ↦ before_not v m h.0 (le_true m v q)
  | inr q ↦ h.1 (front_yes v m q)
]

through_no : (v m : Label) → is_through v m ≡ false → IsPast v m
through_no v m e =
    let t = or_parts (is_le (slice_cmp int_cmp m v)) (is_front v m) e in
    (le_false m v t.0, front_no v m t.1)

pub through_point : (ms : List Label) (v : Label) (i : ℕ) → IsPartitionPoint (λ m. is_through v m ≡ true) (λ m. is_through v m ≡ false) ms i
    → IsPartitionPoint (λ m. IsPast v m → ⊥) (λ m. IsPast v m) ms i
through_point ms v i p = (λ k d h q. through_yes v _ (p.0 k d h q), λ k d h q. through_no v _ (p.1 k d h q))

pub first_found : (P : Label → Type 0) (ms : List Label) (i : ℕ) (o : Option Label) → AllPairs IsBefore ms → AllWithin (λ m. P m → ⊥) ms 0 i → AllWithin P ms i (length ms) → o ≡ slice_get ms i → IsFirst P ms o
first_found P ms i o a low high e = elim (cases_lt i (length ms)) [
  | inl h ↦ subst (IsFirst P ms) (sym (e ∙ get_some ms i [] h)) (some h)
  | inr h ↦ subst (IsFirst P ms) (sym (e ∙ get_none ms i h)) (λ m c p. low c.0 m (omega arith) (omega (arith, c.1)) (subst P (sym c.2) p))
]
  where
    some : i < length ms → IsFirst P ms (Some (slice_index_or ms i []))
    some h = (
      (i, h, same_at ms i (slice_index_or ms i []) [] h),
      high i [] (omega arith) h,
      λ m c p. elim (cases_lt c.0 i) [
        | inl q ↦ absurd (low c.0 m (omega arith) q (subst P (sym c.2) p))
        | inr q ↦ subst (IsAtOrBefore (slice_index_or ms i [])) c.2 (at_or_before ms i c.0 [] m a q c.1)
      ],
    )

pub last_found : (P : Label → Type 0) (ms : List Label) (i : ℕ) (o : Option Label) → AllPairs IsBefore ms → AllWithin P ms 0 (i + 1) → AllWithin (λ m. P m → ⊥) ms (i + 1) (length ms) → i < length ms → o ≡ slice_get ms i → IsLast P ms o
last_found P ms i o a low high h e = subst (IsLast P ms) (sym (e ∙ get_some ms i [] h)) (
  (i, h, same_at ms i (slice_index_or ms i []) [] h),
  low i [] (omega arith) (omega arith),
  λ m c p. elim (cases_lt i c.0) [
    | inl q ↦ absurd (high c.0 m (omega arith) c.1 (subst P (sym c.2) p))
    | inr q ↦ subst (λ (x : Label). IsAtOrBefore x (slice_index_or ms i [])) c.2 (at_or_before ms c.0 i m [] a q h)
  ],
)

pub none_found : (P : Label → Type 0) (ms : List Label) → AllWithin (λ m. P m → ⊥) ms 0 (length ms) → IsLast P ms None
none_found P ms high = λ m c p. high c.0 m (omega arith) c.1 (subst P (sym c.2) p)

-- ---- keyword lists

-- the list under a word is in document order
list_ordered : (lists : BTreeMap Word (List Label)) (f : Trees Labelled) (w : Word) → AreOf lists f → AllPairs IsBefore (list_of w (worded f))
list_ordered lists f w a = in_order (list_of w (worded f)) (list_ascends [] w (worded f) (formed f a.0))

first_in : (P : Label → Type 0) (lists : BTreeMap Word (List Label)) (f : Trees Labelled) (w : Word) (ms : List Label) (i : ℕ) (o : Option Label) → AreOf lists f → ms ≡ list_in lists w
    → (AllPairs IsBefore ms → IsPartitionPoint (λ m. P m → ⊥) P ms i) → o ≡ slice_get ms i → IsFirst P (list_of w (worded f)) o
first_in P lists f w ms i o a e p q =
    let here = e ∙ a.1 w in
    let order : AllPairs IsBefore ms = subst (AllPairs IsBefore) (sym here) (list_ordered lists f w a) in
    let t = p order in
    subst (λ (list : List Label). IsFirst P list o) here (first_found P ms i o order t.0 t.1 q)

pub next_in : (lists : BTreeMap Word (List Label)) (f : Trees Labelled) (w : Word) (v : Label) (ms : List Label) (i : ℕ) (o : Option Label) → AreOf lists f → ms ≡ list_in lists w
    → (AllPairs IsBefore ms → IsPartitionPoint (λ m. IsAtOrBefore m v) (λ m. IsBefore v m) ms i) → o ≡ slice_get ms i → IsNext (list_of w (worded f)) v o
next_in lists f w v ms i o a e p q = first_in (λ m. IsBefore v m) lists f w ms i o a e (λ s. let t = p s in (λ k d h r b. before_not v _ b (t.0 k d h r), t.1)) q

pub right_in : (lists : BTreeMap Word (List Label)) (f : Trees Labelled) (w : Word) (v : Label) (ms : List Label) (i : ℕ) (o : Option Label) → AreOf lists f → ms ≡ list_in lists w
    → (AllPairs IsBefore ms → IsPartitionPoint (λ m. IsBefore m v) (λ m. IsAtOrBefore v m) ms i) → o ≡ slice_get ms i → IsRight (list_of w (worded f)) v o
right_in lists f w v ms i o a e p q = first_in (λ m. IsAtOrBefore v m) lists f w ms i o a e (λ s. let t = p s in (λ k d h r b. before_not _ v (t.0 k d h r) b, t.1)) q

pub right_past_in : (lists : BTreeMap Word (List Label)) (f : Trees Labelled) (w : Word) (v : Label) (ms : List Label) (i : ℕ) (o : Option Label) → AreOf lists f → ms ≡ list_in lists w
    → (AllPairs IsBefore ms → IsPartitionPoint (λ m. IsPast v m → ⊥) (λ m. IsPast v m) ms i) → o ≡ slice_get ms i → IsRightPast (list_of w (worded f)) v o
right_past_in lists f w v ms i o a e p q = first_in (λ m. IsPast v m) lists f w ms i o a e p q

-- the last of the first count
pub left_in : (lists : BTreeMap Word (List Label)) (f : Trees Labelled) (w : Word) (v : Label) (ms : List Label) (count : ℕ) (o : Option Label) → AreOf lists f → ms ≡ list_in lists w
    → count ≤ length ms → (AllPairs IsBefore ms → IsPartitionPoint (λ m. IsAtOrBefore m v) (λ m. IsBefore v m) ms count) → 0 < count → o ≡ slice_get ms (count - 1) → IsLeft (list_of w (worded f)) v o
left_in lists f w v ms count o a e b p h q =
    let here = e ∙ a.1 w in
    let order : AllPairs IsBefore ms = subst (AllPairs IsBefore) (sym here) (list_ordered lists f w a) in
    let t = p order in
    subst (λ (list : List Label). IsLeft list v o) here
    (last_found (λ m. IsAtOrBefore m v) ms (count - 1) o order (λ k d g r. t.0 k d g (omega arith)) (λ k d g r s. before_not v _ (t.1 k d (omega arith) r) s) (omega arith) q)

pub none_in : (lists : BTreeMap Word (List Label)) (f : Trees Labelled) (w : Word) (v : Label) (ms : List Label) (count : ℕ) → AreOf lists f → ms ≡ list_in lists w
    → (AllPairs IsBefore ms → IsPartitionPoint (λ m. IsAtOrBefore m v) (λ m. IsBefore v m) ms count) → count ≡ 0 → IsLeft (list_of w (worded f)) v None
none_in lists f w v ms count a e p h =
    let here = e ∙ a.1 w in
    let order : AllPairs IsBefore ms = subst (AllPairs IsBefore) (sym here) (list_ordered lists f w a) in
    let t = p order in
    subst (λ (list : List Label). IsLeft list v None) here (none_found (λ m. IsAtOrBefore m v) ms (λ k d g r s. before_not v _ (t.1 k d (omega arith) r) s))

-- The marks of a node, found by halving, and the words that they tell.
use Rattle.std.proofs.Common.{inl, inr, ◌≡◌, ℕ, zero, suc, ◌+◌, ◌<◌, ◌≤◌, Bool, true, false, ◌&&◌, ◌||◌, cond, List, [], ◌∷◌, ◌++◌, refl, ap, ap₂, sym, subst, ◌∙◌, Option, Some, None, length, get_or, drop, ◌^◌, nat_eq, nat_lt, arith, append_assoc, append-nil}
use Rattle.std.specs.Prelude.{slice_get, slice_index_or, filter}
use Rattle.std.specs.List.{list_any}
use Rattle.std.specs.List.Sorted.{IsPartitionedBy, IsPartitionPoint}
use Rattle.std.specs.Ordering.{int_cmp, is_lt}
use Rattle.std.specs.Cmp.Lexicographic.{slice_cmp}
use Rattle.std.proofs.lemmas.List.{drop_all}
use Rattle.std.proofs.lemmas.List.Folds.{list_any-append}
use Rattle.mm_list.specs.Facts.{drop_at}
use Rattle.std.proofs.lemmas.Bool.{and_parts, or_cases, or_left, or_right}
use Rattle.std.proofs.lemmas.Bool.Decides.{nat_tests}
use Rattle.mm_label.specs.Fronts.{Label, Lt, Ordered, Within}
use Rattle.mm_label.specs.Facts.Members.{any_none, any_at, within_joined, within_filter, within_in, in_within}
use Rattle.mm_label.specs.Facts.Ordered.{ordered_joined}
use Rattle.mm_label.specs.Facts.Order.{before_lt, lt_before, lt_is, same_label, label_same}
use Rattle.mm_label.specs.Facts.Places.{before_trans, lt_true}
use Rattle.mm_match.specs.declared.mark.Mark.{Mark}
use Rattle.mm_tree.specs.Search.{has}
use Rattle.mm_tree.specs.Fragments.{Named, bare}
use Rattle.mm_fragment.specs.Matching.{marks_of, matches_of}
use Rattle.mm_fragment.proofs.Words.{twice}
use Rattle.mm_fragment.specs.Inside.Owning.{is_before, is_mark, Precedes, marked_words}

-- ---- the order of marks

is_the_mark : (bit : ℕ) (x : Label) (m : Mark) → is_mark bit x m ≡ true → (m.mask ≡ bit) × (m.label ≡ x)
is_the_mark bit x m e = let p = and_parts (nat_eq m.mask bit) _ e in (grind (arith, nat_tests, p.0), same_label m.label x p.1)

-- it stands before none that it is
before_not : (bit : ℕ) (x : Label) (m : Mark) → is_before bit x m ≡ true → is_mark bit x m ≡ true → ⊥
before_not bit x m b e =
    let p = is_the_mark bit x m e in
    elim (or_cases (nat_lt m.mask bit) _ b) [
      | inl q ↦ let s = p.0 in grind (arith, nat_tests, q, s)
      | inr q ↦ let l = before_lt m.label x (lt_is (slice_cmp int_cmp m.label x) (and_parts (nat_eq m.mask bit) _ q).1) in l.1 p.1
    ]

false_of : (b : Bool) → (b ≡ true → ⊥) → b ≡ false
false_of true n = absurd (n refl)
false_of false n = refl

-- found by halving
pub point_tells : (bit : ℕ) (x : Label) (ms : List Mark) (i : ℕ) → Ordered Precedes ms → IsPartitionPoint (λ m. is_before bit x m ≡ true) (λ m. is_before bit x m ≡ false) ms i
    → (o : Option Mark) → o ≡ slice_get ms i → list_any (is_mark bit x) ms ≡ elim o [ None ↦ false | Some m ↦ is_mark bit x m ]
point_tells bit x [] i d p o e = ap (λ (z : Option Mark). elim z [ None ↦ false | Some m ↦ is_mark bit x m ]) (sym e)
point_tells bit x (m ∷ ms) zero d p o e =
    let n : is_before bit x m ≡ false = p.1 0 m (omega arith) (omega arith) in
    let none : list_any (is_mark bit x) ms ≡ false = any_none (is_mark bit x) ms (λ k w t.
    let q = is_the_mark bit x k t in
    let b : is_before bit x m ≡ true = subst (λ (z : ℕ). is_before z x m ≡ true) q.0 (subst (λ (z : Label). is_before k.mask z m ≡ true) q.1 (d.0 k w)) in
    absurd cc) in
    ap (λ (b : Bool). is_mark bit x m || b) none ∙ or_none (is_mark bit x m) ∙ ap (λ (z : Option Mark). elim z [ None ↦ false | Some k ↦ is_mark bit x k ]) (sym e)
  where
    or_none : (b : Bool) → (b || false) ≡ b
    or_none true = refl
    or_none false = refl
point_tells bit x (m ∷ ms) (suc i) d p o e =
    let b : is_before bit x m ≡ true = p.0 0 m (omega arith) (omega arith) in
    let n : is_mark bit x m ≡ false = false_of (is_mark bit x m) (before_not bit x m b) in
    ap (λ (t : Bool). t || list_any (is_mark bit x) ms) n
    ∙ point_tells bit x ms i d.1 (λ k y h l. p.0 (suc k) y (omega (arith, h)) (omega (arith, l)), λ k y h l. p.1 (suc k) y (omega (arith, h)) (omega (arith, l))) o e

-- ---- what halving asks

precedes_on : (bit : ℕ) (x : Label) (a b : Mark) → Precedes a b → is_before bit x b ≡ true → is_before bit x a ≡ true
precedes_on bit x a b p q = elim (or_cases (nat_lt b.mask bit) _ q) [
  | inl h ↦ or_left (nat_lt a.mask bit) _ (elim (or_cases (nat_lt a.mask b.mask) _ p) [
    | inl k ↦ grind (arith, nat_tests, h, k)
    | inr k ↦ let m = (and_parts (nat_eq a.mask b.mask) _ k).0 in grind (arith, nat_tests, h, m)
  ])
  | inr h ↦
      let s = and_parts (nat_eq b.mask bit) _ h in
      elim (or_cases (nat_lt a.mask b.mask) _ p) [
        | inl k ↦ let m = s.0 in or_left (nat_lt a.mask bit) _ (grind (arith, nat_tests, m, k))
        | inr k ↦
            let t = and_parts (nat_eq a.mask b.mask) _ k in
            let m = s.0 in
            let n = t.0 in
            let l = before_trans a.label b.label x (lt_true a.label b.label t.1) (lt_true b.label x s.1) in
            or_right (nat_lt a.mask bit) _ (both (grind (arith, nat_tests, m, n)) (ap is_lt l))
      ]
]
  where
    both : {c d : Bool} → c ≡ true → d ≡ true → (c && d) ≡ true
    both f g = cc

at_within : (ms : List Mark) (k : ℕ) (d : Mark) → k < length ms → Within (slice_index_or ms k d) ms
at_within [] k d h = absurd (omega arith)
at_within (m ∷ ms) zero d h = inl refl
at_within (m ∷ ms) (suc k) d h = inr (at_within ms k d (omega (arith, h)))

pub precedes_parted : (bit : ℕ) (x : Label) (ms : List Mark) → Ordered Precedes ms → IsPartitionedBy (is_before bit x) ms
precedes_parted bit x [] o = λ i j d h k e. absurd (omega arith)
precedes_parted bit x (m ∷ ms) o = by (precedes_parted bit x ms o.1)
  where
    by : IsPartitionedBy (is_before bit x) ms → (i j : ℕ) (d : Mark) → i ≤ j → j < suc (length ms) → is_before bit x (slice_index_or (m ∷ ms) j d) ≡ true → is_before bit x (slice_index_or (m ∷ ms) i d) ≡ true
    by f zero zero d h k e = e
    by f zero (suc j) d h k e = let w = at_within ms j d (omega (arith, k)) in precedes_on bit x m (slice_index_or ms j d) (o.0 (slice_index_or ms j d) w) e
    by f (suc i) zero d h k e = absurd (omega (arith, h))
    by f (suc i) (suc j) d h k e = f i j d (omega (arith, h)) (omega (arith, k)) e

-- ---- word by word

-- the words so far, and those of the words that are left, are all
pub marked_more : (ws : List (List ℕ)) (i bit : ℕ) (w : List ℕ) (marks : List Mark) (x : Label) (old all : List (List ℕ)) → i < length ws → w ≡ get_or ws i w → bit ≡ 2 ^ i
    → old ++ marked_words (2 ^ i) (drop i ws) marks x ≡ all
    → old ++ (cond (list_any (is_mark bit x) marks) (w ∷ marked_words (2 ^ (i + 1)) (drop (i + 1) ws) marks x) (marked_words (2 ^ (i + 1)) (drop (i + 1) ws) marks x)) ≡ all
marked_more ws i bit w marks x old all h e b g =
    ap (λ (k : ℕ). old ++ cond (list_any (is_mark bit x) marks) (w ∷ marked_words k (drop (i + 1) ws) marks x) (marked_words k (drop (i + 1) ws) marks x)) (sym (twice i))
    ∙ ap (λ (k : ℕ). old ++ cond (list_any (is_mark k x) marks) (w ∷ marked_words (2 ^ i + 2 ^ i) (drop (i + 1) ws) marks x) (marked_words (2 ^ i + 2 ^ i) (drop (i + 1) ws) marks x)) b
    ∙ ap (λ (vs : List (List ℕ)). old ++ marked_words (2 ^ i) vs marks x) (sym (drop_at ws i w h e))
    ∙ g

-- a word with a mark is one more
pub marked_yes : (old new : List (List ℕ)) (w : List ℕ) (rest all : List (List ℕ)) (b : Bool) → b ≡ true → new ≡ old ++ w ∷ [] → old ++ (cond b (w ∷ rest) rest) ≡ all → new ++ rest ≡ all
marked_yes old new w rest all b e n g = ap (λ (z : List (List ℕ)). z ++ rest) n ∙ append_assoc old (w ∷ []) rest ∙ ap (λ (t : Bool). old ++ cond t (w ∷ rest) rest) (sym e) ∙ g

pub marked_no : (old : List (List ℕ)) (w : List ℕ) (rest all : List (List ℕ)) (b : Bool) → b ≡ false → old ++ (cond b (w ∷ rest) rest) ≡ all → old ++ rest ≡ all
marked_no old w rest all b e g = ap (λ (t : Bool). old ++ cond t (w ∷ rest) rest) (sym e) ∙ g

pub marked_ended : (ws : List (List ℕ)) (i : ℕ) (marks : List Mark) (x : Label) (old all : List (List ℕ)) → length ws ≤ i → old ++ marked_words (2 ^ i) (drop i ws) marks x ≡ all → old ≡ all
marked_ended ws i marks x old all h g = sym (append-nil old) ∙ ap (λ (vs : List (List ℕ)). old ++ marked_words (2 ^ i) vs marks x) (sym (drop_all i ws h)) ∙ g

-- ---- the marks of matches

pub within_kept : {A : Type 0} (p : A → Bool) (x : A) (xs : List A) → Within x (filter p xs) → Within x xs
within_kept p x [] w = absurd w
within_kept {A} p x (a ∷ xs) w = by (p a) w (within_kept p x xs)
  where
    by : (b : Bool) → Within x (cond b (a ∷ filter p xs) (filter p xs)) → (Within x (filter p xs) → Within x xs) → Within x (a ∷ xs)
    by true w f = elim w [ inl q ↦ inl q | inr q ↦ inr (f q) ]
    by false w f = inr (f w)

kept_within : {A : Type 0} (p : A → Bool) (x : A) (xs : List A) → Within x xs → p x ≡ true → Within x (filter p xs)
kept_within p x [] w h = absurd w
kept_within {A} p x (a ∷ xs) w h = by (p a) refl w (λ k. kept_within p x xs k h)
  where
    by : (b : Bool) → p a ≡ b → Within x (a ∷ xs) → (Within x xs → Within x (filter p xs)) → Within x (cond b (a ∷ filter p xs) (filter p xs))
    by true e w f = elim w [ inl q ↦ inl q | inr q ↦ inr (f q) ]
    by false e w f = elim w [ inl q ↦ (let z = subst (λ (y : A). p y ≡ true) q h in absurd cc) | inr q ↦ f q ]

abbrev Word : Type 0
Word = List ℕ

-- the nodes that hold the word, each with the bit
abbrev run : ℕ → Word → List Named → List Mark
run bit w es = marks_of bit (filter (λ e. has (bare e) w) es)

record IsOf (bit : ℕ) (w : Word) (es : List Named) (m : Mark) : Type 0 where
  bit_is : m.mask ≡ bit
  holder : Named
  listed : Within holder es
  holds : has (bare holder) w ≡ true
  label_is : m.label ≡ holder.label

in_run : (bit : ℕ) (w : Word) (es : List Named) (m : Mark) → Within m (run bit w es) → IsOf bit w es m
in_run bit w es m i =
    let t = within_in (λ (e : Named). record { label = e.label; mask = bit }) m (filter (λ e. has (bare e) w) es) i in
    record {
      bit_is = ap (λ (k : Mark). k.mask) t.2;
      holder = t.0;
      listed = within_kept (λ e. has (bare e) w) t.0 es t.1;
      holds = within_filter (λ e. has (bare e) w) t.0 es t.1;
      label_is = ap (λ (k : Mark). k.label) t.2;
    }

-- later words have higher bits
masks_from : (bit : ℕ) (query : List Word) (es : List Named) (m : Mark) → Within m (matches_of bit query es) → bit ≤ m.mask
masks_from bit [] es m w = absurd w
masks_from bit (v ∷ query) es m w = elim (within_joined m (run bit v es) (matches_of (bit + bit) query es) w) [
  | inl k ↦ let e = (in_run bit v es m k).bit_is in omega (arith, e)
  | inr k ↦ let l = masks_from (bit + bit) query es m k in omega (arith, l)
]

-- the nodes stand in document order
abbrev pub Ascending : List Named → Type 0
Ascending = Ordered (λ (d e : Named). Lt d.label e.label)

bit_precedes : (a b : Mark) → a.mask < b.mask → Precedes a b
bit_precedes a b h = or_left (nat_lt a.mask b.mask) _ (grind (arith, nat_tests, h))

label_precedes : (a b : Mark) → a.mask ≡ b.mask → Lt a.label b.label → Precedes a b
label_precedes a b e l = or_right (nat_lt a.mask b.mask) _ (both (grind (arith, nat_tests, e)) (ap is_lt (lt_before a.label b.label l)))
  where
    both : {c d : Bool} → c ≡ true → d ≡ true → (c && d) ≡ true
    both f g = cc

run_precedes : (bit : ℕ) (w : Word) (es : List Named) → Ascending es → Ordered Precedes (run bit w es)
run_precedes bit w [] o = tt
run_precedes bit w (e ∷ es) o = by (has (bare e) w) (run_precedes bit w es o.1)
  where
    by : (b : Bool) → Ordered Precedes (run bit w es) → Ordered Precedes (marks_of bit (cond b (e ∷ filter (λ d. has (bare d) w) es) (filter (λ d. has (bare d) w) es)))
    by true r = (λ m i. let t = in_run bit w es m i in label_precedes (record { label = e.label; mask = bit }) m (sym t.bit_is) (subst (Lt e.label) (sym t.label_is) (o.0 t.holder t.listed)), r)
    by false r = r

pub matches_precede : (bit : ℕ) (query : List Word) (es : List Named) → 0 < bit → Ascending es → Ordered Precedes (matches_of bit query es)
matches_precede bit [] es h o = tt
matches_precede bit (w ∷ query) es h o = ordered_joined Precedes (run bit w es) (matches_of (bit + bit) query es) (run_precedes bit w es o) (matches_precede (bit + bit) query es (omega (arith, h)) o)
    (λ a b p q. let s = (in_run bit w es a p).bit_is in let t = masks_from (bit + bit) query es b q in bit_precedes a b (omega (arith, s, t, h)))

-- ---- what a node's marks tell

same_node : (es : List Named) (d e : Named) → Ascending es → Within d es → Within e es → d.label ≡ e.label → d ≡ e
same_node [] d e o v w q = absurd v
same_node (n ∷ es) d e o v w q = elim v [
  | inl a ↦ elim w [ inl b ↦ a ∙ sym b | inr b ↦ (let l = o.0 e b in absurd (l.1 (sym (ap (λ (k : Named). k.label) a) ∙ q))) ]
  | inr a ↦ elim w [ inl b ↦ (let l = o.0 d a in absurd (l.1 (sym (ap (λ (k : Named). k.label) b) ∙ sym q))) | inr b ↦ same_node es d e o.1 a b q ]
]

its_mark : (bit : ℕ) (x : Label) → is_mark bit x (record { label = x; mask = bit }) ≡ true
its_mark bit x = both (grind (arith, nat_tests)) (label_same x x refl)
  where
    both : {c d : Bool} → c ≡ true → d ≡ true → (c && d) ≡ true
    both f g = cc

run_tells : (bit : ℕ) (w : Word) (es : List Named) (d : Named) → Ascending es → Within d es → list_any (is_mark bit d.label) (run bit w es) ≡ has (bare d) w
run_tells bit w es d o i = by (has (bare d) w) refl
  where
    by : (b : Bool) → has (bare d) w ≡ b → list_any (is_mark bit d.label) (run bit w es) ≡ b
    by true h = any_at (is_mark bit d.label) (record { label = d.label; mask = bit }) (run bit w es)
        (in_within (λ (e : Named). record { label = e.label; mask = bit }) d (filter (λ e. has (bare e) w) es) (kept_within (λ e. has (bare e) w) d es i h)) (its_mark bit d.label)
    by false h = any_none (is_mark bit d.label) (run bit w es) (λ m k t.
        let r = in_run bit w es m k in
        let s = is_the_mark bit d.label m t in
        let same = same_node es r.holder d o r.listed i (sym r.label_is ∙ s.1) in
        let z = subst (λ (n : Named). has (bare n) w ≡ true) same r.holds in
        absurd cc)

none_below : (bit : ℕ) (x : Label) (ms : List Mark) → ((m : Mark) → Within m ms → m.mask < bit) → list_any (is_mark bit x) ms ≡ false
none_below bit x ms low = any_none (is_mark bit x) ms (λ m k t. let s = (is_the_mark bit x m t).0 in let l = low m k in omega (arith, s, l))

none_above : (bit : ℕ) (x : Label) (ms : List Mark) → ((m : Mark) → Within m ms → bit < m.mask) → list_any (is_mark bit x) ms ≡ false
none_above bit x ms high = any_none (is_mark bit x) ms (λ m k t. let s = (is_the_mark bit x m t).0 in let l = high m k in omega (arith, s, l))

own_from : (bit : ℕ) (query : List Word) (es : List Named) (d : Named) (front : List Mark) → 0 < bit → Ascending es → Within d es → ((m : Mark) → Within m front → m.mask < bit)
    → marked_words bit query (front ++ matches_of bit query es) d.label ≡ filter (has (bare d)) query
own_from bit [] es d front h o i low = refl
own_from bit (w ∷ query) es d front h o i low =
    let x = d.label in
    let rest = matches_of (bit + bit) query es in
    let told : list_any (is_mark bit x) (front ++ (run bit w es ++ rest)) ≡ has (bare d) w =
    list_any-append (is_mark bit x) front (run bit w es ++ rest)
    ∙ ap₂ (λ (a b : Bool). a || b) (none_below bit x front low)
    (list_any-append (is_mark bit x) (run bit w es) rest ∙ ap₂ (λ (a b : Bool). a || b) (run_tells bit w es d o i) (none_above bit x rest (λ m k. let l = masks_from (bit + bit) query es m k in omega (arith, l, h))))
    ∙ or_false (has (bare d) w) in
    let later : marked_words (bit + bit) query (front ++ (run bit w es ++ rest)) x ≡ filter (has (bare d)) query =
    ap (λ (ms : List Mark). marked_words (bit + bit) query ms x) (sym (append_assoc front (run bit w es) rest))
    ∙ own_from (bit + bit) query es d (front ++ run bit w es) (omega (arith, h)) o i (λ m k. elim (within_joined m front (run bit w es) k) [
      | inl q ↦ let l = low m q in omega (arith, l)
      | inr q ↦ let e = (in_run bit w es m q).bit_is in omega (arith, e, h)
    ]) in
    ap (λ (b : Bool). cond b (w ∷ marked_words (bit + bit) query (front ++ (run bit w es ++ rest)) x) (marked_words (bit + bit) query (front ++ (run bit w es ++ rest)) x)) told
    ∙ ap (λ (ws : List Word). cond (has (bare d) w) (w ∷ ws) ws) later
  where
    or_false : (b : Bool) → (false || (b || false)) ≡ b
    or_false true = refl
    or_false false = refl

-- they are the words that the node holds itself
pub marks_are_own : (query : List Word) (es : List Named) (d : Named) → Ascending es → Within d es → marked_words 1 query (matches_of 1 query es) d.label ≡ filter (has (bare d)) query
marks_are_own query es d o i = own_from 1 query es d [] (omega arith) o i (λ m k. absurd k)

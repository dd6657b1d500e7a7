-- Keys and their order, and entries in front of a key and behind it.
use Rattle.std.proofs.Common.{◌≡◌, ℕ, suc, ◌+◌, ◌≤◌, ◌<◌, Bool, true, false, cond, List, [], ◌∷◌, ◌++◌, length, get_or, Some, None, Ordering, Less, Equal, Greater, refl, sym, ap, ◌∙◌, subst, arith, true≢false}
use Rattle.std.specs.Ordering.{nat_cmp, is_lt, is_eq, ordering_reverse}
use Rattle.std.specs.Cmp.Lexicographic.{slice_cmp}
use Rattle.std.specs.Str.{bytes_eq}
use Rattle.std.specs.List.{insert, remove}
use Rattle.std.proofs.Math.ListN.{set}
use Rattle.std.proofs.lemmas.Cmp.{nat_list_cmp_total}
use Rattle.std.proofs.lemmas.Map.Text.{is_eq-slice_cmp}
use Rattle.std.proofs.lemmas.Slice.Eq.{bytes_eq-Decides}
use Rattle.mm_keeper.specs.Entries.{AllBelow, Entries, below, IsBelow, Rises, rank, has, lookup, put, without}

is_less : (o : Ordering) → is_lt o ≡ true → o ≡ Less
is_less Less h = refl
is_less Equal h = absurd cc
is_less Greater h = absurd cc

pub below_chain : (a b c : List ℕ) → below a b ≡ true → below b c ≡ true → below a c ≡ true
below_chain a b c h k = ap is_lt (nat_list_cmp_total.trans a b c (is_less _ h) (is_less _ k))

pub not_above : (a b : List ℕ) → below a b ≡ true → below b a ≡ false
not_above a b h = ap is_lt (nat_list_cmp_total.antisymm b a ∙ ap ordering_reverse (is_less _ h))

-- what isn't below b is above all that is
pub below_from : (a b c : List ℕ) → below a b ≡ true → below c b ≡ false → below a c ≡ true
below_from a b c h k = by (slice_cmp nat_cmp c b) refl k
  where
    by : (o : Ordering) → slice_cmp nat_cmp c b ≡ o → is_lt o ≡ false → below a c ≡ true
    by Less e l = absurd cc
    by Equal e l = ap is_lt (nat_list_cmp_total.antisymm a c ∙ ap ordering_reverse (nat_list_cmp_total.congr c b a e ∙ nat_list_cmp_total.antisymm b a ∙ ap ordering_reverse (is_less _ h)))
    by Greater e l = ap is_lt (nat_list_cmp_total.trans a b c (is_less _ h) (nat_list_cmp_total.antisymm b c ∙ ap ordering_reverse e))

-- a key that isn't above another is below all that the other is below
pub from_below : (a b c : List ℕ) → below a b ≡ false → below a c ≡ true → below b c ≡ true
from_below a b c h k = by (slice_cmp nat_cmp a b) refl h
  where
    by : (o : Ordering) → slice_cmp nat_cmp a b ≡ o → is_lt o ≡ false → below b c ≡ true
    by Less e l = absurd cc
    by Equal e l = ap is_lt (sym (nat_list_cmp_total.congr a b c e)) ∙ k
    by Greater e l = below_chain b a c (ap is_lt (nat_list_cmp_total.antisymm b a ∙ ap ordering_reverse e)) k

-- ---- in front of a key, and behind it

pub put-front : (k v : List ℕ) (xs m : Entries) → AllBelow xs k → put (xs ++ m) k v ≡ xs ++ put m k v
put-front k v [] m h = refl
put-front k v (e ∷ xs) m h = rw (h.0) (ap (λ t. e ∷ t) (put-front k v xs m h.1))

pub without-front : (k : List ℕ) (xs m : Entries) → AllBelow xs k → without (xs ++ m) k ≡ xs ++ without m k
without-front k [] m h = refl
without-front k (e ∷ xs) m h = rw (h.0) (ap (λ t. e ∷ t) (without-front k xs m h.1))

pub has-front : (k : List ℕ) (xs m : Entries) → AllBelow xs k → has (xs ++ m) k ≡ has m k
has-front k [] m h = refl
has-front k (e ∷ xs) m h = rw (h.0) (has-front k xs m h.1)

pub lookup-front : (k : List ℕ) (xs m : Entries) → AllBelow xs k → lookup (xs ++ m) k ≡ lookup m k
lookup-front k [] m h = refl
lookup-front k (e ∷ xs) m h = rw (h.0) (lookup-front k xs m h.1)

pub rank-front : (k : List ℕ) (xs m : Entries) → AllBelow xs k → rank (xs ++ m) k ≡ length xs + rank m k
rank-front k [] m h = omega arith
rank-front k (e ∷ xs) m h = rw (h.0) (grind (arith, rank-front k xs m h.1))

pub no_more : (a b : List ℕ) → below a b ≡ true → bytes_eq b a ≡ false
no_more a b h = sym (is_eq-slice_cmp b a) ∙ by (slice_cmp nat_cmp b a) (nat_list_cmp_total.antisymm b a ∙ ap ordering_reverse (is_less _ h))
  where
    by : (o : Ordering) → o ≡ Greater → is_eq o ≡ false
    by o e = ap is_eq e

pub put-back : (k v : List ℕ) (ys zs : Entries) → IsBelow k zs → put (ys ++ zs) k v ≡ put ys k v ++ zs
put-back k v [] [] h = refl
put-back k v [] (e ∷ zs) h = rw (not_above k e.0 h.0, no_more k e.0 h.0) refl
put-back k v (e ∷ ys) zs h = by (below e.0 k) (bytes_eq e.0 k) (put-back k v ys zs h)
  where
    by : (b c : Bool) → put (ys ++ zs) k v ≡ put ys k v ++ zs → cond b (e ∷ put (ys ++ zs) k v) ((k, v) ∷ cond c (ys ++ zs) (e ∷ (ys ++ zs))) ≡ cond b (e ∷ put ys k v) ((k, v) ∷ cond c ys (e ∷ ys)) ++ zs
    by true c i = ap (λ t. e ∷ t) i
    by false true i = refl
    by false false i = refl

pub without-back : (k : List ℕ) (ys zs : Entries) → IsBelow k zs → without (ys ++ zs) k ≡ without ys k ++ zs
without-back k [] [] h = refl
without-back k [] (e ∷ zs) h = rw (not_above k e.0 h.0, no_more k e.0 h.0) refl
without-back k (e ∷ ys) zs h = by (below e.0 k) (bytes_eq e.0 k) (without-back k ys zs h)
  where
    by : (b c : Bool) → without (ys ++ zs) k ≡ without ys k ++ zs → cond b (e ∷ without (ys ++ zs) k) (cond c (ys ++ zs) (e ∷ (ys ++ zs))) ≡ cond b (e ∷ without ys k) (cond c ys (e ∷ ys)) ++ zs
    by true c i = ap (λ t. e ∷ t) i
    by false true i = refl
    by false false i = refl

pub has-back : (k : List ℕ) (ys zs : Entries) → IsBelow k zs → has (ys ++ zs) k ≡ has ys k
has-back k [] [] h = refl
has-back k [] (e ∷ zs) h = rw (not_above k e.0 h.0, no_more k e.0 h.0) refl
has-back k (e ∷ ys) zs h = ap (λ t. cond (below e.0 k) t (bytes_eq e.0 k)) (has-back k ys zs h)

pub lookup-back : (k : List ℕ) (ys zs : Entries) → IsBelow k zs → lookup (ys ++ zs) k ≡ lookup ys k
lookup-back k [] [] h = refl
lookup-back k [] (e ∷ zs) h = rw (not_above k e.0 h.0, no_more k e.0 h.0) refl
lookup-back k (e ∷ ys) zs h = ap (λ t. cond (below e.0 k) t (cond (bytes_eq e.0 k) (Some e.1) None)) (lookup-back k ys zs h)

pub rank-back : (k : List ℕ) (ys zs : Entries) → IsBelow k zs → rank (ys ++ zs) k ≡ rank ys k
rank-back k [] [] h = refl
rank-back k [] (e ∷ zs) h = rw (not_above k e.0 h.0) refl
rank-back k (e ∷ ys) zs h = ap (λ t. cond (below e.0 k) (suc t) 0) (rank-back k ys zs h)

-- ---- facts of all entries

pub IsBelow-parts : (k : List ℕ) (xs ys : Entries) → IsBelow k (xs ++ ys) → IsBelow k xs × IsBelow k ys
IsBelow-parts k [] ys h = (tt, h)
IsBelow-parts k (e ∷ xs) ys h = ((h.0, (IsBelow-parts k xs ys h.1).0), (IsBelow-parts k xs ys h.1).1)

pub AllBelow-app : (k : List ℕ) (xs ys : Entries) → AllBelow xs k → AllBelow ys k → AllBelow (xs ++ ys) k
AllBelow-app k [] ys h i = i
AllBelow-app k (e ∷ xs) ys h i = (h.0, AllBelow-app k xs ys h.1 i)

pub Rises-parts : (xs ys : Entries) → Rises (xs ++ ys) → Rises xs × Rises ys
Rises-parts [] ys h = (tt, h)
Rises-parts (e ∷ xs) ys h = (((IsBelow-parts e.0 xs ys h.0).0, (Rises-parts xs ys h.1).0), (Rises-parts xs ys h.1).1)

pub IsBelow-put : (a k v : List ℕ) (m : Entries) → below a k ≡ true → IsBelow a m → IsBelow a (put m k v)
IsBelow-put a k v [] h i = (h, tt)
IsBelow-put a k v (e ∷ m) h i = by (below e.0 k) (bytes_eq e.0 k) (IsBelow-put a k v m h i.1)
  where
    by : (c d : Bool) → IsBelow a (put m k v) → IsBelow a (cond c (e ∷ put m k v) ((k, v) ∷ cond d m (e ∷ m)))
    by true d t = (i.0, t)
    by false true t = (h, i.1)
    by false false t = (h, i)

pub IsBelow-without : (a k : List ℕ) (m : Entries) → IsBelow a m → IsBelow a (without m k)
IsBelow-without a k [] i = tt
IsBelow-without a k (e ∷ m) i = by (below e.0 k) (bytes_eq e.0 k) (IsBelow-without a k m i.1)
  where
    by : (c d : Bool) → IsBelow a (without m k) → IsBelow a (cond c (e ∷ without m k) (cond d m (e ∷ m)))
    by true d t = (i.0, t)
    by false true t = i.1
    by false false t = i

-- where neither is below the other they are one
pub no_order : (a b : List ℕ) → below a b ≡ false → bytes_eq a b ≡ false → below b a ≡ true
no_order a b h i = by (slice_cmp nat_cmp a b) refl h (is_eq-slice_cmp a b ∙ i)
  where
    by : (o : Ordering) → slice_cmp nat_cmp a b ≡ o → is_lt o ≡ false → is_eq o ≡ false → below b a ≡ true
    by Less e l q = absurd cc
    by Equal e l q = absurd cc
    by Greater e l q = ap is_lt (nat_list_cmp_total.antisymm b a ∙ ap ordering_reverse e)

pub IsBelow-less : (a b : List ℕ) (m : Entries) → below a b ≡ true → IsBelow b m → IsBelow a m
IsBelow-less a b [] h i = tt
IsBelow-less a b (e ∷ m) h i = (below_chain a b e.0 h i.0, IsBelow-less a b m h i.1)

pub IsBelow-same : (a b : List ℕ) (m : Entries) → bytes_eq b a ≡ true → IsBelow b m → IsBelow a m
IsBelow-same a b m h i = subst (λ x. IsBelow x m) ((bytes_eq-Decides b a).0 h) i

pub Rises-put : (k v : List ℕ) (m : Entries) → Rises m → Rises (put m k v)
Rises-put k v [] i = (tt, tt)
Rises-put k v (e ∷ m) i = by (below e.0 k) (bytes_eq e.0 k) refl refl (Rises-put k v m i.1)
  where
    by : (c d : Bool) → below e.0 k ≡ c → bytes_eq e.0 k ≡ d → Rises (put m k v) → Rises (cond c (e ∷ put m k v) ((k, v) ∷ cond d m (e ∷ m)))
    by true d p q t = (IsBelow-put e.0 k v m p i.0, t)
    by false true p q t = (IsBelow-same k e.0 m q i.0, i.1)
    by false false p q t = ((no_order e.0 k p q, IsBelow-less k e.0 m (no_order e.0 k p q) i.0), i)

pub Rises-without : (k : List ℕ) (m : Entries) → Rises m → Rises (without m k)
Rises-without k [] i = tt
Rises-without k (e ∷ m) i = by (below e.0 k) (bytes_eq e.0 k) (Rises-without k m i.1)
  where
    by : (c d : Bool) → Rises (without m k) → Rises (cond c (e ∷ without m k) (cond d m (e ∷ m)))
    by true d t = (IsBelow-without e.0 k m i.0, t)
    by false true t = i.1
    by false false t = i

-- ---- by place

pub rank_at_most : (k : List ℕ) (m : Entries) → rank m k ≤ length m
rank_at_most k [] = omega arith
rank_at_most k (e ∷ m) = by (below e.0 k) (rank_at_most k m)
  where
    by : (b : Bool) → rank m k ≤ length m → cond b (suc (rank m k)) 0 ≤ suc (length m)
    by true h = omega (arith, h)
    by false h = omega arith

pub has-in : (k : List ℕ) (m : Entries) (d : List ℕ × List ℕ) → rank m k < length m → has m k ≡ bytes_eq (get_or m (rank m k) d).0 k
has-in k [] d l = absurd (omega (arith, l))
has-in k (e ∷ m) d l = by (below e.0 k) (λ h. has-in k m d h) l
  where
    by : (b : Bool) → (rank m k < length m → has m k ≡ bytes_eq (get_or m (rank m k) d).0 k) → cond b (suc (rank m k)) 0 < suc (length m)
        → cond b (has m k) (bytes_eq e.0 k) ≡ bytes_eq (get_or (e ∷ m) (cond b (suc (rank m k)) 0) d).0 k
    by true i h = i (omega (arith, h))
    by false i h = refl

pub has-out : (k : List ℕ) (m : Entries) → length m ≤ rank m k → has m k ≡ false
has-out k [] l = refl
has-out k (e ∷ m) l = by (below e.0 k) (λ h. has-out k m h) l
  where
    by : (b : Bool) → (length m ≤ rank m k → has m k ≡ false) → suc (length m) ≤ cond b (suc (rank m k)) 0 → cond b (has m k) (bytes_eq e.0 k) ≡ false
    by true i h = i (omega (arith, h))
    by false i h = absurd (omega (arith, h))

pub put-at : (k v : List ℕ) (m : Entries) → (has m k ≡ true → put m k v ≡ set m (rank m k) (k, v)) × (has m k ≡ false → put m k v ≡ insert m (rank m k) (k, v))
put-at k v [] = ((λ h. absurd (true≢false (sym h))), (λ h. refl))
put-at k v (e ∷ m) = by (below e.0 k) (bytes_eq e.0 k) (put-at k v m)
  where
    by : (b c : Bool) → ((has m k ≡ true → put m k v ≡ set m (rank m k) (k, v)) × (has m k ≡ false → put m k v ≡ insert m (rank m k) (k, v)))
        → (cond b (has m k) c ≡ true → cond b (e ∷ put m k v) ((k, v) ∷ cond c m (e ∷ m)) ≡ set (e ∷ m) (cond b (suc (rank m k)) 0) (k, v))
        × (cond b (has m k) c ≡ false → cond b (e ∷ put m k v) ((k, v) ∷ cond c m (e ∷ m)) ≡ insert (e ∷ m) (cond b (suc (rank m k)) 0) (k, v))
    by true c i = ((λ h. ap (λ t. e ∷ t) (i.0 h)), (λ h. ap (λ t. e ∷ t) (i.1 h)))
    by false true i = ((λ h. refl), (λ h. absurd (true≢false h)))
    by false false i = ((λ h. absurd (true≢false (sym h))), (λ h. refl))

pub without-at : (k : List ℕ) (m : Entries) → (has m k ≡ true → without m k ≡ remove m (rank m k)) × (has m k ≡ false → without m k ≡ m)
without-at k [] = ((λ h. absurd (true≢false (sym h))), (λ h. refl))
without-at k (e ∷ m) = by (below e.0 k) (bytes_eq e.0 k) (without-at k m)
  where
    by : (b c : Bool) → ((has m k ≡ true → without m k ≡ remove m (rank m k)) × (has m k ≡ false → without m k ≡ m))
        → (cond b (has m k) c ≡ true → cond b (e ∷ without m k) (cond c m (e ∷ m)) ≡ remove (e ∷ m) (cond b (suc (rank m k)) 0))
        × (cond b (has m k) c ≡ false → cond b (e ∷ without m k) (cond c m (e ∷ m)) ≡ e ∷ m)
    by true c i = ((λ h. ap (λ t. e ∷ t) (i.0 h)), (λ h. ap (λ t. e ∷ t) (i.1 h)))
    by false true i = ((λ h. refl), (λ h. absurd (true≢false h)))
    by false false i = ((λ h. absurd (true≢false (sym h))), (λ h. refl))

pub lookup-at : (k : List ℕ) (m : Entries) (d : List ℕ × List ℕ) → (has m k ≡ true → lookup m k ≡ Some (get_or m (rank m k) d).1) × (has m k ≡ false → lookup m k ≡ None)
lookup-at k [] d = ((λ h. absurd (true≢false (sym h))), (λ h. refl))
lookup-at k (e ∷ m) d = by (below e.0 k) (bytes_eq e.0 k) (lookup-at k m d)
  where
    by : (b c : Bool) → ((has m k ≡ true → lookup m k ≡ Some (get_or m (rank m k) d).1) × (has m k ≡ false → lookup m k ≡ None))
        → (cond b (has m k) c ≡ true → cond b (lookup m k) (cond c (Some e.1) None) ≡ Some (get_or (e ∷ m) (cond b (suc (rank m k)) 0) d).1)
        × (cond b (has m k) c ≡ false → cond b (lookup m k) (cond c (Some e.1) None) ≡ None)
    by true c i = i
    by false true i = ((λ h. refl), (λ h. absurd (true≢false h)))
    by false false i = ((λ h. absurd (true≢false (sym h))), (λ h. refl))

pub has-some : (k w : List ℕ) (m : Entries) → lookup m k ≡ Some w → has m k ≡ true
has-some k w [] h = absurd cc
has-some k w (e ∷ m) h = by (below e.0 k) (bytes_eq e.0 k) (λ q. has-some k w m q) h
  where
    by : (b c : Bool) → (lookup m k ≡ Some w → has m k ≡ true) → cond b (lookup m k) (cond c (Some e.1) None) ≡ Some w → cond b (has m k) c ≡ true
    by true c i q = i q
    by false true i q = refl
    by false false i q = absurd cc

pub has-none : (k : List ℕ) (m : Entries) → lookup m k ≡ None → has m k ≡ false
has-none k [] h = refl
has-none k (e ∷ m) h = by (below e.0 k) (bytes_eq e.0 k) (λ q. has-none k m q) h
  where
    by : (b c : Bool) → (lookup m k ≡ None → has m k ≡ false) → cond b (lookup m k) (cond c (Some e.1) None) ≡ None → cond b (has m k) c ≡ false
    by true c i q = i q
    by false true i q = absurd cc
    by false false i q = refl

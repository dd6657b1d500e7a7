-- What was noted of a change takes it back.
use Rattle.std.proofs.Common.{◌≡◌, ℕ, Bool, true, false, cond, List, [], ◌∷◌, ◌++◌, Option, Some, None, Ordering, Less, Equal, Greater, refl, sym, ap, ◌∙◌, subst}
use Rattle.std.specs.Str.{bytes_eq}
use Rattle.std.specs.Ordering.{nat_cmp, is_lt, is_eq}
use Rattle.std.specs.Cmp.Lexicographic.{slice_cmp}
use Rattle.std.proofs.lemmas.Map.Text.{is_eq-slice_cmp}
use Rattle.std.proofs.lemmas.Slice.Eq.{bytes_eq-Decides}
use Rattle.mm_keeper.specs.Entries.{Entries, below, IsBelow, Rises, lookup, put, without}
use Rattle.mm_keeper.specs.Inside.Olds.{put_back, before_all}
use Rattle.mm_keeper.specs.Facts.Keys.{put-back}

bytes_same : (k : List ℕ) → bytes_eq k k ≡ true
bytes_same k = (bytes_eq-Decides k k).1 refl

below_same : (k : List ℕ) → below k k ≡ false
below_same k = by (slice_cmp nat_cmp k k) (is_eq-slice_cmp k k ∙ bytes_same k)
  where
    by : (o : Ordering) → is_eq o ≡ true → is_lt o ≡ false
    by Less e = absurd cc
    by Equal e = refl
    by Greater e = absurd cc

-- where a key stands first
put_first : (k v w : List ℕ) (m : Entries) → put ((k, v) ∷ m) k w ≡ (k, w) ∷ m
put_first k v w m = rw (below_same k, bytes_same k) refl

without_first : (k v : List ℕ) (m : Entries) → without ((k, v) ∷ m) k ≡ m
without_first k v m = rw (below_same k, bytes_same k) refl

front : (e : List ℕ × List ℕ) (m : Entries) (k : List ℕ) (o : Option (List ℕ)) → below e.0 k ≡ true → put_back (e ∷ m) k o ≡ e ∷ put_back m k o
front e m k None h = rw h refl
front e m k (Some v) h = rw h refl

pub put_back-put : (k v : List ℕ) (m : Entries) → put_back (put m k v) k (lookup m k) ≡ m
put_back-put k v [] = without_first k v []
put_back-put k v (e ∷ m) = by (below e.0 k) (bytes_eq e.0 k) refl refl (put_back-put k v m)
  where
    by : (b c : Bool) → below e.0 k ≡ b → bytes_eq e.0 k ≡ c → put_back (put m k v) k (lookup m k) ≡ m
        → put_back (cond b (e ∷ put m k v) ((k, v) ∷ cond c m (e ∷ m))) k (cond b (lookup m k) (cond c (Some e.1) None)) ≡ e ∷ m
    by true c p q i = front e (put m k v) k (lookup m k) p ∙ ap (λ t. e ∷ t) i
    by false true p q i = put_first k v e.1 m ∙ ap (λ t. (t, e.1) ∷ m) (sym ((bytes_eq-Decides e.0 k).0 q))
    by false false p q i = without_first k v (e ∷ m)

pub put_back-without : (k : List ℕ) (m : Entries) → Rises m → put_back (without m k) k (lookup m k) ≡ m
put_back-without k [] r = refl
put_back-without k (e ∷ m) r = by (below e.0 k) (bytes_eq e.0 k) refl refl (put_back-without k m r.1)
  where
    by : (b c : Bool) → below e.0 k ≡ b → bytes_eq e.0 k ≡ c → put_back (without m k) k (lookup m k) ≡ m
        → put_back (cond b (e ∷ without m k) (cond c m (e ∷ m))) k (cond b (lookup m k) (cond c (Some e.1) None)) ≡ e ∷ m
    by true c p q i = front e (without m k) k (lookup m k) p ∙ ap (λ t. e ∷ t) i
    by false true p q i =
        let same = (bytes_eq-Decides e.0 k).0 q in
        put-back k e.1 [] m (subst (λ t. IsBelow t m) same r.0) ∙ ap (λ t. (t, e.1) ∷ m) (sym same)
    by false false p q i = rw (p, q) refl

pub before_all-push : (m : Entries) (cs : List (List ℕ × Option (List ℕ))) (c : List ℕ × Option (List ℕ)) → before_all m (cs ++ c ∷ []) ≡ before_all (put_back m c.0 c.1) cs
before_all-push m [] c = refl
before_all-push m (x ∷ cs) c = ap (λ t. put_back t x.0 x.1) (before_all-push m cs c)

-- one more change, whose old value is noted
pub noted-put : (k v : List ℕ) (m : Entries) (cs : List (List ℕ × Option (List ℕ))) → before_all (put m k v) (cs ++ (k, lookup m k) ∷ []) ≡ before_all m cs
noted-put k v m cs = before_all-push (put m k v) cs (k, lookup m k) ∙ ap (λ t. before_all t cs) (put_back-put k v m)

pub noted-without : (k : List ℕ) (m : Entries) (cs : List (List ℕ × Option (List ℕ))) → Rises m → before_all (without m k) (cs ++ (k, lookup m k) ∷ []) ≡ before_all m cs
noted-without k m cs r = before_all-push (without m k) cs (k, lookup m k) ∙ ap (λ t. before_all t cs) (put_back-without k m r)

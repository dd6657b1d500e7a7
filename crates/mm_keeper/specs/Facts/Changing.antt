-- A change of one block is that change of all entries.
use Rattle.std.proofs.Common.{◌≡◌, ℕ, zero, suc, ◌+◌, ◌-◌, ◌^◌, ◌≤◌, ◌<◌, inl, inr, Bool, true, false, cond, List, [], ◌∷◌, ◌++◌, length, get_or, set, take, drop, Option, Some, None, option_map, refl, sym, ap, ap₂, ◌∙◌, subst, arith, append_assoc}
use Rattle.std.specs.List.{insert, remove}
use Rattle.std.specs.Str.{bytes_eq}
use Rattle.std.proofs.lemmas.Slice.Eq.{bytes_eq-Decides}
use Rattle.mm_keeper.specs.Entries.{AllBelow, Entries, HasRoom, below, IsBelow, rank, has, lookup, put, without, weight_of}
use Rattle.mm_keeper.specs.Blocks.{Blocks, joined, AllSome}
use Rattle.mm_keeper.specs.Facts.Keys.{put-front, put-back, without-front, without-back, lookup-front, lookup-back, has-in, lookup-at}
use Rattle.mm_keeper.specs.Facts.Blocked.{around}

pub set-joined : (bs : Blocks) (b : ℕ) (m : Entries) → b < length bs → joined (set bs b m) ≡ joined (take b bs) ++ (m ++ joined (drop (suc b) bs))
set-joined [] b m l = absurd (omega (arith, l))
set-joined (n ∷ bs) zero m l = refl
set-joined (n ∷ bs) (suc b) m l = ap (λ t. n ++ t) (set-joined bs b m (omega (arith, l))) ∙ sym (append_assoc n (joined (take b bs)) _)

pub set-same : (bs : Blocks) (b : ℕ) → b < length bs → joined (set bs b (get_or bs b [])) ≡ joined bs
set-same bs b l = set-joined bs b (get_or bs b []) l ∙ around bs b l

pub put-joined : (k v : List ℕ) (bs : Blocks) (b : ℕ) → AllBelow (joined (take b bs)) k → IsBelow k (joined (drop (suc b) bs)) → b < length bs → joined (set bs b (put (get_or bs b []) k v)) ≡ put (joined bs) k v
put-joined k v bs b f g l =
    set-joined bs b (put (get_or bs b []) k v) l
    ∙ ap (λ t. joined (take b bs) ++ t) (sym (put-back k v (get_or bs b []) (joined (drop (suc b) bs)) g))
    ∙ sym (put-front k v (joined (take b bs)) _ f)
    ∙ ap (λ m. put m k v) (around bs b l)

pub without-joined : (k : List ℕ) (bs : Blocks) (b : ℕ) → AllBelow (joined (take b bs)) k → IsBelow k (joined (drop (suc b) bs)) → b < length bs → joined (set bs b (without (get_or bs b []) k)) ≡ without (joined bs) k
without-joined k bs b f g l =
    set-joined bs b (without (get_or bs b []) k) l
    ∙ ap (λ t. joined (take b bs) ++ t) (sym (without-back k (get_or bs b []) (joined (drop (suc b) bs)) g))
    ∙ sym (without-front k (joined (take b bs)) _ f)
    ∙ ap (λ m. without m k) (around bs b l)

pub lookup-joined : (k : List ℕ) (bs : Blocks) (b : ℕ) → AllBelow (joined (take b bs)) k → IsBelow k (joined (drop (suc b) bs)) → b < length bs → lookup (get_or bs b []) k ≡ lookup (joined bs) k
lookup-joined k bs b f g l =
    sym (lookup-back k (get_or bs b []) (joined (drop (suc b) bs)) g)
    ∙ sym (lookup-front k (joined (take b bs)) _ f)
    ∙ ap (λ m. lookup m k) (around bs b l)

pub some-set : (bs : Blocks) (b : ℕ) (m : Entries) → AllSome bs → 0 < length m → AllSome (set bs b m)
some-set [] b m s l = tt
some-set (n ∷ bs) zero m s l = (l, s.1)
some-set (n ∷ bs) (suc b) m s l = (s.0, some-set bs b m s.1 l)

pub put-some : (k v : List ℕ) (m : Entries) → 0 < length (put m k v)
put-some k v [] = omega arith
put-some k v (e ∷ m) = by (below e.0 k) (bytes_eq e.0 k)
  where
    by : (b c : Bool) → 0 < length (cond b (e ∷ put m k v) ((k, v) ∷ cond c m (e ∷ m)))
    by true c = omega arith
    by false c = omega arith

pub some-without : (bs : Blocks) (b : ℕ) (m : Entries) → AllSome bs → AllSome (remove (set bs b m) b)
some-without [] zero m s = tt
some-without [] (suc b) m s = tt
some-without (n ∷ bs) zero m s = s.1
some-without (n ∷ bs) (suc b) m s = (s.0, some-without bs b m s.1)

-- where all others hold some, and this one does
pub some-all : (bs : Blocks) (b : ℕ) → AllSome (remove bs b) → 0 < length (get_or bs b []) → AllSome bs
some-all [] b s l = tt
some-all (n ∷ bs) zero s l = (l, s)
some-all (n ∷ bs) (suc b) s l = (s.0, some-all bs b s.1 l)

nothing : (m r : Entries) → length m ≡ 0 → r ≡ m ++ r
nothing [] r e = refl
nothing (x ∷ m) r e = absurd (omega (arith, e))

-- an empty block is none
pub remove-joined : (bs : Blocks) (b : ℕ) → b < length bs → length (get_or bs b []) ≡ 0 → joined (remove bs b) ≡ joined bs
remove-joined [] b l e = absurd (omega (arith, l))
remove-joined (n ∷ bs) zero l e = nothing n (joined bs) e
remove-joined (n ∷ bs) (suc b) l e = ap (λ t. n ++ t) (remove-joined bs b (omega (arith, l)) e)

-- a block in two
pub insert-joined : (bs : Blocks) (b c : ℕ) (low high : Entries) → c ≡ suc b → b < length bs → low ++ high ≡ get_or bs b [] → joined (insert (set bs b low) c high) ≡ joined bs
insert-joined bs b c low high e l h = ap (λ n. joined (insert (set bs b low) n high)) e ∙ go bs b l h
  where
    go : (cs : Blocks) (i : ℕ) → i < length cs → low ++ high ≡ get_or cs i [] → joined (insert (set cs i low) (suc i) high) ≡ joined cs
    go [] i l h = absurd (omega (arith, l))
    go (n ∷ cs) zero l h = sym (append_assoc low high (joined cs)) ∙ ap (λ t. t ++ joined cs) h
    go (n ∷ cs) (suc i) l h = ap (λ t. n ++ t) (go cs i (omega (arith, l)) h)

pub insert-some : (bs : Blocks) (b : ℕ) (m : Entries) → AllSome bs → 0 < length m → AllSome (insert bs b m)
insert-some [] zero m s l = (l, tt)
insert-some [] (suc b) m s l = (l, tt)
insert-some (n ∷ bs) zero m s l = (l, s)
insert-some (n ∷ bs) (suc b) m s l = (s.0, insert-some bs b m s.1 l)

-- the entry of a key is the key with its value
pub taken : (k : List ℕ) (m : Entries) (i : ℕ) (x : List ℕ × List ℕ) → has m k ≡ true → i ≡ rank m k → i < length m → x ≡ get_or m i x → Some x ≡ option_map (λ (v : List ℕ). (k, v)) (lookup m k)
taken k m i x h e l q =
    let at : x ≡ get_or m (rank m k) x = q ∙ ap (λ n. get_or m n x) e in
    let first : (get_or m (rank m k) x).0 ≡ k = (bytes_eq-Decides (get_or m (rank m k) x).0 k).0 (sym (has-in k m x (subst (λ n. n < length m) e l)) ∙ h) in
    ap₂ (λ a b. Some (a, b)) (ap (λ t. t.0) at ∙ first) (ap (λ t. t.1) at) ∙ sym (ap (λ o. option_map (λ (v : List ℕ). (k, v)) o) ((lookup-at k m x).0 h))

-- ---- weights

pub weight-put : (k v : List ℕ) (m : Entries) → ((w : List ℕ) → lookup m k ≡ Some w → weight_of (put m k v) + length w ≡ weight_of m + length v)
    × (lookup m k ≡ None → weight_of (put m k v) ≡ weight_of m + (length k + length v))
weight-put k v [] = ((λ w h. absurd cc), (λ h. omega arith))
weight-put k v (e ∷ m) = by (below e.0 k) (bytes_eq e.0 k) (λ h. (bytes_eq-Decides e.0 k).0 h) (weight-put k v m)
  where
    by : (b c : Bool) → (c ≡ true → e.0 ≡ k)
        → (((w : List ℕ) → lookup m k ≡ Some w → weight_of (put m k v) + length w ≡ weight_of m + length v) × (lookup m k ≡ None → weight_of (put m k v) ≡ weight_of m + (length k + length v)))
        → ((w : List ℕ) → cond b (lookup m k) (cond c (Some e.1) None) ≡ Some w → weight_of (cond b (e ∷ put m k v) ((k, v) ∷ cond c m (e ∷ m))) + length w ≡ weight_of (e ∷ m) + length v)
        × (cond b (lookup m k) (cond c (Some e.1) None) ≡ None → weight_of (cond b (e ∷ put m k v) ((k, v) ∷ cond c m (e ∷ m))) ≡ weight_of (e ∷ m) + (length k + length v))
    by true c s i = ((λ w h. omega (arith, i.0 w h)), (λ h. omega (arith, i.1 h)))
    by false true s i = ((λ w h. let q : e.1 ≡ w = cc in omega (arith, ap length (s refl), ap length q)), (λ h. absurd cc))
    by false false s i = ((λ w h. absurd cc), (λ h. omega arith))

pub weight-without : (k w : List ℕ) (m : Entries) → lookup m k ≡ Some w → weight_of (without m k) + (length k + length w) ≡ weight_of m
weight-without k w [] h = absurd cc
weight-without k w (e ∷ m) h = by (below e.0 k) (bytes_eq e.0 k) (λ q. (bytes_eq-Decides e.0 k).0 q) (λ q. weight-without k w m q) h
  where
    by : (b c : Bool) → (c ≡ true → e.0 ≡ k) → (lookup m k ≡ Some w → weight_of (without m k) + (length k + length w) ≡ weight_of m)
        → cond b (lookup m k) (cond c (Some e.1) None) ≡ Some w → weight_of (cond b (e ∷ without m k) (cond c m (e ∷ m))) + (length k + length w) ≡ weight_of (e ∷ m)
    by true c s i q = omega (arith, i q)
    by false true s i q = let r : e.1 ≡ w = cc in omega (arith, ap length (s refl), ap length r)
    by false false s i q = absurd cc

-- what an entry brings where one of its key is held
pub record Replaced (total : ℕ) (k v w : List ℕ) (m : Entries) : Type 0 where
  pub held : length w ≤ total
  pub fits : total - length w + length v < 2 ^ 64
  pub is : total - length w + length v ≡ weight_of (put m k v)

pub weigh-held : (total : ℕ) (k v w : List ℕ) (m : Entries) → total ≡ weight_of m → total < 2 ^ 64 → lookup m k ≡ Some w → HasRoom m k v → Replaced total k v w m
weigh-held total k v w m e f h room =
    let less = weight-without k w m h in
    let more = (weight-put k v m).0 w h in
    record { held = omega (arith, e, less); fits = by room less more; is = omega (arith, e, less, more) }
  where
    by : HasRoom m k v → weight_of (without m k) + (length k + length w) ≡ weight_of m → weight_of (put m k v) + length w ≡ weight_of m + length v → total - length w + length v < 2 ^ 64
    by (inl q) less more = let same : length w ≡ length v = (let r : Some (length w) ≡ Some (length v) = sym (ap (λ o. option_map length o) h) ∙ q in cc) in omega (arith, e, f, less, same)
    by (inr q) less more = omega (arith, e, less, more, q)

pub record Added (total : ℕ) (k v : List ℕ) (m : Entries) : Type 0 where
  pub fits : total + (length k + length v) < 2 ^ 64
  pub is : total + (length k + length v) ≡ weight_of (put m k v)

pub weigh-new : (total : ℕ) (k v : List ℕ) (m : Entries) → total ≡ weight_of m → lookup m k ≡ None → HasRoom m k v → Added total k v m
weigh-new total k v m e h room =
    let more = (weight-put k v m).1 h in
    record { fits = by room more; is = omega (arith, e, more) }
  where
    by : HasRoom m k v → weight_of (put m k v) ≡ weight_of m + (length k + length v) → total + (length k + length v) < 2 ^ 64
    by (inl q) more = absurd (let r : None ≡ Some (length v) = sym (ap (λ o. option_map length o) h) ∙ q in cc)
    by (inr q) more = omega (arith, e, more, q)

pub of-some : (k : List ℕ) (x : List ℕ × List ℕ) (o : Option (List ℕ)) → Some x ≡ option_map (λ (v : List ℕ). (k, v)) o → (x.0 ≡ k) × (o ≡ Some x.1)
of-some k x None h = absurd cc
of-some k x (Some v) h = let e : x ≡ (k, v) = cc in (ap (λ t. t.0) e, ap (λ t. Some t.1) (sym e))

pub of-none : (k : List ℕ) (o : Option (List ℕ)) → ◌≡◌ {A = Option (List ℕ × List ℕ)} None (option_map (λ (v : List ℕ). (k, v)) o) → o ≡ None
of-none k None h = refl
of-none k (Some v) h = absurd cc

pub without-none : (k : List ℕ) (m : Entries) → lookup m k ≡ None → without m k ≡ m
without-none k [] h = refl
without-none k (e ∷ m) h = by (below e.0 k) (bytes_eq e.0 k) (λ q. without-none k m q) h
  where
    by : (b c : Bool) → (lookup m k ≡ None → without m k ≡ m) → cond b (lookup m k) (cond c (Some e.1) None) ≡ None → cond b (e ∷ without m k) (cond c m (e ∷ m)) ≡ e ∷ m
    by true c i q = ap (λ t. e ∷ t) (i q)
    by false true i q = absurd cc
    by false false i q = refl

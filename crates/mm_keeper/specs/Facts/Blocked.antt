-- Blocks of entries: where a key is sought in them, and what stands at a place.
use Rattle.std.proofs.Common.{◌≡◌, ℕ, zero, suc, ◌+◌, ◌-◌, ◌≤◌, ◌<◌, Bool, true, false, cond, List, [], ◌∷◌, ◌++◌, length, length-append, get_or, take, drop, Some, refl, sym, ap, ◌∙◌, subst, arith, append_assoc, true≢false, inl, inr}
use Rattle.std.specs.Prelude.{slice_get, nat_lt}
use Rattle.std.specs.List.Sorted.{IsPartitionPoint, IsPartitionedBy}
use Rattle.std.proofs.lemmas.Bool.{cases_lt}
use Rattle.std.proofs.lemmas.Bool.Decides.{nat_tests}
use Rattle.mm_keeper.specs.Entries.{AllBelow, Entries, below, IsBelow, Rises, rank, has}
use Rattle.mm_keeper.specs.Blocks.{Blocks, joined, place_in, AllSome}
use Rattle.mm_keeper.specs.Inside.Finding.{ends_below, IsAt}
use Rattle.mm_keeper.specs.Facts.Keys.{below_chain, not_above, from_below, rank-front, rank-back, rank_at_most, has-front, has-back, AllBelow-app, IsBelow-parts, Rises-parts}

-- ---- the rank, as a point that parts the entries

pub rank_passes : (k : List ℕ) (m : Entries) (j : ℕ) (d : List ℕ × List ℕ) → j < rank m k → below (get_or m j d).0 k ≡ true
rank_passes k [] j d l = absurd (omega (arith, l))
rank_passes k (e ∷ m) j d l = by (below e.0 k) refl (λ i h. rank_passes k m i d h) j l
  where
    by : (b : Bool) → below e.0 k ≡ b → ((i : ℕ) → i < rank m k → below (get_or m i d).0 k ≡ true) → (i : ℕ) → i < cond b (suc (rank m k)) 0 → below (get_or (e ∷ m) i d).0 k ≡ true
    by true q rest zero h = q
    by true q rest (suc i) h = rest i (omega (arith, h))
    by false q rest i h = absurd (omega (arith, h))

pub rank_stops : (k : List ℕ) (m : Entries) (d : List ℕ × List ℕ) → rank m k < length m → below (get_or m (rank m k) d).0 k ≡ false
rank_stops k [] d l = absurd (omega (arith, l))
rank_stops k (e ∷ m) d l = by (below e.0 k) refl (λ h. rank_stops k m d h) l
  where
    by : (b : Bool) → below e.0 k ≡ b → (rank m k < length m → below (get_or m (rank m k) d).0 k ≡ false) → cond b (suc (rank m k)) 0 < suc (length m) → below (get_or (e ∷ m) (cond b (suc (rank m k)) 0) d).0 k ≡ false
    by true q rest h = rest (omega (arith, h))
    by false q rest h = q

pub rank_is : (k : List ℕ) (m : Entries) (i : ℕ) → IsPartitionPoint (λ (e : List ℕ × List ℕ). below e.0 k ≡ true) (λ e. below e.0 k ≡ false) m i → i ≤ length m → i ≡ rank m k
rank_is k [] i parted h = omega (arith, h)
rank_is k (e ∷ m) i parted h = elim (cases_lt i (rank (e ∷ m) k)) [
  | inl q ↦ absurd (true≢false (sym (rank_passes k (e ∷ m) i e q) ∙ parted.1 i e (omega arith) (omega (arith, q, rank_at_most k (e ∷ m)))))
  | inr q ↦ elim (cases_lt (rank (e ∷ m) k) i) [
    | inl r ↦ absurd (true≢false (sym (parted.0 (rank (e ∷ m) k) e (omega arith) r) ∙ rank_stops k (e ∷ m) e (omega (arith, r, h))))
    | inr r ↦ omega (arith, q, r)
  ]
]

pub IsBelow-at : (a : List ℕ) (m : Entries) (j : ℕ) (d : List ℕ × List ℕ) → IsBelow a m → j < length m → below a (get_or m j d).0 ≡ true
IsBelow-at a [] j d h l = absurd (omega (arith, l))
IsBelow-at a (e ∷ m) zero d h l = h.0
IsBelow-at a (e ∷ m) (suc j) d h l = IsBelow-at a m j d h.1 (omega (arith, l))

pub items_parted : (k : List ℕ) (m : Entries) → Rises m → IsPartitionedBy (λ (e : List ℕ × List ℕ). below e.0 k) m
items_parted k [] r = λ i j d h q e. absurd (omega (arith, q))
items_parted k (e ∷ m) r = λ i j d h q t. by (items_parted k m r.1) i j d h q t
  where
    by : IsPartitionedBy (λ (e : List ℕ × List ℕ). below e.0 k) m → (i j : ℕ) (d : List ℕ × List ℕ) → i ≤ j → j < length (e ∷ m) → below (get_or (e ∷ m) j d).0 k ≡ true → below (get_or (e ∷ m) i d).0 k ≡ true
    by rest zero zero d h q t = t
    by rest (suc i) zero d h q t = absurd (omega (arith, h))
    by rest zero (suc j) d h q t = below_chain e.0 (get_or m j d).0 k (IsBelow-at e.0 m j d r.0 (omega (arith, q))) t
    by rest (suc i) (suc j) d h q t = rest i j d (omega (arith, h)) (omega (arith, q)) t

-- ---- blocks that end below a key

pub ends_at : (k : List ℕ) (m : Entries) (d : List ℕ × List ℕ) → 0 < length m → ends_below m k ≡ below (get_or m (length m - 1) d).0 k
ends_at k [] d l = absurd (omega (arith, l))
ends_at k (e ∷ []) d l = refl
ends_at k (e ∷ (x ∷ m)) d l =
    let q : suc (suc (length m) - 1) ≡ suc (suc (length m)) - 1 = omega arith in
    ends_at k (x ∷ m) d (omega arith) ∙ ap (λ i. below (get_or (e ∷ (x ∷ m)) i d).0 k) q

pub ends_all : (k : List ℕ) (m : Entries) → Rises m → ends_below m k ≡ true → AllBelow m k
ends_all k [] r h = tt
ends_all k (e ∷ []) r h = (h, tt)
ends_all k (e ∷ (x ∷ m)) r h =
    let rest = ends_all k (x ∷ m) r.1 h in
    (below_chain e.0 x.0 k r.0.0 rest.0, rest)

IsBelow-from : (a b : List ℕ) (m : Entries) → below a b ≡ false → IsBelow a m → IsBelow b m
IsBelow-from a b [] h i = tt
IsBelow-from a b (e ∷ m) h i = (from_below a b e.0 h i.0, IsBelow-from a b m h i.1)

ends_not : (k : List ℕ) (m zs : Entries) → Rises (m ++ zs) → ends_below m k ≡ false → (rank m k < length m) × IsBelow k zs
ends_not k [] zs r h = absurd (true≢false h)
ends_not k (e ∷ []) zs r h = (by (below e.0 k) h, IsBelow-from e.0 k zs h r.0)
  where
    by : (b : Bool) → b ≡ false → cond b 1 0 < 1
    by true q = absurd (true≢false q)
    by false q = omega arith
ends_not k (e ∷ (x ∷ m)) zs r h =
    let rest = ends_not k (x ∷ m) zs r.1 h in
    (by (below e.0 k) rest.0, rest.1)
  where
    by : (b : Bool) → rank (x ∷ m) k < length (x ∷ m) → cond b (suc (rank (x ∷ m) k)) 0 < suc (length (x ∷ m))
    by true q = omega (arith, q)
    by false q = omega arith

ends_above : (k : List ℕ) (m : Entries) → IsBelow k m → 0 < length m → ends_below m k ≡ false
ends_above k [] h l = absurd (omega (arith, l))
ends_above k (e ∷ []) h l = not_above k e.0 h.0
ends_above k (e ∷ (x ∷ m)) h l = ends_above k (x ∷ m) h.1 (omega arith)

block_above : (k : List ℕ) (bs : Blocks) (j : ℕ) (d : Entries) → IsBelow k (joined bs) → AllSome bs → j < length bs → ends_below (get_or bs j d) k ≡ false
block_above k [] j d h s l = absurd (omega (arith, l))
block_above k (m ∷ bs) zero d h s l = ends_above k m (IsBelow-parts k m (joined bs) h).0 s.0
block_above k (m ∷ bs) (suc j) d h s l = block_above k bs j d (IsBelow-parts k m (joined bs) h).1 s.1 (omega (arith, l))

pub blocks_parted : (k : List ℕ) (bs : Blocks) → Rises (joined bs) → AllSome bs → IsPartitionedBy (λ (m : Entries). ends_below m k) bs
blocks_parted k [] r s = λ i j d h q t. absurd (omega (arith, q))
blocks_parted k (m ∷ bs) r s = λ i j d h q t. by (blocks_parted k bs (Rises-parts m (joined bs) r).1 s.1) i j d h q t
  where
    first : (b : Bool) (j : ℕ) (d : Entries) → ends_below m k ≡ b → j < length bs → ends_below (get_or bs j d) k ≡ true → ends_below m k ≡ true
    first true j d q l t = q
    first false j d q l t = absurd (true≢false (sym t ∙ block_above k bs j d (ends_not k m (joined bs) r q).1 s.1 l))

    by : IsPartitionedBy (λ (m : Entries). ends_below m k) bs → (i j : ℕ) (d : Entries) → i ≤ j → j < length (m ∷ bs) → ends_below (get_or (m ∷ bs) j d) k ≡ true → ends_below (get_or (m ∷ bs) i d) k ≡ true
    by rest zero zero d h q t = t
    by rest (suc i) zero d h q t = absurd (omega (arith, h))
    by rest zero (suc j) d h q t = first (ends_below m k) j d refl (omega (arith, q)) t
    by rest (suc i) (suc j) d h q t = rest i j d (omega (arith, h)) (omega (arith, q)) t

front_all : (k : List ℕ) (bs : Blocks) (i : ℕ) → Rises (joined bs) → ((j : ℕ) (d : Entries) → j < i → ends_below (get_or bs j d) k ≡ true) → AllBelow (joined (take i bs)) k
front_all k [] zero r p = tt
front_all k [] (suc i) r p = tt
front_all k (m ∷ bs) zero r p = tt
front_all k (m ∷ bs) (suc i) r p =
    let parts = Rises-parts m (joined bs) r in
    AllBelow-app k m (joined (take i bs)) (ends_all k m parts.0 (p 0 [] (omega arith))) (front_all k bs i parts.1 (λ j d l. p (suc j) d (omega (arith, l))))

back_at : (k : List ℕ) (bs : Blocks) (i : ℕ) → Rises (joined bs) → i < length bs → ends_below (get_or bs i []) k ≡ false
    → (rank (get_or bs i []) k < length (get_or bs i [])) × IsBelow k (joined (drop (suc i) bs))
back_at k [] i r l h = absurd (omega (arith, l))
back_at k (m ∷ bs) zero r l h = ends_not k m (joined bs) r h
back_at k (m ∷ bs) (suc i) r l h = back_at k bs i (Rises-parts m (joined bs) r).1 (omega (arith, l)) h

pub drop-past : (bs : Blocks) (i : ℕ) → length bs ≤ suc i → joined (drop (suc i) bs) ≡ []
drop-past [] i l = refl
drop-past (m ∷ []) zero l = refl
drop-past (m ∷ (n ∷ bs)) zero l = absurd (omega (arith, l))
drop-past (m ∷ bs) (suc i) l = drop-past bs i (omega (arith, l))

pub at_point : (k : List ℕ) (bs : Blocks) (i : ℕ) → Rises (joined bs) → IsPartitionPoint (λ (m : Entries). ends_below m k ≡ true) (λ m. ends_below m k ≡ false) bs i → i ≤ length bs → IsAt bs k i
at_point k bs i r p h = record {
  front = front_all k bs i r (λ j d l. p.0 j d (omega arith) l);
  inside = λ l. (back_at k bs i r l (p.1 i [] (omega arith) l)).0;
  back = elim (cases_lt i (length bs)) [
    | inl l ↦ (back_at k bs i r l (p.1 i [] (omega arith) l)).1
    | inr l ↦ subst (IsBelow k) (sym (drop-past bs i (omega (arith, l)))) tt
  ];
}

-- ---- blocks in front of one, that one, and those behind it

pub around : (bs : Blocks) (i : ℕ) → i < length bs → joined (take i bs) ++ (get_or bs i [] ++ joined (drop (suc i) bs)) ≡ joined bs
around [] i l = absurd (omega (arith, l))
around (m ∷ bs) zero l = refl
around (m ∷ bs) (suc i) l = append_assoc m (joined (take i bs)) _ ∙ ap (λ t. m ++ t) (around bs i (omega (arith, l)))

pub take-all : (bs : Blocks) (i : ℕ) → length bs ≤ i → joined (take i bs) ≡ joined bs
take-all [] zero l = refl
take-all [] (suc i) l = refl
take-all (m ∷ bs) zero l = absurd (omega (arith, l))
take-all (m ∷ bs) (suc i) l = ap (λ t. m ++ t) (take-all bs i (omega (arith, l)))

pub rises_at : (bs : Blocks) (i : ℕ) → Rises (joined bs) → i < length bs → Rises (get_or bs i [])
rises_at [] i r l = absurd (omega (arith, l))
rises_at (m ∷ bs) zero r l = (Rises-parts m (joined bs) r).0
rises_at (m ∷ bs) (suc i) r l = rises_at bs i (Rises-parts m (joined bs) r).1 (omega (arith, l))

pub some_at : (bs : Blocks) (i : ℕ) → AllSome bs → i < length bs → 0 < length (get_or bs i [])
some_at [] i s l = absurd (omega (arith, l))
some_at (m ∷ bs) zero s l = s.0
some_at (m ∷ bs) (suc i) s l = some_at bs i s.1 (omega (arith, l))

pub get-past : (bs : Blocks) (i : ℕ) → length bs ≤ i → get_or bs i [] ≡ []
get-past [] i l = refl
get-past (m ∷ bs) zero l = absurd (omega (arith, l))
get-past (m ∷ bs) (suc i) l = get-past bs i (omega (arith, l))

pub get-any : (bs : Blocks) (i : ℕ) (d c : Entries) → i < length bs → get_or bs i d ≡ get_or bs i c
get-any [] i d c l = absurd (omega (arith, l))
get-any (m ∷ bs) zero d c l = refl
get-any (m ∷ bs) (suc i) d c l = get-any bs i d c (omega (arith, l))

-- ---- places

pub length-app : (xs ys : Entries) → length (xs ++ ys) ≡ length xs + length ys
length-app [] ys = omega arith
length-app (e ∷ xs) ys = grind (arith, length-app xs ys)

-- the place of an entry of a block is behind the blocks before it
pub place-at : (bs : Blocks) (b i : ℕ) → i < length (get_or bs b []) → place_in bs b i ≡ length (joined (take b bs)) + i
place-at [] b i l = absurd (omega (arith, l))
place-at (m ∷ bs) zero i l = by (nat_lt i (length m)) refl
  where
    by : (t : Bool) → nat_lt i (length m) ≡ t → cond t i (length m + length (joined bs)) ≡ 0 + i
    by true q = omega arith
    by false q = absurd (grind (arith, nat_tests))
place-at (m ∷ bs) (suc b) i l = omega (arith, length-app m (joined (take b bs)), place-at bs b i l)

-- so is the place of the first entry of a block, also where there is none
pub place-first : (bs : Blocks) (b : ℕ) → AllSome bs → b ≤ length bs → place_in bs b 0 ≡ length (joined (take b bs))
place-first [] b s l = by b
  where
    by : (n : ℕ) → place_in [] n 0 ≡ length (joined (take n []))
    by zero = refl
    by (suc n) = refl
place-first (m ∷ bs) zero s l = by (nat_lt 0 (length m)) refl
  where
    by : (t : Bool) → nat_lt 0 (length m) ≡ t → cond t 0 (length m + length (joined bs)) ≡ 0
    by true q = refl
    by false q = absurd (let h = s.0 in grind (arith, nat_tests))
place-first (m ∷ bs) (suc b) s l = omega (arith, length-app m (joined (take b bs)), place-first bs b s.1 (omega (arith, l)))

-- a place in range is that of an entry
pub place-in_range : (bs : Blocks) (b i : ℕ) → place_in bs b i < length (joined bs) → (b < length bs) × (i < length (get_or bs b []))
place-in_range [] b i l = absurd (omega (arith, l))
place-in_range (m ∷ bs) zero i l = by (nat_lt i (length m)) refl l
  where
    by : (t : Bool) → nat_lt i (length m) ≡ t → cond t i (length m + length (joined bs)) < length (m ++ joined bs) → (0 < suc (length bs)) × (i < length m)
    by true q h = (omega arith, grind (arith, nat_tests))
    by false q h = absurd (omega (arith, h, length-app m (joined bs)))
place-in_range (m ∷ bs) (suc b) i l =
    let rest = place-in_range bs b i (omega (arith, l, length-app m (joined bs))) in
    (omega (arith, rest.0), rest.1)

pub get-front : (xs ys : Entries) (i : ℕ) → i < length xs → slice_get (xs ++ ys) i ≡ slice_get xs i
get-front [] ys i l = absurd (omega (arith, l))
get-front (e ∷ xs) ys zero l = refl
get-front (e ∷ xs) ys (suc i) l = get-front xs ys i (omega (arith, l))

pub get-back : (xs ys : Entries) (i : ℕ) → slice_get (xs ++ ys) (length xs + i) ≡ slice_get ys i
get-back [] ys i = let q : 0 + i ≡ i = omega arith in ap (λ n. slice_get ys n) q
get-back (e ∷ xs) ys i = let q : suc (length xs) + i ≡ suc (length xs + i) = omega arith in ap (λ n. slice_get (e ∷ (xs ++ ys)) n) q ∙ get-back xs ys i

pub get_or-get : (m : Entries) (i : ℕ) (d : List ℕ × List ℕ) → i < length m → slice_get m i ≡ Some (get_or m i d)
get_or-get [] i d l = absurd (omega (arith, l))
get_or-get (e ∷ m) zero d l = refl
get_or-get (e ∷ m) (suc i) d l = get_or-get m i d (omega (arith, l))

-- what stands at a place
pub entry-at : (bs : Blocks) (b i : ℕ) (d : List ℕ × List ℕ) → b < length bs → i < length (get_or bs b []) → slice_get (joined bs) (place_in bs b i) ≡ Some (get_or (get_or bs b []) i d)
entry-at bs b i d l h =
    ap (slice_get (joined bs)) (place-at bs b i h)
    ∙ ap (λ m. slice_get m (length (joined (take b bs)) + i)) (sym (around bs b l))
    ∙ get-back (joined (take b bs)) _ i
    ∙ get-front (get_or bs b []) (joined (drop (suc b) bs)) i h
    ∙ get_or-get (get_or bs b []) i d h

-- the length, around a block
pub length-around : (bs : Blocks) (b : ℕ) → b < length bs → length (joined bs) ≡ length (joined (take b bs)) + (length (get_or bs b []) + length (joined (drop (suc b) bs)))
length-around bs b l =
    ap length (sym (around bs b l)) ∙ length-app (joined (take b bs)) _ ∙ ap (λ n. length (joined (take b bs)) + n) (length-app (get_or bs b []) (joined (drop (suc b) bs)))

pub length-take_more : (bs : Blocks) (b : ℕ) → b < length bs → length (joined (take (suc b) bs)) ≡ length (joined (take b bs)) + length (get_or bs b [])
length-take_more [] b l = absurd (omega (arith, l))
length-take_more (m ∷ bs) zero l = omega (arith, length-app m [])
length-take_more (m ∷ bs) (suc b) l = omega (arith, length-app m (joined (take (suc b) bs)), length-app m (joined (take b bs)), length-take_more bs b (omega (arith, l)))

pub none_behind : (bs : Blocks) (b : ℕ) → length bs ≤ suc b → length (joined (drop (suc b) bs)) ≡ 0
none_behind bs b l = ap length (drop-past bs b l)

-- ---- a key in its block

pub rank-at : (k : List ℕ) (bs : Blocks) (i : ℕ) → IsAt bs k i → i < length bs → rank (joined bs) k ≡ length (joined (take i bs)) + rank (get_or bs i []) k
rank-at k bs i a l =
    ap (λ m. rank m k) (sym (around bs i l)) ∙ rank-front k (joined (take i bs)) _ a.front ∙ ap (λ n. length (joined (take i bs)) + n) (rank-back k (get_or bs i []) _ a.back)

pub all_rank : (k : List ℕ) (m : Entries) → AllBelow m k → rank m k ≡ length m
all_rank k [] h = refl
all_rank k (e ∷ m) h = rw (h.0) (ap (λ n. suc n) (all_rank k m h.1))

pub all_has : (k : List ℕ) (m : Entries) → AllBelow m k → has m k ≡ false
all_has k [] h = refl
all_has k (e ∷ m) h = rw (h.0) (all_has k m h.1)

pub rank-end : (k : List ℕ) (bs : Blocks) (i : ℕ) → IsAt bs k i → length bs ≤ i → rank (joined bs) k ≡ length (joined bs)
rank-end k bs i a l = all_rank k (joined bs) (subst (λ m. AllBelow m k) (take-all bs i l) a.front)

pub has-end : (k : List ℕ) (bs : Blocks) (i : ℕ) → IsAt bs k i → length bs ≤ i → has (joined bs) k ≡ false
has-end k bs i a l = all_has k (joined bs) (subst (λ m. AllBelow m k) (take-all bs i l) a.front)

pub has-at : (k : List ℕ) (bs : Blocks) (i : ℕ) → IsAt bs k i → i < length bs → has (joined bs) k ≡ has (get_or bs i []) k
has-at k bs i a l =
    ap (λ m. has m k) (sym (around bs i l)) ∙ has-front k (joined (take i bs)) _ a.front ∙ has-back k (get_or bs i []) _ a.back

pub AllBelow-parts : (k : List ℕ) (xs ys : Entries) → AllBelow (xs ++ ys) k → AllBelow xs k
AllBelow-parts k [] ys h = tt
AllBelow-parts k (e ∷ xs) ys h = (h.0, AllBelow-parts k xs ys h.1)

pub front_less : (k : List ℕ) (bs : Blocks) (i : ℕ) → AllBelow (joined bs) k → AllBelow (joined (take i bs)) k
front_less k [] zero h = tt
front_less k [] (suc i) h = tt
front_less k (m ∷ bs) zero h = tt
front_less k (m ∷ bs) (suc i) h = AllBelow-app k m (joined (take i bs)) (AllBelow-parts k m (joined bs) h) (front_less k bs i (behind m h))
  where
    behind : (xs : Entries) → AllBelow (xs ++ joined bs) k → AllBelow (joined bs) k
    behind [] g = g
    behind (e ∷ xs) g = behind xs g.1

-- behind the last block nothing stands
pub last_seat : (k : List ℕ) (bs : Blocks) (i : ℕ) → IsAt bs k i → length bs ≤ i → AllBelow (joined (take (i - 1) bs)) k × IsBelow k (joined (drop (suc (i - 1)) bs))
last_seat k bs i a l =
    (front_less k bs (i - 1) (subst (λ m. AllBelow m k) (take-all bs i l) a.front), subst (IsBelow k) (sym (drop-past bs (i - 1) (omega (arith, l)))) tt)

pub place-inside : (bs : Blocks) (b i : ℕ) → b < length bs → i < length (get_or bs b []) → place_in bs b i < length (joined bs)
place-inside bs b i l h =
    let m = get_or bs b [] in
    let rest = joined (drop (suc b) bs) in
    omega (arith, place-at bs b i h, ap length (around bs b l), length-append (joined (take b bs)) (m ++ rest), length-append m rest, h)

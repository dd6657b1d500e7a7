-- One run of nodes gives place to another: the maps swap the parts that are about these nodes.
use Rattle.std.proofs.Common.{◌≡◌, refl, ap, sym, ◌∙◌, Bool, true, false, ℕ, ◌+◌, List, [], ◌∷◌, ◌++◌, arith}
use Rattle.std.specs.Prelude.{is_some, Some, None, if◌then◌else◌, not, ◌||◌, nat_lt, ◌<◌}
use Rattle.std.specs.Str.{bytes_eq}
use Rattle.std.proofs.lemmas.Bool.Decides.{nat_tests}
use Rattle.std.proofs.lemmas.Grind.{flat_map-append}
use Rattle.byteorder.specs.Endian.{big_bytes}
use Rattle.mm_keeper.specs.Entries.{Entries}
use Rattle.mm_tree.specs.Numbering.{Labelled}
use Rattle.mm_edit.specs.Difference.{Key}
use Rattle.mm_edit.specs.Inside.Finding.{find, has_key}
use Rattle.mm_edit.specs.Inside.Swapping.{within_keys, outside_keys, Swaps}
use Rattle.mm_edit.specs.Inside.Nodes.{brought, owned, tally, counted_as, or_else, value_at, IsMapOf, AreApart, IsFit, run_keys, IsPart}
use Rattle.mm_edit.proofs.Lookups.{Value, has_key_is, same_entries}
use Rattle.mm_edit.proofs.Filters.{rises-filter}
use Rattle.mm_edit.proofs.Local.{among, find_within, find_outside_at}

-- ---- nodes joined

pub find-append : (a b : Entries) (k : Key) → find (a ++ b) k ≡ or_else (find a k) (find b k)
find-append [] b k = refl
find-append (e ∷ a) b k = by (bytes_eq e.0 k) (find-append a b k)
  where
    by : (t : Bool) → find (a ++ b) k ≡ or_else (find a k) (find b k) → (if t then Some e.1 else find (a ++ b) k) ≡ or_else (if t then Some e.1 else find a k) (find b k)
    by true h = refl
    by false h = h

find_joined : (a b : List Labelled) (k : Key) → find (owned (a ++ b)) k ≡ or_else (find (owned a) k) (find (owned b) k)
find_joined a b k = ap (λ m. find m k) (flat_map-append brought a b) ∙ find-append (owned a) (owned b) k

pub tally_joined : (a b : List Labelled) (k : Key) → tally (a ++ b) k ≡ tally a k + tally b k
tally_joined [] b k = omega arith
tally_joined (i ∷ a) b k = omega (arith, tally_joined a b k)

-- the values of three runs
find_three : (a b c : List Labelled) (k : Key) → find (owned (a ++ (b ++ c))) k ≡ or_else (find (owned a) k) (or_else (find (owned b) k) (find (owned c) k))
find_three a b c k = find_joined a (b ++ c) k ∙ ap (λ z. or_else (find (owned a) k) z) (find_joined b c k)

pub tally_three : (a b c : List Labelled) (k : Key) → tally (a ++ (b ++ c)) k ≡ tally a k + (tally b k + tally c k)
tally_three a b c k = tally_joined a (b ++ c) k ∙ ap (λ z. tally a k + z) (tally_joined b c k)

-- ---- what is apart

-- a key of a run is no key of the nodes before and behind it
pub record Alone (f t b : Value) : Type 0 where
  pub front : is_some t ≡ true → f ≡ None
  pub back : is_some t ≡ true → b ≡ None

none_of : (r : Value) → is_some r ≡ false → r ≡ None
none_of None h = refl
none_of (Some v) h = absurd cc

or_last : (x y : Value) → is_some (or_else x y) ≡ false → is_some y ≡ false
or_last None y h = h
or_last (Some v) y h = absurd cc

behind : (k : Key) (run back : List Labelled) → AreApart (run ++ back) → is_some (find (owned run) k) ≡ true → find (owned back) k ≡ None
behind k [] back a h = absurd cc
behind k (i ∷ run) back a h = by (find (brought i) k) refl (find (owned run) k) refl (behind k run back a.1)
  where
    by : (x : Value) → find (brought i) k ≡ x → (y : Value) → find (owned run) k ≡ y → (is_some (find (owned run) k) ≡ true → find (owned back) k ≡ None) → find (owned back) k ≡ None
    by (Some v) p y q ih =
        none_of _ (or_last (find (owned run) k) (find (owned back) k)
        (ap is_some (sym (find_joined run back k)) ∙ sym (has_key_is (owned (run ++ back)) k) ∙ a.0 k (has_key_is (brought i) k ∙ ap is_some p)))
    by None p (Some w) q ih = ih (ap is_some q)
    by None p None q ih =
        absurd (let z : is_some (find (owned (i ∷ run)) k) ≡ false = ap is_some (find-append (brought i) (owned run) k) ∙ ap (λ r. is_some (or_else r (find (owned run) k))) p ∙ ap is_some q in cc)

alone : (front run back : List Labelled) (k : Key) → AreApart (front ++ (run ++ back)) → Alone (find (owned front) k) (find (owned run) k) (find (owned back) k)
alone [] run back k a = record { front = λ h. refl; back = λ h. behind k run back a h }
alone (i ∷ front) run back k a = by (alone front run back k a.1)
  where
    middle : (x y z : Value) → is_some y ≡ true → is_some (or_else x (or_else y z)) ≡ true
    middle None None z h = absurd cc
    middle None (Some v) z h = refl
    middle (Some v) y z h = refl

    there : is_some (find (owned run) k) ≡ true → has_key (owned (front ++ (run ++ back))) k ≡ true
    there h = has_key_is (owned (front ++ (run ++ back))) k ∙ ap is_some (find_three front run back k) ∙ middle (find (owned front) k) (find (owned run) k) (find (owned back) k) h

    first : (x : Value) → find (brought i) k ≡ x → is_some (find (owned run) k) ≡ true → find (owned front) k ≡ None → or_else x (find (owned front) k) ≡ None
    first None p h n = n
    first (Some v) p h n = absurd (let z : has_key (brought i) k ≡ true = has_key_is (brought i) k ∙ ap is_some p in let y = a.0 k z in let w = there h in cc)

    by : Alone (find (owned front) k) (find (owned run) k) (find (owned back) k) → Alone (find (owned (i ∷ front)) k) (find (owned run) k) (find (owned back) k)
    by ih = record { front = λ h. find-append (brought i) (owned front) k ∙ first (find (brought i) k) refl h (ih.front h); back = ih.back }

-- ---- one key

-- what is known at a key of the nodes before, in and behind a run, and of the run in its place
pub record AtKey (f t g b : Value) (nf nt ng nb : ℕ) : Type 0 where
  pub old : Alone f t b
  pub new : Alone f g b
  pub old_sorts : is_some (or_else f (or_else t b)) ≡ true → nf + (nt + nb) ≡ 0
  pub new_sorts : is_some (or_else f (or_else g b)) ≡ true → nf + (ng + nb) ≡ 0

zero_is : (n : ℕ) → nat_lt 0 n ≡ false → n ≡ 0
zero_is n h = grind (arith, nat_tests, h)

more_is : (n : ℕ) → nat_lt 0 n ≡ true → 0 < n
more_is n h = grind (arith, nat_tests, h)

no_count : (n : ℕ) → n ≡ 0 → counted_as n ≡ None
no_count n h = ap counted_as h

counted_zero : (n : ℕ) → counted_as n ≡ None → n ≡ 0
counted_zero n h = by (nat_lt 0 n) refl h
  where
    by : (t : Bool) → nat_lt 0 n ≡ t → (if t then Some (big_bytes 8 n) else None) ≡ None → n ≡ 0
    by true p q = absurd cc
    by false p q = zero_is n p

no_some : (r : Value) → (is_some r ≡ true → ⊥) → r ≡ None
no_some None f = refl
no_some (Some v) f = absurd (f refl)

around : (f g b : Value) → or_else f (or_else g b) ≡ None → or_else f b ≡ None
around None None b h = h
around None (Some v) b h = absurd cc
around (Some v) g b h = absurd cc

-- the same over what matters at the key
core : (t g f b c : Value) (z : Bool)
    → (is_some t ≡ true → (f ≡ None) × (b ≡ None) × (c ≡ None))
    → (is_some g ≡ true → z ≡ false → c ≡ None)
    → (is_some g ≡ true → or_else f b ≡ None)
    → (z ≡ true → c ≡ None → or_else f b ≡ None)
    → among (is_some t || (is_some g || z)) (or_else c (or_else f (or_else t b))) ≡ or_else t (if z then c else None)
core (Some v) g f b c z h1 h2 h4 h3 = let h = h1 refl in ap (λ y. or_else y (or_else f (Some v))) h.2 ∙ ap (λ y. or_else y (Some v)) h.0
core None (Some w) f b (Some n) true h1 h2 h4 h3 = refl
core None (Some w) f b None true h1 h2 h4 h3 = h4 refl
core None (Some w) f b c false h1 h2 h4 h3 = ap (λ y. or_else y (or_else f b)) (h2 refl refl) ∙ h4 refl
core None None f b (Some n) true h1 h2 h4 h3 = refl
core None None f b None true h1 h2 h4 h3 = h3 refl refl
core None None f b c false h1 h2 h4 h3 = refl

both_none : (f b : Value) → f ≡ None → b ≡ None → or_else f b ≡ None
both_none f b p q = ap (λ y. or_else y b) p ∙ q

middle_some : (f t b : Value) → is_some t ≡ true → is_some (or_else f (or_else t b)) ≡ true
middle_some None None b h = absurd cc
middle_some None (Some v) b h = refl
middle_some (Some v) t b h = refl

part_at : (f t g b : Value) (nf nt ng nb : ℕ) → AtKey f t g b nf nt ng nb
    → among (is_some t || (is_some g || nat_lt 0 (nt + ng))) (or_else (counted_as (nf + (nt + nb))) (or_else f (or_else t b)))
    ≡ or_else t (if nat_lt 0 (nt + ng) then counted_as (nf + (nt + nb)) else None)
part_at f t g b nf nt ng nb k =
    core t g f b (counted_as (nf + (nt + nb))) (nat_lt 0 (nt + ng))
    (λ h. (k.old.front h, k.old.back h, no_count _ (k.old_sorts (middle_some f t b h))))
    (λ h z. let n = k.new_sorts (middle_some f g b h) in let m = zero_is (nt + ng) z in no_count (nf + (nt + nb)) (omega (arith, n, m)))
    (λ h. both_none f b (k.new.front h) (k.new.back h))
    (λ z c. around f g b (no_some (or_else f (or_else g b)) (λ h. let n = k.new_sorts h in let m = more_is (nt + ng) z in let o = counted_zero (nf + (nt + nb)) c in absurd (omega (arith, n, m, o)))))

others_at : (f t g b : Value) (nf nt ng nb : ℕ) (z : Bool) → nat_lt 0 (nt + ng) ≡ z
    → among (not (is_some t || (is_some g || z))) (or_else (counted_as (nf + (nt + nb))) (or_else f (or_else t b)))
    ≡ among (not (is_some t || (is_some g || z))) (or_else (counted_as (nf + (ng + nb))) (or_else f (or_else g b)))
others_at f (Some v) g b nf nt ng nb z h = refl
others_at f None (Some w) b nf nt ng nb z h = refl
others_at f None None b nf nt ng nb true h = refl
others_at f None None b nf nt ng nb false h =
    let m = zero_is (nt + ng) h in ap (λ n. or_else (counted_as n) (or_else f b)) (omega (arith, m))

-- ---- the law

turned : (t g : Bool) (m n : ℕ) → t || (g || nat_lt 0 (m + n)) ≡ g || (t || nat_lt 0 (n + m))
turned t g m n = ap (λ z. t || (g || nat_lt 0 z)) (omega arith) ∙ by t g (nat_lt 0 (n + m))
  where
    by : (t g z : Bool) → t || (g || z) ≡ g || (t || z)
    by true true z = refl
    by true false z = refl
    by false true z = refl
    by false false z = refl

inside_is : (taken given : List Labelled) (k : Key) → run_keys taken given k ≡ is_some (find (owned taken) k) || (is_some (find (owned given) k) || nat_lt 0 (tally taken k + tally given k))
inside_is taken given k =
    ap (λ z. z || (has_key (owned given) k || nat_lt 0 (tally taken k + tally given k))) (has_key_is (owned taken) k)
    ∙ ap (λ z. is_some (find (owned taken) k) || (z || nat_lt 0 (tally taken k + tally given k))) (has_key_is (owned given) k)

value_three : (a b c : List Labelled) (k : Key)
    → value_at (a ++ (b ++ c)) k ≡ or_else (counted_as (tally a k + (tally b k + tally c k))) (or_else (find (owned a) k) (or_else (find (owned b) k) (find (owned c) k)))
value_three a b c k = ap (λ n. or_else (counted_as n) (find (owned (a ++ (b ++ c))) k)) (tally_three a b c k) ∙ ap (λ z. or_else (counted_as (tally a k + (tally b k + tally c k))) z) (find_three a b c k)

sorts_three : (a b c : List Labelled) (k : Key) → IsFit (a ++ (b ++ c))
    → is_some (or_else (find (owned a) k) (or_else (find (owned b) k) (find (owned c) k))) ≡ true → tally a k + (tally b k + tally c k) ≡ 0
sorts_three a b c k u h = sym (tally_three a b c k) ∙ u.sorts k (has_key_is (owned (a ++ (b ++ c))) k ∙ ap is_some (find_three a b c k) ∙ h)

at_key : (front taken given back : List Labelled) (k : Key) → IsFit (front ++ (taken ++ back)) → IsFit (front ++ (given ++ back))
    → AtKey (find (owned front) k) (find (owned taken) k) (find (owned given) k) (find (owned back) k) (tally front k) (tally taken k) (tally given k) (tally back k)
at_key front taken given back k u v = record {
  old = alone front taken back k u.apart;
  new = alone front given back k v.apart;
  old_sorts = sorts_three front taken back k u;
  new_sorts = sorts_three front given back k v;
}

-- the part at the keys of the run
part_is : (front taken given back : List Labelled) (inside : Key → Bool) (old part : Entries)
    → IsFit (front ++ (taken ++ back)) → IsFit (front ++ (given ++ back)) → IsMapOf old (front ++ (taken ++ back)) → IsPart part (front ++ (taken ++ back)) taken given
    → ((k : Key) → inside k ≡ is_some (find (owned taken) k) || (is_some (find (owned given) k) || nat_lt 0 (tally taken k + tally given k)))
    → within_keys inside old ≡ part
part_is front taken given back inside old part u v x p i =
    same_entries (within_keys inside old) part (rises-filter (λ e. inside e.0) old x.rises) p.rises at
  where
    at : (k : Key) → find (within_keys inside old) k ≡ find part k
    at k =
        find_within inside old k x.rises ∙ ap (λ b. among b (find old k)) (i k)
        ∙ ap (λ z. among (is_some (find (owned taken) k) || (is_some (find (owned given) k) || nat_lt 0 (tally taken k + tally given k))) z) (x.at k ∙ value_three front taken back k)
        ∙ part_at (find (owned front) k) (find (owned taken) k) (find (owned given) k) (find (owned back) k) (tally front k) (tally taken k) (tally given k) (tally back k) (at_key front taken given back k u v)
        ∙ sym (p.at k ∙ ap (λ n. or_else (find (owned taken) k) (if nat_lt 0 (tally taken k + tally given k) then counted_as n else None)) (tally_three front taken back k))

others_are : (front taken given back : List Labelled) (old new : Entries) → IsMapOf old (front ++ (taken ++ back)) → IsMapOf new (front ++ (given ++ back))
    → outside_keys (run_keys taken given) old ≡ outside_keys (run_keys taken given) new
others_are front taken given back old new x y =
    same_entries (outside_keys inside old) (outside_keys inside new) (rises-filter (λ e. not (inside e.0)) old x.rises) (rises-filter (λ e. not (inside e.0)) new y.rises) at
  where
    inside : Key → Bool
    inside = run_keys taken given

    at : (k : Key) → find (outside_keys inside old) k ≡ find (outside_keys inside new) k
    at k =
        let f = find (owned front) k in
        let t = find (owned taken) k in
        let g = find (owned given) k in
        let b = find (owned back) k in
        find_outside_at inside old k x.rises ∙ ap (λ z. among (not z) (find old k)) (inside_is taken given k)
        ∙ ap (λ z. among (not (is_some t || (is_some g || nat_lt 0 (tally taken k + tally given k)))) z) (x.at k ∙ value_three front taken back k)
        ∙ others_at f t g b (tally front k) (tally taken k) (tally given k) (tally back k) (nat_lt 0 (tally taken k + tally given k)) refl
        ∙ sym (find_outside_at inside new k y.rises ∙ ap (λ z. among (not z) (find new k)) (inside_is taken given k)
        ∙ ap (λ z. among (not (is_some t || (is_some g || nat_lt 0 (tally taken k + tally given k)))) z) (y.at k ∙ value_three front given back k))

pub runs_swap : (front taken given back : List Labelled) (old new before after : Entries)
    → IsFit (front ++ (taken ++ back)) → IsFit (front ++ (given ++ back))
    → IsMapOf old (front ++ (taken ++ back)) → IsMapOf new (front ++ (given ++ back))
    → IsPart before (front ++ (taken ++ back)) taken given → IsPart after (front ++ (given ++ back)) given taken
    → Swaps (run_keys taken given) old new before after
runs_swap front taken given back old new before after u v x y p q = record {
  taken_is = part_is front taken given back (run_keys taken given) old before u v x p (inside_is taken given);
  given_is = part_is front given taken back (run_keys taken given) new after v u y q (λ k. inside_is taken given k ∙ turned (is_some (find (owned taken) k)) (is_some (find (owned given) k)) (tally taken k) (tally given k));
  others = others_are front taken given back old new x y;
}

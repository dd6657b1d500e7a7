-- The spots before and after one, and the spot of a key.
use Rattle.std.proofs.Common.{◌≡◌, ℕ, zero, suc, ◌+◌, ◌-◌, ◌≤◌, ◌<◌, ◌⊎◌, Bool, true, false, cond, List, [], ◌∷◌, length, get_or, take, drop, Some, None, refl, sym, ap, ◌∙◌, subst, arith, inl, inr}
use Rattle.std.specs.Prelude.{nat_lt}
use Rattle.std.proofs.lemmas.Bool.{cases_lt}
use Rattle.std.proofs.lemmas.Bool.Decides.{nat_tests}
use Rattle.mm_keeper.specs.Entries.{Entries, rank, has, index_of, within, one_before, first_from, last_to}
use Rattle.mm_keeper.specs.Blocks.{Blocks, joined, place_in, AllSome}
use Rattle.mm_keeper.specs.Inside.Finding.{IsAt}
use Rattle.mm_keeper.specs.Facts.Blocked.{length-app, place-at, place-first, length-around, length-take_more, none_behind, some_at, take-all, get-past, rank-at, rank-end}

pub within-in : (m : Entries) (p n : ℕ) → p ≡ n → n < length m → Some p ≡ within m n
within-in m p n e l = ap (λ i. Some i) e ∙ by (nat_lt n (length m)) refl
  where
    by : (b : Bool) → nat_lt n (length m) ≡ b → Some n ≡ cond b (Some n) None
    by true q = refl
    by false q = absurd (grind (arith, nat_tests))

pub within-out : (m : Entries) (n : ℕ) → length m ≤ n → None ≡ within m n
within-out m n l = by (nat_lt n (length m)) refl
  where
    by : (b : Bool) → nat_lt n (length m) ≡ b → None ≡ cond b (Some n) None
    by true q = absurd (grind (arith, nat_tests))
    by false q = refl

before-in : (p n : ℕ) → p + 1 ≡ n → Some p ≡ one_before n
before-in p n e = by (nat_lt 0 n) refl
  where
    by : (b : Bool) → nat_lt 0 n ≡ b → Some p ≡ cond b (Some (n - 1)) None
    by true q = let h : p ≡ n - 1 = omega (arith, e) in ap (λ i. Some i) h
    by false q = absurd (grind (arith, nat_tests))

before-none : (n : ℕ) → n ≡ 0 → None ≡ one_before n
before-none n e = ap one_before (sym e)

some_behind : (bs : Blocks) (b : ℕ) → AllSome bs → suc b < length bs → 0 < length (joined (drop (suc b) bs))
some_behind [] b s l = absurd (omega (arith, l))
some_behind (m ∷ []) b s l = absurd (omega (arith, l))
some_behind (m ∷ (n ∷ bs)) zero s l = omega (arith, s.1.0, length-app n (joined bs))
some_behind (m ∷ (n ∷ bs)) (suc b) s l = some_behind (n ∷ bs) b s.1 (omega (arith, l))

-- ---- after an entry

pub after-inside : (bs : Blocks) (b i : ℕ) → b < length bs → i + 1 < length (get_or bs b []) → Some (place_in bs b (i + 1)) ≡ within (joined bs) (place_in bs b i + 1)
after-inside bs b i l h =
    let here = place-at bs b i (omega (arith, h)) in
    let next = place-at bs b (i + 1) h in
    within-in (joined bs) (place_in bs b (i + 1)) (place_in bs b i + 1) (omega (arith, here, next)) (omega (arith, here, h, length-around bs b l))

pub after-block : (bs : Blocks) (b c i : ℕ) → c ≡ suc b → AllSome bs → c < length bs → i < length (get_or bs b []) → length (get_or bs b []) ≤ i + 1
    → Some (place_in bs c 0) ≡ within (joined bs) (place_in bs b i + 1)
after-block bs b c i e s l h g =
    let more : suc b < length bs = omega (arith, e, l) in
    let here = place-at bs b i h in
    let next : place_in bs c 0 ≡ length (joined (take (suc b) bs)) = ap (λ n. place_in bs n 0) e ∙ place-first bs (suc b) s (omega (arith, more)) in
    within-in (joined bs) (place_in bs c 0) (place_in bs b i + 1) (omega (arith, here, next, h, g, length-take_more bs b (omega (arith, more))))
    (omega (arith, here, h, g, length-around bs b (omega (arith, more)), some_behind bs b s more))

pub after-none : (bs : Blocks) (b i : ℕ) → b < length bs → length bs ≤ b + 1 → i < length (get_or bs b []) → length (get_or bs b []) ≤ i + 1 → None ≡ within (joined bs) (place_in bs b i + 1)
after-none bs b i l m h g =
    within-out (joined bs) (place_in bs b i + 1) (omega (arith, place-at bs b i h, g, length-around bs b l, none_behind bs b (omega (arith, m))))

-- ---- before an entry

pub before-inside : (bs : Blocks) (b i : ℕ) → 0 < i → ((i ≡ 0) ⊎ (i < length (get_or bs b []))) → Some (place_in bs b (i - 1)) ≡ one_before (place_in bs b i)
before-inside bs b i l (inl h) = absurd (omega (arith, l, h))
before-inside bs b i l (inr h) =
    before-in (place_in bs b (i - 1)) (place_in bs b i) (omega (arith, l, place-at bs b i h, place-at bs b (i - 1) (omega (arith, h))))

pub before-first : (bs : Blocks) → AllSome bs → None ≡ one_before (place_in bs 0 0)
before-first bs s = before-none (place_in bs 0 0) (place-first bs 0 s (omega arith))

pub before-block : (bs : Blocks) (b : ℕ) (m : Entries) → AllSome bs → 0 < b → b ≤ length bs → m ≡ get_or bs (b - 1) [] → Some (place_in bs (b - 1) (length m - 1)) ≡ one_before (place_in bs b 0)
before-block bs b m s l h e =
    let a : suc (b - 1) ≡ b = omega (arith, l) in
    let n : length m ≡ length (get_or bs (b - 1) []) = ap length e in
    let some = some_at bs (b - 1) s (omega (arith, l, h)) in
    let more : length (joined (take b bs)) ≡ length (joined (take (b - 1) bs)) + length (get_or bs (b - 1) []) = subst (λ t. length (joined (take t bs)) ≡ length (joined (take (b - 1) bs)) + length (get_or bs (b - 1) [])) a (length-take_more bs (b - 1) (omega (arith, l, h))) in
    before-in (place_in bs (b - 1) (length m - 1)) (place_in bs b 0)
    (omega (arith, n, some, more, place-first bs b s h, place-at bs (b - 1) (length m - 1) (omega (arith, n, some))))

-- ---- the spot of a key

pub spot-rank : (k : List ℕ) (bs : Blocks) (b i : ℕ) → IsAt bs k b → AllSome bs → b ≤ length bs → i ≡ rank (get_or bs b []) k → place_in bs b i ≡ rank (joined bs) k
spot-rank k bs b i a s l e = elim (cases_lt b (length bs)) [
  | inl h ↦
      let inside = a.inside h in
      omega (arith, e, place-at bs b i (omega (arith, e, inside)), rank-at k bs b a h)
  | inr h ↦
      let zero_is : i ≡ 0 = e ∙ ap (λ m. rank m k) (get-past bs b h) in
      ap (λ n. place_in bs b n) zero_is ∙ place-first bs b s l ∙ ap length (take-all bs b h) ∙ sym (rank-end k bs b a h)
]

pub index-some : (m : Entries) (k : List ℕ) (p : ℕ) → p ≡ rank m k → has m k ≡ true → Some p ≡ index_of m k
index-some m k p e h = rw h (ap (λ i. Some i) e)

pub last-some : (m : Entries) (k : List ℕ) (p : ℕ) → p ≡ rank m k → has m k ≡ true → Some p ≡ last_to m k
last-some m k p e h = rw h (ap (λ i. Some i) e)

pub last-before : (m : Entries) (k : List ℕ) (p : ℕ) → p ≡ rank m k → has m k ≡ false → one_before p ≡ last_to m k
last-before m k p e h = rw h (ap one_before e)

pub up-in : (k : List ℕ) (bs : Blocks) (b i : ℕ) → IsAt bs k b → AllSome bs → b < length bs → i ≡ rank (get_or bs b []) k → Some (place_in bs b i) ≡ first_from (joined bs) k
up-in k bs b i a s l e =
    within-in (joined bs) (place_in bs b i) (rank (joined bs) k) (spot-rank k bs b i a s (omega (arith, l)) e) (omega (arith, a.inside l, rank-at k bs b a l, length-around bs b l))

pub up-none : (k : List ℕ) (bs : Blocks) (b : ℕ) → IsAt bs k b → length bs ≤ b → None ≡ first_from (joined bs) k
up-none k bs b a l = within-out (joined bs) (rank (joined bs) k) (omega (arith, rank-end k bs b a l))

-- the spot at which a key is sought may be the one behind the last entry
pub spot-index : (k : List ℕ) (bs : Blocks) (b i : ℕ) → IsAt bs k b → i ≡ rank (get_or bs b []) k → (i ≡ 0) ⊎ (i < length (get_or bs b []))
spot-index k bs b i a e = elim (cases_lt b (length bs)) [
  | inl h ↦ inr (let inside = a.inside h in omega (arith, e, inside))
  | inr h ↦ inl (e ∙ ap (λ m. rank m k) (get-past bs b h))
]

-- The shortest of some keyword lists, and what follows from its length.
use Rattle.std.proofs.Common.{inl, ◌≡◌, ℕ, zero, suc, ◌+◌, ◌*◌, ◌-◌, ◌<◌, ◌≤◌, Bool, true, false, cond, List, [], ◌∷◌, refl, ap, sym, subst, ◌∙◌, get_or, length, arith, eqb}
use Rattle.std.proofs.lemmas.Bool.{eqb-true}
use Rattle.mm_label.specs.Fronts.{Label, Meets}
use Rattle.mm_tree.specs.Trees.{Trees}
use Rattle.mm_tree.specs.Search.{Worded, list_of, lists_of}
use Rattle.mm_lists.specs.Full.{Word, MeetsAll}
use Rattle.mm_lists.specs.Shortest.{IsShortest, least}

pub length_lists : (qs : List Word) (forest : Trees Worded) → length (lists_of qs forest) ≡ length qs
length_lists [] forest = refl
length_lists (q ∷ qs) forest = ap suc (length_lists qs forest)

pub get_lists : (qs : List Word) (i : ℕ) (forest : Trees Worded) → i < length qs → get_or (lists_of qs forest) i [] ≡ list_of (get_or qs i []) forest
get_lists [] i forest h = absurd (omega arith)
get_lists (q ∷ qs) zero forest h = refl
get_lists (q ∷ qs) (suc i) forest h = get_lists qs i forest (omega arith)

pub least_le : (ls : List (List Label)) (i : ℕ) → i < length ls → least ls ≤ length (get_or ls i [])
least_le [] i h = absurd (omega arith)
least_le (l ∷ []) zero h = omega arith
least_le (l ∷ []) (suc i) h = absurd (omega arith)
least_le (l ∷ k ∷ ls) zero h = omega arith
least_le (l ∷ k ∷ ls) (suc i) h = omega (arith, least_le (k ∷ ls) i (omega arith))

pub least_bound : (ls : List (List Label)) (n : ℕ) → 0 < length ls → ((i : ℕ) → i < length ls → n ≤ length (get_or ls i [])) → n ≤ least ls
least_bound [] n h f = absurd (omega arith)
least_bound (l ∷ []) n h f = f 0 (omega arith)
least_bound (l ∷ k ∷ ls) n h f =
    let a : n ≤ length l = f 0 (omega arith) in
    let b : n ≤ least (k ∷ ls) = least_bound (k ∷ ls) n (omega arith) (λ i q. f (suc i) (omega arith)) in
    omega arith

pub least_is : (qs : List Word) (forest : Trees Worded) (at size : ℕ) → at < length qs → IsShortest qs forest at size → least (lists_of qs forest) ≡ size
least_is qs forest at size h s =
    let e = length_lists qs forest in
    let a : least (lists_of qs forest) ≤ length (get_or (lists_of qs forest) at []) = least_le (lists_of qs forest) at (omega arith) in
    let b : length (get_or (lists_of qs forest) at []) ≡ size = ap length (get_lists qs at forest h) ∙ s.0 in
    let c : size ≤ least (lists_of qs forest) = least_bound (lists_of qs forest) size (omega arith)
    (λ i q. let w : i < length qs = omega arith in subst (λ (l : List Label). size ≤ length l) (sym (get_lists qs i forest w)) (s.1 i w)) in
    omega arith

pub some_meets : (ms : List Label) → 0 < length ms → Meets [] ms
some_meets [] h = absurd (omega arith)
some_meets (m ∷ ms) h = inl tt

pub full_some : (qs : List Word) (forest : Trees Worded) → ((i : ℕ) → i < length qs → 0 < length (list_of (get_or qs i []) forest)) → MeetsAll [] (lists_of qs forest)
full_some [] forest f = tt
full_some (q ∷ qs) forest f = (some_meets (list_of q forest) (f 0 (omega arith)), full_some qs forest (λ i h. f (suc i) (omega arith)))

pub shortest_full : (qs : List Word) (forest : Trees Worded) (at size : ℕ) → IsShortest qs forest at size → 0 < size → MeetsAll [] (lists_of qs forest)
shortest_full qs forest at size s pos = full_some qs forest (λ i h. let t : size ≤ length (list_of (get_or qs i []) forest) = s.1 i h in omega arith)

-- ---- how the steps of the passes add up

pub cost_from : (b : Bool) (k m s : ℕ) → k ≤ cond b k (k + m + s)
cost_from true k m s = omega arith
cost_from false k m s = omega arith

pub no_zero : (n : ℕ) → 0 < n → eqb n 0 ≡ false
no_zero zero h = absurd (omega arith)
no_zero (suc n) h = by (eqb (suc n) 0) refl
  where
    by : (b : Bool) → eqb (suc n) 0 ≡ b → eqb (suc n) 0 ≡ false
    by true e = let t = eqb-true (suc n) 0 e in absurd (omega arith)
    by false e = e

pub some_steps : (k d : ℕ) → 0 < k → d ≤ 2 * k * d
some_steps zero d h = absurd (omega arith)
some_steps (suc j) d h = omega arith

-- after i of n passes
pub steps_so_far : (k i n : ℕ) → 0 < k → i ≤ n → 2 * k * i + n ≤ 2 * k * n + i
steps_so_far k i n h q =
    let e : n ≡ i + (n - i) = omega arith in
    subst (λ (m : ℕ). 2 * k * i + m ≤ 2 * k * m + i) (sym e) (omega (arith, some_steps k (n - i) h))

-- The matches of the first words of a query, and what they cost.
use Rattle.std.proofs.Common.{◌≡◌, ℕ, ◌+◌, ◌*◌, ◌^◌, ◌<◌, ◌≤◌, List, [], ◌∷◌, ◌++◌, sym, subst, ap, ◌∙◌, arith, length, get_or, take, drop, add-one, append_assoc, append-nil}
use Rattle.std.specs.Prelude.{filter}
use Rattle.std.proofs.Math.Nat.{two-pow-succ, mul-le-mul_right}
use Rattle.std.proofs.Math.Pow.{pow-lt}
use Rattle.std.proofs.lemmas.List.{take_more, drop_all, take-append-drop}
use Rattle.mm_list.specs.Facts.{drop_at}
use Rattle.mm_lists.specs.Full.{Word}
use Rattle.mm_match.specs.declared.mark.Mark.{Mark}
use Rattle.mm_tree.specs.Search.{has}
use Rattle.mm_tree.specs.Fragments.{Named, bare}
use Rattle.mm_fragment.specs.Bound.{holders, pairs}
use Rattle.mm_fragment.specs.Matching.{marks_of, matches_of}

pub twice : (i : ℕ) → 2 ^ i + 2 ^ i ≡ 2 ^ (i + 1)
twice i = sym (ap (λ (n : ℕ). 2 ^ n) (add-one i) ∙ two-pow-succ i)

-- the marks so far, and those of the words that are left, are all
pub matches_more : (ws : List Word) (i bit : ℕ) (w : Word) (es : List Named) (old new all : List Mark) → i < length ws → w ≡ get_or ws i w → bit ≡ 2 ^ i
    → old ++ matches_of (2 ^ i) (drop i ws) es ≡ all → new ≡ old ++ marks_of bit (filter (λ e. has (bare e) w) es) → new ++ matches_of (2 ^ (i + 1)) (drop (i + 1) ws) es ≡ all
matches_more ws i bit w es old new all h e b g n =
    ap (λ (ms : List Mark). ms ++ matches_of (2 ^ (i + 1)) (drop (i + 1) ws) es) (n ∙ ap (λ (k : ℕ). old ++ marks_of k (filter (λ d. has (bare d) w) es)) b)
    ∙ append_assoc old (marks_of (2 ^ i) (filter (λ d. has (bare d) w) es)) (matches_of (2 ^ (i + 1)) (drop (i + 1) ws) es)
    ∙ ap (λ (k : ℕ). old ++ (marks_of (2 ^ i) (filter (λ d. has (bare d) w) es) ++ matches_of k (drop (i + 1) ws) es)) (sym (twice i))
    ∙ ap (λ (vs : List Word). old ++ matches_of (2 ^ i) vs es) (sym (drop_at ws i w h e))
    ∙ g

pub matches_ended : (ws : List Word) (i : ℕ) (es : List Named) (old all : List Mark) → length ws ≤ i → old ++ matches_of (2 ^ i) (drop i ws) es ≡ all → old ≡ all
matches_ended ws i es old all h g = sym (append-nil old) ∙ ap (λ (vs : List Word). old ++ matches_of (2 ^ i) vs es) (sym (drop_all i ws h)) ∙ g

-- ---- the cost

pairs_joined : (vs ws : List Word) (es : List Named) → pairs (vs ++ ws) es ≡ pairs vs es + pairs ws es
pairs_joined [] ws es = omega arith
pairs_joined (v ∷ vs) ws es = let p = pairs_joined vs ws es in omega (arith, p)

pub pairs_more : (ws : List Word) (i : ℕ) (w : Word) (es : List Named) → i < length ws → w ≡ get_or ws i w → pairs (take (i + 1) ws) es ≡ pairs (take i ws) es + holders w es
pairs_more ws i w es h e =
    ap (λ (vs : List Word). pairs vs es) (take_more ws i w h ∙ ap (λ (v : Word). take i ws ++ v ∷ []) (sym e)) ∙ pairs_joined (take i ws) (w ∷ []) es ∙ omega arith

pub pairs_part : (ws : List Word) (i : ℕ) (es : List Named) → pairs (take i ws) es ≤ pairs ws es
pairs_part ws i es =
    let p = pairs_joined (take i ws) (drop i ws) es in
    let q : pairs (take i ws ++ drop i ws) es ≡ pairs ws es = ap (λ (vs : List Word). pairs vs es) (take-append-drop i ws) in
    omega arith

-- so many words cost no more than all
pub cost_part : (ws : List Word) (i full : ℕ) (es : List Named) → i ≤ length ws → pairs (take i ws) es + i * (full + 1) ≤ pairs ws es + length ws * (full + 1)
cost_part ws i full es h = let p = pairs_part ws i es in let q = mul-le-mul_right (full + 1) h in omega arith

-- and one word more costs no more than all
pub cost_next : (ws : List Word) (i full : ℕ) (w : Word) (es : List Named) → i < length ws → w ≡ get_or ws i w
    → pairs (take i ws) es + i * (full + 1) + (holders w es + (full + 1)) ≤ pairs ws es + length ws * (full + 1)
cost_next ws i full w es h e = let p = cost_part ws (i + 1) full es (omega arith) in let q = pairs_more ws i w es h e in omega arith

-- the bit of the next word
pub next_bit : (i bit next : ℕ) → (i < 32 → bit ≡ 2 ^ i) → (bit < 2 ^ 31 → next ≡ bit + bit) → i + 1 < 32 → next ≡ 2 ^ (i + 1)
next_bit i bit next b d h =
    let e = b (omega arith) in
    let l : i < 31 = omega arith in
    d (subst (λ (n : ℕ). n < 2 ^ 31) (sym e) (pow-lt l)) ∙ ap (λ (n : ℕ). n + n) e ∙ twice i

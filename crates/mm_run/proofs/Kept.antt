-- What is kept of a line that is longer than it may be.
use Rattle.std.proofs.Common.{◌≡◌, ℕ, ◌+◌, ◌-◌, ◌<◌, ◌≤◌, min, List, ◌∷◌, ◌++◌, length, take, drop, ap, sym, ◌∙◌, arith, ⊎_elim}
use Rattle.std.proofs.Math.Seq.{take-append-add}
use Rattle.std.proofs.lemmas.List.{take_all, drop-drop, drop-take, take-append-drop}
use Rattle.std.proofs.lemmas.Bool.{cases_lt}

-- as many as are there, or fewer
take-min : (xs : List ℕ) (n : ℕ) → take n xs ≡ take (min (length xs) n) xs
take-min xs n = ⊎_elim
    (λ (short : length xs < n). take_all n xs (omega arith) ∙ sym (take_all (min (length xs) n) xs (omega arith)))
    (λ (long : n ≤ length xs). let same : n ≡ min (length xs) n = omega arith in ap (λ (k : ℕ). take k xs) same)
    (cases_lt (length xs) n)

-- what fits of more bytes behind a text
pub take-within : (xs ys : List ℕ) (n fits : ℕ) → length xs ≤ n → fits ≡ min (length ys) (n - length xs) → xs ++ take fits ys ≡ take n (xs ++ ys)
take-within xs ys n fits room is =
    let split : n ≡ length xs + (n - length xs) = omega arith in
    sym (ap (λ (k : ℕ). take k (xs ++ ys)) split ∙ take-append-add xs ys (n - length xs) ∙ ap (λ l. xs ++ l) (take-min ys (n - length xs) ∙ ap (λ (k : ℕ). take k ys) (sym is)))

-- a window that begins later
drop-window : (xs : List ℕ) (at n k : ℕ) → k ≤ n → drop k (take n (drop at xs)) ≡ take (n - k) (drop (at + k) xs)
drop-window xs at n k le =
    let split : n ≡ k + (n - k) = omega arith in
    ap (λ (m : ℕ). drop k (take m (drop at xs))) split ∙ drop-take k (n - k) (drop at xs) ∙ ap (take (n - k)) (drop-drop k at xs)

-- what a window holds before a byte, the byte, and what it holds after it
pub window-split : (xs : List ℕ) (at end size b : ℕ) → size < length (take (end - at) (drop at xs))
    → drop size (take (end - at) (drop at xs)) ≡ b ∷ drop (size + 1) (take (end - at) (drop at xs)) → size + 1 ≤ end - at
    → take (end - at) (drop at xs) ≡ take size (take (end - at) (drop at xs)) ++ b ∷ take (end - (at + (size + 1))) (drop (at + (size + 1)) xs)
window-split xs at end size b within here le =
    let less : end - (at + (size + 1)) ≡ (end - at) - (size + 1) = omega arith in
    let later : drop (size + 1) (take (end - at) (drop at xs)) ≡ take (end - (at + (size + 1))) (drop (at + (size + 1)) xs)
    = drop-window xs at (end - at) (size + 1) le ∙ ap (λ (k : ℕ). take k (drop (at + (size + 1)) xs)) (sym less) in
    sym (take-append-drop size (take (end - at) (drop at xs))) ∙ ap (λ l. take size (take (end - at) (drop at xs)) ++ l) (here ∙ ap (λ l. b ∷ l) later)

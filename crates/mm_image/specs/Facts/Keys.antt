-- A word in a key ends at the first byte 00.
use Rattle.std.proofs.Common.{◌≡◌, ℕ, true, not, List, [], ◌∷◌, ◌++◌, refl, sym, subst}
use Rattle.std.specs.Prelude.{◌==◌}
use Rattle.std.proofs.lemmas.Bool.{and_parts}
use Rattle.mm_words.specs.Words.{has_no_zero, is_word}

pub no_zero : (w : List ℕ) → is_word w ≡ true → has_no_zero w ≡ true
no_zero w h = (and_parts _ (has_no_zero w) h).1

-- what holds no 00 has none in it
pub zero_within : (w r : List ℕ) → has_no_zero (w ++ (0 ∷ r)) ≡ true → ⊥
zero_within [] r h = cc
zero_within (x ∷ w) r h = zero_within w r (and_parts (not (x == 0)) (has_no_zero (w ++ (0 ∷ r))) h).1

-- the bytes before the first 00 are the word
pub same_word : (v w r s : List ℕ) → has_no_zero v ≡ true → has_no_zero w ≡ true → v ++ (0 ∷ r) ≡ w ++ (0 ∷ s) → (v ≡ w) × (r ≡ s)
same_word [] [] r s g h e = (refl, cc)
same_word [] (y ∷ w) r s g h e =
    let q : 0 ≡ y = cc in
    let z = subst (λ (n : ℕ). not (n == 0) ≡ true) (sym q) (and_parts (not (y == 0)) (has_no_zero w) h).0 in absurd cc
same_word (x ∷ v) [] r s g h e =
    let q : x ≡ 0 = cc in
    let z = subst (λ (n : ℕ). not (n == 0) ≡ true) q (and_parts (not (x == 0)) (has_no_zero v) g).0 in absurd cc
same_word (x ∷ v) (y ∷ w) r s g h e =
    let p : x ≡ y = cc in
    let t = same_word v w r s (and_parts (not (x == 0)) (has_no_zero v) g).1 (and_parts (not (y == 0)) (has_no_zero w) h).1 cc in
    let q = t.0 in (cc, t.1)

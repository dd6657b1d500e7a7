-- What the bytes of a key spell, and that they spell nothing else.
use Rattle.std.proofs.Common.{◌≡◌, ℕ, zero, suc, ◌+◌, ◌-◌, ◌*◌, ◌<◌, ◌/◌, ◌%◌, Bool, true, false, cond, not, ◌&&◌, List, [], ◌∷◌, ◌++◌, refl, ap, sym, subst, ◌∙◌, Some, None, length, get_or, take, drop, arith}
use Rattle.std.specs.Prelude.{◌==◌}
use Rattle.std.specs.Bool.{IsTrue}
use Rattle.std.proofs.lemmas.Bool.Decides.{nat_tests}
use Rattle.std.proofs.lemmas.List.{length-append}
use Rattle.std.proofs.Math.Seq.{take-length}
use Rattle.byteorder.specs.Endian.{big_bytes, big_number}
use Rattle.mm_label.specs.Bytes.{bytes_of}
use Rattle.mm_label.specs.Label.{SpellsNoLabel}
use Rattle.mm_words.specs.Words.{has_no_zero, is_word, word_in}
use Rattle.mm_image.specs.declared.parsed.Parsed.TheVariants.{Chunk, Occurrence, Count}
use Rattle.mm_image.specs.Facts.Keys.{no_zero, same_word, zero_within}
use Rattle.mm_image.specs.Keys.{StandsFor}

-- what a slice from the second byte on holds
pub behind_first : (xs : List ℕ) → take (length xs - 1) (drop 1 xs) ≡ drop 1 xs
behind_first [] = refl
behind_first (x ∷ xs) = let e : suc (length xs) - 1 ≡ length xs = omega arith in ap (λ (n : ℕ). take n xs) e ∙ take-length xs

-- two lists with equally long ends
pub same_front : (a b x y : List ℕ) → a ++ x ≡ b ++ y → length x ≡ length y → (a ≡ b) × (x ≡ y)
same_front [] [] x y e l = (refl, e)
same_front [] (c ∷ b) x y e l = let t : length x ≡ suc (length (b ++ y)) = ap length e in let u = length-append b y in absurd (omega arith)
same_front (c ∷ a) [] x y e l = let t : suc (length (a ++ x)) ≡ length y = ap length e in let u = length-append a x in absurd (omega arith)
same_front (c ∷ a) (d ∷ b) x y e l =
    let p : c ≡ d = cc in
    let q : a ++ x ≡ b ++ y = cc in
    let t = same_front a b x y q l in
    let u = t.0 in
    (cc, t.1)

-- ---- four bytes

pub four_bytes : (a b c d n : ℕ) → a < 256 → b < 256 → c < 256 → d < 256 → n ≡ a * 16777216 + (b * 65536 + (c * 256 + d)) → big_bytes 4 n ≡ a ∷ b ∷ c ∷ d ∷ []
four_bytes a b c d n p q r s e =
    let t : n / 16777216 % 256 ≡ a = omega arith in
    let u : n / 65536 % 256 ≡ b = omega arith in
    let v : n / 256 % 256 ≡ c = omega arith in
    let w : n % 256 ≡ d = omega arith in
    cc

-- a byte 00, and a number behind it
pub numbered_back : (back : List ℕ) (n : ℕ) → length back ≡ 5 → get_or back 0 0 ≡ 0 → ((i : ℕ) → get_or back i 0 < 256) → n ≡ big_number 4 (drop 1 back) → back ≡ 0 ∷ big_bytes 4 n
numbered_back [] n l e f g = absurd (omega arith)
numbered_back (z ∷ []) n l e f g = absurd (omega arith)
numbered_back (z ∷ a ∷ []) n l e f g = absurd (omega arith)
numbered_back (z ∷ a ∷ b ∷ []) n l e f g = absurd (omega arith)
numbered_back (z ∷ a ∷ b ∷ c ∷ []) n l e f g = absurd (omega arith)
numbered_back (z ∷ a ∷ b ∷ c ∷ d ∷ []) n l e f g =
    let t = four_bytes a b c d n (f 1) (f 2) (f 3) (f 4) (omega arith) in
    let u : z ≡ 0 = e in
    cc
numbered_back (z ∷ a ∷ b ∷ c ∷ d ∷ x ∷ r) n l e f g = absurd (omega arith)

-- ---- chunks

-- where the front spells no label, the key stands for no chunk
pub no_chunk : (rest front back : List ℕ) → rest ≡ front ++ back → length back ≡ 5 → SpellsNoLabel front → StandsFor (1 ∷ rest) None
no_chunk rest front back e l n (Chunk label number) k q =
    let t : bytes_of label ++ (0 ∷ big_bytes 4 number) ≡ front ++ back = cc in
    let u = same_front (bytes_of label) front (0 ∷ big_bytes 4 number) back t (sym l) in
    n label k.0 u.0
no_chunk rest front back e l n (Occurrence word label) k q = absurd cc
no_chunk rest front back e l n (Count word) k q = absurd cc

-- ---- words

-- the bytes before the first 00 hold none
pub word_front : (xs : List ℕ) (end : ℕ) → end < length xs → get_or xs end 0 ≡ 0 → ((k : ℕ) → k < end → get_or xs k 0 ≡ 0 → ⊥) → (has_no_zero (take end xs) ≡ true) × (xs ≡ take end xs ++ (0 ∷ drop 1 (drop end xs)))
word_front [] end h z b = absurd (omega arith)
word_front (x ∷ xs) zero h z b = let p : x ≡ 0 = z in (refl, cc)
word_front (x ∷ xs) (suc e) h z b =
    let t = word_front xs e (omega arith) z (λ k p q. b (suc k) (omega arith) q) in
    let u = t.1 in
    (both (x == 0) (has_no_zero (take e xs)) (apart (b 0 (omega arith))) t.0, cc)
  where
    apart : (x ≡ 0 → ⊥) → (x == 0) ≡ false
    apart n = grind (arith, nat_tests)

    both : (p q : Bool) → p ≡ false → q ≡ true → (not p && q) ≡ true
    both p q f g = cc

-- no byte is 00
pub all_but_zero : (xs : List ℕ) → ((k : ℕ) → k < length xs → get_or xs k 0 ≡ 0 → ⊥) → has_no_zero xs ≡ true
all_but_zero [] b = refl
all_but_zero (x ∷ xs) b = both (x == 0) (has_no_zero xs) (apart (b 0 (omega arith))) (all_but_zero xs (λ k p q. b (suc k) (omega arith) q))
  where
    apart : (x ≡ 0 → ⊥) → (x == 0) ≡ false
    apart n = grind (arith, nat_tests)

    both : (p q : Bool) → p ≡ false → q ≡ true → (not p && q) ≡ true
    both p q f g = cc

-- ---- occurrences

-- without a 00 the key stands for no occurrence
pub no_end : (rest : List ℕ) → has_no_zero rest ≡ true → StandsFor (2 ∷ rest) None
no_end rest n (Chunk label number) k q = absurd cc
no_end rest n (Occurrence word label) k q = let e : word ++ (0 ∷ bytes_of label) ≡ rest = cc in zero_within word (bytes_of label) (subst (λ (z : List ℕ). has_no_zero z ≡ true) (sym e) n)
no_end rest n (Count word) k q = absurd cc

-- where the bytes before the first 00 are no word, or those behind it spell no label, neither
pub no_occurrence : (rest front behind : List ℕ) → rest ≡ front ++ (0 ∷ behind) → has_no_zero front ≡ true → (IsTrue (is_word front) → SpellsNoLabel behind) → StandsFor (2 ∷ rest) None
no_occurrence rest front behind e n f (Chunk label number) k q = absurd cc
no_occurrence rest front behind e n f (Occurrence word label) k q =
    let t : word ++ (0 ∷ bytes_of label) ≡ front ++ (0 ∷ behind) = cc in
    let u = same_word word front (bytes_of label) behind (no_zero word k.0) n t in
    f (subst (λ (z : List ℕ). IsTrue (is_word z)) u.0 k.0) label k.1 u.1
no_occurrence rest front behind e n f (Count word) k q = absurd cc

pub no_word : (front : List ℕ) → word_in front ≡ None → IsTrue (is_word front) → ⊥
no_word front e h = let t : word_in front ≡ Some front = ap (λ (b : Bool). cond b (Some front) None) h in absurd cc

pub word_found : (word front : List ℕ) → Some word ≡ word_in front → (word ≡ front) × IsTrue (is_word word)
word_found word front e = by (is_word front) refl e
  where
    by : (b : Bool) → is_word front ≡ b → Some word ≡ cond b (Some front) None → (word ≡ front) × IsTrue (is_word word)
    by true h k = let t : word ≡ front = cc in (t, ap is_word t ∙ h)
    by false h k = absurd cc

-- Cutting at the first byte.
use Rattle.std.proofs.Common.{◌≡◌, ℕ, ◌<◌, Bool, true, false, cond, not, List, [], ◌∷◌, ◌++◌, ◌+◌, length, ap, ap₂, refl, sym, ◌∙◌, arith, flat_map, append-nil, take, drop, suc, length-drop, get_or, subst}
use Rattle.std.specs.List.{position_or_len, before_first, after_first}
use Rattle.std.proofs.lemmas.Bool.Decides.{nat_tests}
use Rattle.mm_words.specs.Words.{text_words}
use Rattle.mm_words.specs.Words.{is_cut, name_pieces, onto_first, name_words}

abbrev place : List ℕ → ℕ
place bs = position_or_len is_cut bs

pub cut_none : (bs : List ℕ) → place bs ≡ length bs → name_pieces bs ≡ bs ∷ []
cut_none [] e = refl
cut_none (b ∷ bs) e = by_test (is_cut b) (place (b ∷ bs)) refl e (cut_none bs)
  where
    by_test : (t : Bool) (m : ℕ) → m ≡ cond (not t) (1 + place bs) 0 → m ≡ suc (length bs) → (place bs ≡ length bs → name_pieces bs ≡ bs ∷ []) → cond t ([] ∷ name_pieces bs) (onto_first b (name_pieces bs)) ≡ (b ∷ bs) ∷ []
    by_test true m f e rest = absurd (omega (arith, e, f))
    by_test false m f e rest = ap (onto_first b) (rest (omega (arith, e, f)))

take_none : (bs : List ℕ) (m : ℕ) → m ≡ 0 → take m bs ≡ []
take_none bs m e = ap (λ n. take n bs) e

take_more : (b : ℕ) (bs : List ℕ) (q m : ℕ) → m ≡ 1 + q → take m (b ∷ bs) ≡ b ∷ take q bs
take_more b bs q m e = let f : m ≡ suc q = omega (arith, e) in ap (λ n. take n (b ∷ bs)) f

drop_none : (b : ℕ) (bs : List ℕ) (m : ℕ) → m ≡ 0 → drop (m + 1) (b ∷ bs) ≡ bs
drop_none b bs m e = let f : m + 1 ≡ suc 0 = omega (arith, e) in ap (λ n. drop n (b ∷ bs)) f

drop_more : (b : ℕ) (bs : List ℕ) (q m : ℕ) → m ≡ 1 + q → drop (m + 1) (b ∷ bs) ≡ drop (q + 1) bs
drop_more b bs q m e = let f : m + 1 ≡ suc (q + 1) = omega (arith, e) in ap (λ n. drop n (b ∷ bs)) f

pub cut_first : (bs : List ℕ) → place bs < length bs → name_pieces bs ≡ take (place bs) bs ∷ name_pieces (drop (place bs + 1) bs)
cut_first [] h = absurd (omega (arith, h))
cut_first (b ∷ bs) h = by_test (is_cut b) (place (b ∷ bs)) refl h (cut_first bs)
  where
    by_test : (t : Bool) (m : ℕ) → m ≡ cond (not t) (1 + place bs) 0 → m < suc (length bs) → (place bs < length bs → name_pieces bs ≡ take (place bs) bs ∷ name_pieces (drop (place bs + 1) bs))
        → cond t ([] ∷ name_pieces bs) (onto_first b (name_pieces bs)) ≡ take m (b ∷ bs) ∷ name_pieces (drop (m + 1) (b ∷ bs))
    by_test true m e h rest = ap₂ (λ xs ys. xs ∷ name_pieces ys) (sym (take_none (b ∷ bs) m e)) (sym (drop_none b bs m e))
    by_test false m e h rest =
        ap (onto_first b) (rest (omega (arith, e, h)))
        ∙ ap₂ (λ xs ys. xs ∷ name_pieces ys) (sym (take_more b bs (place bs) m e)) (sym (drop_more b bs (place bs) m e))

pub words_none : (bs : List ℕ) → place bs ≡ length bs → name_words bs ≡ text_words bs
words_none bs e = ap (λ ps. flat_map text_words ps) (cut_none bs e) ∙ append-nil (text_words bs)

pub words_first : (bs before after : List ℕ) → place bs < length bs → before ≡ before_first is_cut bs → after ≡ after_first is_cut bs → name_words bs ≡ text_words before ++ name_words after
words_first bs before after h e f =
    ap (λ ps. flat_map text_words ps) (cut_first bs h) ∙ ap₂ (λ x y. text_words x ++ name_words y) (sym e) (sym f)

place_cuts : (bs : List ℕ) → place bs < length bs → is_cut (get_or bs (place bs) 0) ≡ true
place_cuts [] h = absurd (omega (arith, h))
place_cuts (b ∷ bs) h = by_test (is_cut b) refl (place (b ∷ bs)) refl h (place_cuts bs)
  where
    by_test : (t : Bool) → is_cut b ≡ t → (m : ℕ) → m ≡ cond (not t) (1 + place bs) 0 → m < suc (length bs) → (place bs < length bs → is_cut (get_or bs (place bs) 0) ≡ true) → is_cut (get_or (b ∷ bs) m 0) ≡ true
    by_test true s m e h rest = ap (λ n. is_cut (get_or (b ∷ bs) n 0)) e ∙ s
    by_test false s m e h rest = let f : m ≡ suc (place bs) = omega (arith, e) in ap (λ n. is_cut (get_or (b ∷ bs) n 0)) f ∙ rest (omega (arith, e, h))

cut_ascii : (b : ℕ) → is_cut b ≡ true → b < 128
cut_ascii b h = grind (arith, nat_tests)

-- the cut is one byte of ASCII
pub cut_low : (bs : List ℕ) (i : ℕ) → i ≡ position_or_len is_cut bs → i < length bs → get_or bs i 0 < 128
cut_low bs i e h = cut_ascii (get_or bs i 0) (ap (λ n. is_cut (get_or bs n 0)) e ∙ place_cuts bs (subst (λ n. n < length bs) e h))

pub cuts_there : (bs before after : List ℕ) (i : ℕ) → i ≡ position_or_len is_cut bs → i < length bs → before ≡ take i bs → after ≡ drop (i + 1) bs → (name_words bs ≡ text_words before ++ name_words after) × (length after < length bs)
cuts_there bs before after i e h f g =
    (words_first bs before after (subst (λ n. n < length bs) e h) (f ∙ ap (λ n. take n bs) e) (g ∙ ap (λ n. drop (n + 1) bs) e), omega (arith, h, ap (λ (zs : List ℕ). length zs) g, length-drop (i + 1) bs))

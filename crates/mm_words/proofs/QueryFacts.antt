-- What the words of a query are.
use Rattle.std.proofs.Common.{◌≡◌, ◌≢◌, ℕ, ◌≤◌, Bool, true, false, cond, not, ◌&&◌, ◌||◌, List, [], ◌∷◌, ◌++◌, length, ap, subst, sym, refl, ◌∙◌, filter, map, find, leb, ltb, bytes_eq, arith, Some, None, option_map, length-append}
use Rattle.std.specs.List.{list_all, list_any}
use Rattle.std.specs.Char.{encode_utf8}
use Rattle.std.specs.Str.{chars, encode_utf8_all}
use Rattle.std.proofs.lemmas.Bool.Decides.{nat_tests}
use Rattle.unicode_segmentation.proofs.TextLemmas.{encode_utf8_nonempty}
use Rattle.unicode_segmentation.specs.Word.{words, word_bounds}
use Rattle.unicode_segmentation.specs.Segments.{has_alphanumeric, is_alphanumeric}
use Rattle.caseless.specs.Caseless.{default_case_fold}
use Rattle.caseless.proofs.CaselessLemmas.{default_case_fold-cons}
use Rattle.ucd_case.specs.CaseFolding.{full_folding, or_itself}
use Rattle.mm_words.specs.Words.{folded, has_no_zero, is_word, without, first_occurrences, kept_words, query_words, are_distinct, IsQuery}
use Rattle.mm_words.specs.Refusals.{is_long, first_long}

both : (a b : Bool) → (a && b) ≡ true → (a ≡ true) × (b ≡ true)
both true b e = (refl, e)
both false b e = absurd cc

both_true : (a b : Bool) → a ≡ true → b ≡ true → (a && b) ≡ true
both_true a b e f = rw (e, f) refl

-- ---- lists of which some words are left out

-- a test that all pass is passed by those that are left
all_left : (p q : List ℕ → Bool) (ws : List (List ℕ)) → list_all p ws ≡ true → list_all p (filter q ws) ≡ true
all_left p q [] h = refl
all_left p q (w ∷ ws) h = let b = both (p w) (list_all p ws) h in by_test (q w) b.0 (all_left p q ws b.1)
  where
    by_test : (b : Bool) → p w ≡ true → list_all p (filter q ws) ≡ true → list_all p (cond b (w ∷ filter q ws) (filter q ws)) ≡ true
    by_test true e rest = both_true (p w) (list_all p (filter q ws)) e rest
    by_test false e rest = rest

all_pass : (p : List ℕ → Bool) (ws : List (List ℕ)) → list_all p (filter p ws) ≡ true
all_pass p [] = refl
all_pass p (w ∷ ws) = by_test (p w) refl (all_pass p ws)
  where
    by_test : (b : Bool) → p w ≡ b → list_all p (filter p ws) ≡ true → list_all p (cond b (w ∷ filter p ws) (filter p ws)) ≡ true
    by_test true e rest = both_true (p w) (list_all p (filter p ws)) e rest
    by_test false e rest = rest

none_left : (p q : List ℕ → Bool) (ws : List (List ℕ)) → list_any p ws ≡ false → list_any p (filter q ws) ≡ false
none_left p q [] h = refl
none_left p q (w ∷ ws) h = let n = neither (p w) (list_any p ws) h in by_test (q w) n.0 (none_left p q ws n.1)
  where
    neither : (a b : Bool) → (a || b) ≡ false → (a ≡ false) × (b ≡ false)
    neither true b e = absurd cc
    neither false b e = (refl, e)

    by_test : (b : Bool) → p w ≡ false → list_any p (filter q ws) ≡ false → list_any p (cond b (w ∷ filter q ws) (filter q ws)) ≡ false
    by_test true e rest = rw (e, rest) refl
    by_test false e rest = rest

-- the word is not among those without it
left_out : (w : List ℕ) (ws : List (List ℕ)) → list_any (bytes_eq w) (without w ws) ≡ false
left_out w [] = refl
left_out w (v ∷ vs) = by_test (bytes_eq w v) refl (left_out w vs)
  where
    by_test : (b : Bool) → bytes_eq w v ≡ b → list_any (bytes_eq w) (without w vs) ≡ false → list_any (bytes_eq w) (cond (not b) (v ∷ without w vs) (without w vs)) ≡ false
    by_test true e rest = rest
    by_test false e rest = rw (e, rest) refl

distinct_left : (q : List ℕ → Bool) (ws : List (List ℕ)) → are_distinct ws ≡ true → are_distinct (filter q ws) ≡ true
distinct_left q [] h = refl
distinct_left q (w ∷ ws) h = let b = both (not (list_any (bytes_eq w) ws)) (are_distinct ws) h in by_test (q w) (no (list_any (bytes_eq w) ws) b.0) (distinct_left q ws b.1)
  where
    no : (a : Bool) → not a ≡ true → a ≡ false
    no true e = absurd cc
    no false e = refl

    by_test : (b : Bool) → list_any (bytes_eq w) ws ≡ false → are_distinct (filter q ws) ≡ true → are_distinct (cond b (w ∷ filter q ws) (filter q ws)) ≡ true
    by_test true n rest = both_true (not (list_any (bytes_eq w) (filter q ws))) (are_distinct (filter q ws)) (ap not (none_left (bytes_eq w) q ws n)) rest
    by_test false n rest = rest

occurrences_distinct : (ws : List (List ℕ)) → are_distinct (first_occurrences ws) ≡ true
occurrences_distinct [] = refl
occurrences_distinct (w ∷ ws) =
    both_true (not (list_any (bytes_eq w) (without w (first_occurrences ws)))) (are_distinct (without w (first_occurrences ws)))
    (ap not (left_out w (first_occurrences ws))) (distinct_left (λ v. not (bytes_eq w v)) (first_occurrences ws) (occurrences_distinct ws))

occurrences_all : (p : List ℕ → Bool) (ws : List (List ℕ)) → list_all p ws ≡ true → list_all p (first_occurrences ws) ≡ true
occurrences_all p [] h = refl
occurrences_all p (w ∷ ws) h =
    let b = both (p w) (list_all p ws) h in
    both_true (p w) (list_all p (without w (first_occurrences ws))) b.0 (all_left p (λ v. not (bytes_eq w v)) (first_occurrences ws) (occurrences_all p ws b.1))

-- ---- a folded word has at least one byte

is_some : List ℕ → Bool
is_some bytes = leb 1 (length bytes)

encoded_some : (cs : List ℕ) → 1 ≤ length cs → is_some (encode_utf8_all cs) ≡ true
unfolding is_some
encoded_some [] h = absurd (omega (arith, h))
encoded_some (c ∷ cs) h =
    let some : 1 ≤ length (encode_utf8 c ++ encode_utf8_all cs) = omega (arith, encode_utf8_nonempty c, length-append (encode_utf8 c) (encode_utf8_all cs)) in
    grind (arith, nat_tests, some)

folding_some : (c : ℕ) (cs : List ℕ) → 1 ≤ length (default_case_fold (c ∷ cs))
folding_some c cs = subst (λ (ds : List ℕ). 1 ≤ length ds) (sym (default_case_fold-cons c cs)) (by_table (full_folding c))
  where
    by_table : (table : List ℕ) → 1 ≤ length (or_itself c table ++ default_case_fold cs)
    by_table [] = omega arith
    by_table (d ∷ ds) = omega arith

folded_some : (piece : List ℕ) → has_alphanumeric piece ≡ true → is_some (folded piece) ≡ true
unfolding has_alphanumeric
folded_some piece h = by_chars (chars piece) h
  where
    by_chars : (cs : List ℕ) → list_any is_alphanumeric cs ≡ true → is_some (encode_utf8_all (default_case_fold cs)) ≡ true
    by_chars [] e = absurd cc
    by_chars (c ∷ cs) e = encoded_some (default_case_fold (c ∷ cs)) (folding_some c cs)

pieces_some : (pieces : List (List ℕ)) → list_all is_some (map folded (filter has_alphanumeric pieces)) ≡ true
pieces_some [] = refl
pieces_some (piece ∷ pieces) = by_test (has_alphanumeric piece) refl (pieces_some pieces)
  where
    by_test : (b : Bool) → has_alphanumeric piece ≡ b → list_all is_some (map folded (filter has_alphanumeric pieces)) ≡ true → list_all is_some (map folded (cond b (piece ∷ filter has_alphanumeric pieces) (filter has_alphanumeric pieces))) ≡ true
    by_test true e rest = both_true (is_some (folded piece)) (list_all is_some (map folded (filter has_alphanumeric pieces))) (folded_some piece e) rest
    by_test false e rest = rest

-- ---- the words of a query

query_some : (text : List ℕ) → list_all is_some (query_words text) ≡ true
query_some text = occurrences_all is_some (kept_words text) (all_left is_some has_no_zero (map folded (words text)) (pieces_some (word_bounds text)))

query_no_zero : (text : List ℕ) → list_all has_no_zero (query_words text) ≡ true
query_no_zero text = occurrences_all has_no_zero (kept_words text) (all_pass has_no_zero (map folded (words text)))

word_is : (w : List ℕ) → is_some w ≡ true → has_no_zero w ≡ true → is_long w ≡ false → is_word w ≡ true
unfolding is_some
word_is w s z l = let short : leb (length w) 256 ≡ true = at_most (length w) l in rw (s, short) z
  where
    at_most : (n : ℕ) → ltb 256 n ≡ false → leb n 256 ≡ true
    at_most n e = grind (arith, nat_tests)

-- where none is too long, all are words
none_long : (ws : List (List ℕ)) → list_all is_some ws ≡ true → list_all has_no_zero ws ≡ true → first_long ws ≡ None → list_all is_word ws ≡ true
none_long [] s z e = refl
none_long (w ∷ ws) s z e =
    let a = both (is_some w) (list_all is_some ws) s in let b = both (has_no_zero w) (list_all has_no_zero ws) z in
    by_test (is_long w) refl a.0 b.0 (none_long ws a.1 b.1) e
  where
    by_test : (t : Bool) → is_long w ≡ t → is_some w ≡ true → has_no_zero w ≡ true → (first_long ws ≡ None → list_all is_word ws ≡ true) → option_map (λ v. length v) (cond t (Some w) (find is_long ws)) ≡ None → list_all is_word (w ∷ ws) ≡ true
    by_test true l a b rest e = absurd cc
    by_test false l a b rest e = both_true (is_word w) (list_all is_word ws) (word_is w a b l) (rest e)

same_left : (p : List ℕ → Bool) (ws : List (List ℕ)) → list_all p ws ≡ true → filter p ws ≡ ws
same_left p [] h = refl
same_left p (w ∷ ws) h = let b = both (p w) (list_all p ws) h in rw (b.0, same_left p ws b.1) refl

-- the words that were made of those of a text
pub made_same : (text : List ℕ) (kept found words : List (List ℕ)) → kept ≡ kept_words text → found ≡ first_occurrences kept → None ≡ first_long found → words ≡ filter is_word found → words ≡ query_words text
made_same text kept found words k f l w =
    let asked : found ≡ query_words text = f ∙ ap first_occurrences k in
    let none : first_long (query_words text) ≡ None = sym (l ∙ ap first_long asked) in
    w ∙ ap (filter is_word) asked ∙ same_left is_word (query_words text) (none_long (query_words text) (query_some text) (query_no_zero text) none)

pub made_query : (text : List ℕ) (kept found words : List (List ℕ)) → kept ≡ kept_words text → found ≡ first_occurrences kept → None ≡ first_long found → words ≡ filter is_word found → (n : ℕ) → n ≡ length found → n ≢ 0 → n ≤ 32 → IsQuery words
made_query text kept found words k f l w n e some few =
    let asked : found ≡ query_words text = f ∙ ap first_occurrences k in
    let none : first_long (query_words text) ≡ None = sym (l ∙ ap first_long asked) in
    let same = made_same text kept found words k f l w in
    let size : n ≡ length words = e ∙ ap length (asked ∙ sym same) in record {
      some = omega arith;
      few = omega arith;
      each = ap (list_all is_word) same ∙ none_long (query_words text) (query_some text) (query_no_zero text) none;
      distinct = ap are_distinct same ∙ occurrences_distinct (kept_words text);
    }

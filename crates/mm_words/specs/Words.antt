-- The words of texts, of names and of queries.
-- A text is cut into words by Unicode Standard Annex 29 (`words`), and each is folded by the default case folding of the Unicode standard's caseless matching (`default_case_fold`).
use Rattle.std.specs.Prelude.{ℕ, ◌≡◌, ◌==◌, ◌↔◌, ◌≤◌, Bool, true, false, ◌&&◌, ◌||◌, not, nat_le, List, [], ◌∷◌, length, map, filter, flat_map, chars, encode_utf8_all, Option, Some, None, if◌then◌else◌, IsTrue, Contains, bytes_eq, codes, refl}
use Rattle.std.specs.List.{list_all, list_any}
use Rattle.std.specs.List.Sorted.{IsStrictlySortedBy}
use Rattle.std.specs.Cmp.Lexicographic.{slice_cmp}
use Rattle.std.specs.Ordering.{nat_cmp}
use Rattle.unicode_segmentation.specs.Word.{words}
use Rattle.caseless.specs.Caseless.{default_case_fold}

-- the bytes with case folded
abbrev pub folded : List ℕ → List ℕ
folded bytes = encode_utf8_all (default_case_fold (chars bytes))

abbrev pub has_no_zero : List ℕ → Bool
has_no_zero bytes = list_all (λ b. not (b == 0)) bytes

-- the most bytes of a word
abbrev pub word_limit : ℕ
word_limit = 256

-- at least one byte and no more than the limit, none of them 00
abbrev pub is_word : List ℕ → Bool
is_word bytes = nat_le 1 (length bytes) && nat_le (length bytes) word_limit && has_no_zero bytes

-- the word that has these bytes, if one has
abbrev pub word_in : List ℕ → Option (List ℕ)
word_in bytes = if is_word bytes then Some bytes else None

-- the words among these pieces, folded, in order
abbrev pub words_in : List (List ℕ) → List (List ℕ)
words_in pieces = filter is_word (map folded pieces)

-- the words of a text, in order
abbrev pub text_words : List ℕ → List (List ℕ)
text_words text = words_in (words text)

-- `:`, `-`, `.` or `_`
abbrev pub is_cut : ℕ → Bool
is_cut b = (b == 58) || (b == 45) || (b == 46) || (b == 95)

-- the byte in front of the first piece
abbrev pub onto_first : ℕ → List (List ℕ) → List (List ℕ)
onto_first b [] = (b ∷ []) ∷ []
onto_first b (p ∷ ps) = (b ∷ p) ∷ ps

-- the pieces of a name between its cuts
abbrev pub name_pieces : List ℕ → List (List ℕ)
name_pieces [] = [] ∷ []
name_pieces (b ∷ bs) = if is_cut b then [] ∷ name_pieces bs else onto_first b (name_pieces bs)

-- the words of a name, which are those of its pieces
abbrev pub name_words : List ℕ → List (List ℕ)
name_words name = flat_map text_words (name_pieces name)

-- the sorted list of these, each once
pub record IsSetOf (these : List (List ℕ)) (list : List (List ℕ)) : Type 0 where
  pub rises : IsStrictlySortedBy (slice_cmp nat_cmp) list
  pub same : (w : List ℕ) → Contains list w ↔ Contains these w

-- ---- queries

-- these without one of them
abbrev pub without : List ℕ → List (List ℕ) → List (List ℕ)
without w ws = filter (λ v. not (bytes_eq w v)) ws

-- each once, in order of first occurrence
abbrev pub first_occurrences : List (List ℕ) → List (List ℕ)
first_occurrences [] = []
first_occurrences (w ∷ ws) = w ∷ without w (first_occurrences ws)

-- these pieces folded, without those that hold a byte 00; they may be too long for words
abbrev pub kept_in : List (List ℕ) → List (List ℕ)
kept_in pieces = filter has_no_zero (map folded pieces)

abbrev pub kept_words : List ℕ → List (List ℕ)
kept_words text = kept_in (words text)

-- the words of a query, each once, in order of first occurrence
abbrev pub query_words : List ℕ → List (List ℕ)
query_words text = first_occurrences (kept_words text)

abbrev pub are_distinct : List (List ℕ) → Bool
are_distinct [] = true
are_distinct (w ∷ ws) = not (list_any (bytes_eq w) ws) && are_distinct ws

-- the most words of a query
abbrev pub query_limit : ℕ
query_limit = 32

-- at least one word and no more than the limit, all distinct
pub record IsQuery (ws : List (List ℕ)) : Type 0 where
  pub some : 1 ≤ length ws
  pub few : length ws ≤ query_limit
  pub each : IsTrue (list_all is_word ws)
  pub distinct : IsTrue (are_distinct ws)

-- ---- worked examples

-- letters, an apostrophe and digits; no bytes at all; a byte 00
a_word : is_word (codes "can't") ≡ true
a_word = refl

no_bytes : is_word [] ≡ false
no_bytes = refl

zero_byte : is_word (119 ∷ 0 ∷ []) ≡ false
zero_byte = refl

xml_lang : name_pieces (codes "xml:lang") ≡ codes "xml" ∷ codes "lang" ∷ []
xml_lang = refl

empty_piece : name_pieces (codes "a-b._c") ≡ codes "a" ∷ codes "b" ∷ [] ∷ codes "c" ∷ []
empty_piece = refl

once_each : first_occurrences (codes "b" ∷ codes "a" ∷ codes "b" ∷ codes "a" ∷ []) ≡ codes "b" ∷ codes "a" ∷ []
once_each = refl

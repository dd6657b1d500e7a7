-- Worked examples of words, after the Unicode standard.
use Rattle.std.specs.Prelude.{ℕ, List, [], ◌∷◌, ◌++◌, ◌≡◌, refl, codes, encode_utf8_all}
use Rattle.unicode_segmentation.proofs.Computing.{unicode_segmentation}
use Rattle.caseless.proofs.Computing.{caseless}
use Rattle.mm_words.specs.Words.{text_words, name_words, query_words}

abbrev spelled : List ℕ → List ℕ
spelled = encode_utf8_all

-- sharp s is folded to two letters
strasse : text_words (spelled (0x53 ∷ 0x74 ∷ 0x72 ∷ 0x61 ∷ 0xDF ∷ 0x65 ∷ [])) ≡ codes "strasse" ∷ []
unfolding unicode_segmentation caseless
strasse = refl

one_word : text_words (codes "can't") ≡ codes "can't" ∷ []
unfolding unicode_segmentation caseless
one_word = refl

with_digits : text_words (codes "w63") ≡ codes "w63" ∷ []
unfolding unicode_segmentation caseless
with_digits = refl

-- names are cut at a colon, texts aren't
name : name_words (codes "xml:lang") ≡ codes "xml" ∷ codes "lang" ∷ []
unfolding unicode_segmentation caseless
name = refl

text : text_words (codes "xml:lang foo_bar") ≡ codes "xml:lang" ∷ codes "foo_bar" ∷ []
unfolding unicode_segmentation caseless
text = refl

-- e with an acute accent, in one character and in two
two_spellings : text_words (spelled (0xE9 ∷ 0x20 ∷ 0x65 ∷ 0x301 ∷ [])) ≡ spelled (0xE9 ∷ []) ∷ spelled (0x65 ∷ 0x301 ∷ []) ∷ []
unfolding unicode_segmentation caseless
two_spellings = refl

-- full stops, and an emoji
nothing : text_words (codes "... " ++ spelled (0x1F600 ∷ [])) ≡ []
unfolding unicode_segmentation caseless
nothing = refl

asked : query_words (codes "Search SEARCH liu") ≡ codes "search" ∷ codes "liu" ∷ []
unfolding unicode_segmentation caseless
asked = refl

-- Han and Thai are cut between characters, Hangul isn't
han_thai_hangul : text_words (spelled (0x6F22 ∷ 0x5B57 ∷ 0x20 ∷ 0xE01 ∷ 0xE32 ∷ 0x20 ∷ 0xD55C ∷ 0xAD6D ∷ [])) ≡ spelled (0x6F22 ∷ []) ∷ spelled (0x5B57 ∷ []) ∷ spelled (0xE01 ∷ []) ∷ spelled (0xE32 ∷ []) ∷ spelled (0xD55C ∷ 0xAD6D ∷ []) ∷ []
unfolding unicode_segmentation caseless
han_thai_hangul = refl

-- Hebrew keeps a quote between letters, and Cyrillic capitals are folded
hebrew_cyrillic : text_words (spelled (0x5E6 ∷ 0x5D4 ∷ 0x22 ∷ 0x5DC ∷ 0x20 ∷ 0x41C ∷ 0x41E ∷ [])) ≡ spelled (0x5E6 ∷ 0x5D4 ∷ 0x22 ∷ 0x5DC ∷ []) ∷ spelled (0x43C ∷ 0x43E ∷ []) ∷ []
unfolding unicode_segmentation caseless
hebrew_cyrillic = refl

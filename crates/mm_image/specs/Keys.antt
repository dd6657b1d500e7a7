-- The keys of a forest's entries.
use Rattle.std.specs.Prelude.{ℕ, ℤ, ◌<◌, ◌^◌, ◌≡◌, List, ◌∷◌, ◌++◌, Option, Some, None, IsTrue}
use Rattle.byteorder.specs.Endian.{big_bytes}
use Rattle.mm_label.specs.Bytes.{bytes_of}
use Rattle.mm_label.specs.Label.{IsLabel}
use Rattle.mm_words.specs.Words.{is_word}
use Rattle.mm_image.specs.declared.parsed.Parsed.{Parsed}
use Rattle.mm_image.specs.declared.parsed.Parsed.TheVariants.{Chunk, Occurrence, Count}

-- of a piece of a node's content: 01, the label's bytes, 00, the number of the piece in four bytes
abbrev pub chunk_key : List ℤ → ℕ → List ℕ
chunk_key label number = 1 ∷ bytes_of label ++ (0 ∷ big_bytes 4 number)

-- of a word and a node that holds it: 02, the word's bytes, 00, the label's bytes
abbrev pub occurrence_key : List ℕ → List ℤ → List ℕ
occurrence_key word label = 2 ∷ word ++ (0 ∷ bytes_of label)

-- of a word: 03, the word's bytes
abbrev pub count_key : List ℕ → List ℕ
count_key word = 3 ∷ word

abbrev pub key_of : Parsed → List ℕ
key_of (Chunk label number) = chunk_key label number
key_of (Occurrence word label) = occurrence_key word label
key_of (Count word) = count_key word

-- what a key can stand for: of labels, words and numbers of four bytes
abbrev pub IsKeyed : Parsed → Type 0
IsKeyed (Chunk label number) = IsLabel label × (number < 2 ^ 32)
IsKeyed (Occurrence word label) = IsTrue (is_word word) × IsLabel label
IsKeyed (Count word) = IsTrue (is_word word)

-- the key stands for this, or for nothing at all
abbrev pub StandsFor : List ℕ → Option Parsed → Type 0
StandsFor key (Some p) = IsKeyed p × (key_of p ≡ key)
StandsFor key None = (p : Parsed) → IsKeyed p → key_of p ≡ key → ⊥

-- What keys, values and images keep, as statements that the laws prove.
use Rattle.std.specs.Prelude.{ℕ, ℤ, ◌<◌, ◌^◌, ◌≡◌, true, List, length, get_or, Some, IsTrue}
use Rattle.std.specs.Cmp.Lexicographic.{slice_cmp}
use Rattle.std.specs.Ordering.{int_cmp, nat_cmp, ordering_then}
use Rattle.mm_keeper.specs.Entries.{IsSorted}
use Rattle.mm_label.specs.Label.{IsLabel}
use Rattle.mm_words.specs.Words.{is_word}
use Rattle.mm_tree.specs.declared.plain.Kind.{Kind}
use Rattle.mm_tree.specs.Forests.{is_well_formed}
use Rattle.mm_tree.specs.Hits.{name_of}
use Rattle.mm_tree.specs.Numbering.{Labelled}
use Rattle.mm_tree.specs.Search.{Worded, list_of}
use Rattle.mm_tree.specs.Trees.{Trees}
use Rattle.mm_tree.specs.Validity.{has_valid_parts, is_valid_kind}
use Rattle.mm_image.specs.declared.parsed.Parsed.{Parsed}
use Rattle.mm_image.specs.Content.{content, count_in, name_in, piece}
use Rattle.mm_image.specs.Fields.{kind_in}
use Rattle.mm_image.specs.Image.{count_of, image}
use Rattle.mm_image.specs.Keys.{chunk_key, count_key, key_of, occurrence_key, IsKeyed}

-- a key stands for one thing at most
abbrev pub KeysAreApart : Type 0
KeysAreApart = (p q : Parsed) → IsKeyed p → IsKeyed q → key_of p ≡ key_of q → p ≡ q

-- chunks stand in the order of the labels, those of one node in the order of their numbers
abbrev pub ChunkOrder : Type 0
ChunkOrder = (a b : List ℤ) (m n : ℕ) → IsLabel a → IsLabel b → m < 2 ^ 32 → n < 2 ^ 32
    → slice_cmp nat_cmp (chunk_key a m) (chunk_key b n) ≡ ordering_then (slice_cmp int_cmp a b) (nat_cmp m n)

-- occurrences stand in the order of the words, those of one word in the order of the labels
abbrev pub OccurrenceOrder : Type 0
OccurrenceOrder = (v w : List ℕ) (a b : List ℤ) → IsTrue (is_word v) → IsTrue (is_word w) → IsLabel a → IsLabel b
    → slice_cmp nat_cmp (occurrence_key v a) (occurrence_key w b) ≡ ordering_then (slice_cmp nat_cmp v w) (slice_cmp int_cmp a b)

-- counts stand in the order of the words
abbrev pub CountOrder : Type 0
CountOrder = (v w : List ℕ) → slice_cmp nat_cmp (count_key v) (count_key w) ≡ slice_cmp nat_cmp v w

-- a kind is told of its content
abbrev pub ContentsAreRead : Type 0
ContentsAreRead = (kind : Kind) → has_valid_parts kind ≡ true → kind_in (content kind) ≡ Some kind

-- bytes of which a kind is told are its content
abbrev pub ReadAreContents : Type 0
ReadAreContents = (bytes : List ℕ) (kind : Kind) → ((i : ℕ) → get_or bytes i 0 < 256) → kind_in bytes ≡ Some kind → (bytes ≡ content kind) × (has_valid_parts kind ≡ true)

-- the first piece of a node tells the node's name
abbrev pub FirstPieceNames : Type 0
FirstPieceNames = (kind : Kind) → IsTrue (is_valid_kind kind) → name_in (piece kind 0) ≡ Some (name_of kind)

-- the value of a word's count tells how many nodes hold the word
abbrev pub CountsAreLengths : Type 0
CountsAreLengths = (nodes : Trees Worded) (w : List ℕ) → length (list_of w nodes) < 2 ^ 64 → count_in (count_of nodes w).1 ≡ Some (length (list_of w nodes))

-- the keys of a forest's entries rise
abbrev pub ImagesRise : Type 0
ImagesRise = (forest : Trees Labelled) → IsTrue (is_well_formed forest) → IsSorted (image forest)

-- two well-formed forests with the same entries are the same
abbrev pub ImagesTellForests : Type 0
ImagesTellForests = (f g : Trees Labelled) → IsTrue (is_well_formed f) → IsTrue (is_well_formed g) → image f ≡ image g → f ≡ g

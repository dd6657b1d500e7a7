-- Damaged images, each with what is named in it.
use Rattle.std.specs.Prelude.{ℕ, ℤ, pos, List, [], ◌∷◌, ◌++◌, ◌≡◌, refl, Some, None, Ok, Err, replicate}
use Rattle.std.specs.Str.{chars, is_utf8}
use Rattle.std.specs.Char.{encode_utf8}
use Rattle.mm_keeper.specs.Entries.{Entries, Entry}
use Rattle.mm_tree.specs.declared.plain.Kind.TheVariants.{Element, Words}
use Rattle.mm_image.specs.Fields.{element_at, standing}
use Rattle.mm_image.specs.Keys.{chunk_key, count_key, occurrence_key}
use Rattle.mm_check.specs.declared.verdict.Named.{Named}
use Rattle.mm_check.specs.Reading.{not_due, place_of, read}
use Rattle.mm_check.specs.Blame.{first_difference, not_there, other_value}

one : List ℤ
one = pos 1 ∷ []

below : List ℤ
below = pos 1 ∷ pos 1 ∷ []

-- <a>
a : List ℕ
a = 69 ∷ 0 ∷ 1 ∷ 97 ∷ 0 ∷ 0 ∷ 0 ∷ 0 ∷ []

-- the text "b"
b : List ℕ
b = 84 ∷ 98 ∷ []

at : List ℤ → ℕ → List ℕ → Entry
at label number value = (chunk_key label number, value)

-- ---- chunks

-- <a>b</a>
whole : read [] None (at one 0 a ∷ at below 0 b ∷ []) ≡ Ok (record { label = below; kind = Words (98 ∷ []) } ∷ record { label = one; kind = Element (97 ∷ []) [] } ∷ [])
unfolding one below a b at standing element_at place_of is_utf8 chars encode_utf8
whole = refl

-- a child without its parent
no_parent : read [] None (at below 0 b ∷ []) ≡ Err (not_due (at below 0 b))
unfolding one below a b at standing element_at place_of is_utf8 chars encode_utf8
no_parent = refl

-- a grandchild without the node between
no_child : read [] None (at one 0 a ∷ at (pos 1 ∷ pos 1 ∷ pos 1 ∷ []) 0 a ∷ []) ≡ Err (not_due (at (pos 1 ∷ pos 1 ∷ pos 1 ∷ []) 0 a))
unfolding one below a b at standing element_at place_of is_utf8 chars encode_utf8
no_child = refl

-- a text on the first level
on_top : read [] None (at one 0 b ∷ []) ≡ Err (not_due (at one 0 b))
unfolding one below a b at standing element_at place_of is_utf8 chars encode_utf8
on_top = refl

-- a text with a child
text_parent : read [] None (at one 0 a ∷ at below 0 b ∷ at (pos 1 ∷ pos 1 ∷ pos 1 ∷ []) 0 b ∷ []) ≡ Err (not_due (at (pos 1 ∷ pos 1 ∷ pos 1 ∷ []) 0 b))
unfolding one below a b at standing element_at place_of is_utf8 chars encode_utf8
text_parent = refl

-- a blank text: its last piece, before the odd entry behind it
blank : read [] None (at one 0 a ∷ at below 0 (84 ∷ 32 ∷ []) ∷ (1 ∷ 200 ∷ [], []) ∷ []) ≡ Err (not_due (at below 0 (84 ∷ 32 ∷ [])))
unfolding one below a b at standing element_at place_of is_utf8 chars encode_utf8
blank = refl

-- half a character
no_character : read [] None (at one 0 a ∷ at below 0 (84 ∷ 195 ∷ []) ∷ []) ≡ Err (not_due (at below 0 (84 ∷ 195 ∷ [])))
unfolding one below a b at standing element_at place_of is_utf8 chars encode_utf8
no_character = refl

-- a name's length of 0, as soon as its two bytes are there
no_name : read [] None (at one 0 (69 ∷ 0 ∷ 0 ∷ []) ∷ []) ≡ Err (not_due (at one 0 (69 ∷ 0 ∷ 0 ∷ [])))
unfolding one below a b at standing element_at place_of is_utf8 chars encode_utf8
no_name = refl

-- a name's length of 513
long_name : read [] None (at one 0 (69 ∷ 2 ∷ 1 ∷ []) ∷ []) ≡ Err (not_due (at one 0 (69 ∷ 2 ∷ 1 ∷ [])))
unfolding one below a b at standing element_at place_of is_utf8 chars encode_utf8
long_name = refl

-- a name that begins with a digit
digit : read [] None (at one 0 (69 ∷ 0 ∷ 1 ∷ 49 ∷ 0 ∷ 0 ∷ 0 ∷ 0 ∷ []) ∷ []) ≡ Err (not_due (at one 0 (69 ∷ 0 ∷ 1 ∷ 49 ∷ 0 ∷ 0 ∷ 0 ∷ 0 ∷ [])))
unfolding one below a b at standing element_at place_of is_utf8 chars encode_utf8
digit = refl

-- two attributes of one name
twice : List ℕ
twice = 69 ∷ 0 ∷ 1 ∷ 97 ∷ 0 ∷ 0 ∷ 0 ∷ 2 ∷ 0 ∷ 1 ∷ 98 ∷ 0 ∷ 0 ∷ 0 ∷ 0 ∷ 0 ∷ 1 ∷ 98 ∷ 0 ∷ 0 ∷ 0 ∷ 0 ∷ []

same_name : read [] None (at one 0 twice ∷ []) ≡ Err (not_due (at one 0 twice))
unfolding one below a b at twice standing element_at place_of is_utf8 chars encode_utf8
same_name = refl

-- no letter that begins a content
no_mark : read [] None (at one 0 (65 ∷ []) ∷ []) ≡ Err (not_due (at one 0 (65 ∷ [])))
unfolding one below a b at standing element_at place_of is_utf8 chars encode_utf8
no_mark = refl

-- bytes behind the last field
too_long : read [] None (at one 0 (a ++ 7 ∷ []) ∷ []) ≡ Err (not_due (at one 0 (a ++ 7 ∷ [])))
unfolding one below a b at standing element_at place_of is_utf8 chars encode_utf8
too_long = refl

-- an empty piece
empty : read [] None (at one 0 [] ∷ []) ≡ Err (not_due (at one 0 []))
unfolding one below a b at standing element_at place_of is_utf8 chars encode_utf8
empty = refl

-- a piece of 1,001 bytes
large : read [] None (at one 0 a ∷ at below 0 (84 ∷ replicate 1000 98) ∷ []) ≡ Err (not_due (at below 0 (84 ∷ replicate 1000 98)))
unfolding one below a b at standing element_at place_of is_utf8 chars encode_utf8
large = refl

-- a node that begins with its piece 1
late : read [] None (at one 1 a ∷ []) ≡ Err (not_due (at one 1 a))
unfolding one below a b at standing element_at place_of is_utf8 chars encode_utf8
late = refl

-- a piece behind one that is not full
not_full : read [] None (at one 0 a ∷ at one 1 a ∷ []) ≡ Err (not_due (at one 1 a))
unfolding one below a b at standing element_at place_of is_utf8 chars encode_utf8
not_full = refl

-- a key that is no chunk's
odd : read [] None (at one 0 a ∷ (1 ∷ 130 ∷ [], []) ∷ []) ≡ Err (not_due (1 ∷ 130 ∷ [], []))
unfolding one below a b at standing element_at place_of is_utf8 chars encode_utf8
odd = refl

-- ---- a content of several pieces: <a b="..."> with a value of 2,000 bytes, of which the first piece is there

long : List ℕ
long = 69 ∷ 0 ∷ 1 ∷ 97 ∷ 0 ∷ 0 ∷ 0 ∷ 1 ∷ 0 ∷ 1 ∷ 98 ∷ 0 ∷ 0 ∷ 7 ∷ 208 ∷ replicate 985 99

missing : Named
missing = record { key = chunk_key one 1; stored = None; due = None }

-- the next piece is missing, at the end and before an odd key that sorts before it
no_piece : read [] None (at one 0 long ∷ []) ≡ Err missing
unfolding one below a b at long missing standing element_at place_of is_utf8 chars encode_utf8
no_piece = refl

before_odd : read [] None (at one 0 long ∷ (1 ∷ 129 ∷ 0 ∷ 0 ∷ 0 ∷ 0 ∷ 0 ∷ 7 ∷ [], []) ∷ []) ≡ Err missing
unfolding one below a b at long missing standing element_at place_of is_utf8 chars encode_utf8
before_odd = refl

-- chunks 0 and 2 are there and 1 is not
skipped : read [] None (at one 0 long ∷ at one 2 (99 ∷ []) ∷ []) ≡ Err (not_due (at one 2 (99 ∷ [])))
unfolding one below a b at long missing standing element_at place_of is_utf8 chars encode_utf8
skipped = refl

-- a content that is not whole and whose last piece is not full
cut_short : read [] None (at one 0 (69 ∷ 0 ∷ 1 ∷ []) ∷ []) ≡ Err (not_due (at one 0 (69 ∷ 0 ∷ 1 ∷ [])))
unfolding one below a b at long missing standing element_at place_of is_utf8 chars encode_utf8
cut_short = refl

-- ---- occurrences and counts of <a>b</a>, whose chunks are those above

word_a : List ℕ
word_a = 97 ∷ []

word_b : List ℕ
word_b = 98 ∷ []

one_node : List ℕ
one_node = 0 ∷ 0 ∷ 0 ∷ 0 ∷ 0 ∷ 0 ∷ 0 ∷ 1 ∷ []

due : Entries
due = at one 0 a ∷ at below 0 b ∷ (occurrence_key word_a one, []) ∷ (occurrence_key word_b below, []) ∷ (count_key word_a, one_node) ∷ (count_key word_b, one_node) ∷ []

sound : first_difference due due ≡ None
unfolding one below a b at word_a word_b one_node due
sound = refl

-- a key before 01
before : first_difference (([], []) ∷ due) due ≡ Some (not_due ([], []))
unfolding one below a b at word_a word_b one_node due
before = refl

-- a key from 04 on
behind : first_difference (due ++ (4 ∷ [], 7 ∷ []) ∷ []) due ≡ Some (not_due (4 ∷ [], 7 ∷ []))
unfolding one below a b at word_a word_b one_node due
behind = refl

-- an occurrence is missing
no_occurrence : first_difference (at one 0 a ∷ at below 0 b ∷ (occurrence_key word_a one, []) ∷ (count_key word_a, one_node) ∷ (count_key word_b, one_node) ∷ []) due ≡ Some (not_there (occurrence_key word_b below, []))
unfolding one below a b at word_a word_b one_node due
no_occurrence = refl

-- an occurrence too many
one_too_many : first_difference (at one 0 a ∷ at below 0 b ∷ (occurrence_key word_a one, []) ∷ (occurrence_key word_a below, []) ∷ (occurrence_key word_b below, []) ∷ (count_key word_a, one_node) ∷ (count_key word_b, one_node) ∷ []) due
    ≡ Some (not_due (occurrence_key word_a below, []))
unfolding one below a b at word_a word_b one_node due
one_too_many = refl

-- an occurrence with a value
with_value : first_difference (at one 0 a ∷ at below 0 b ∷ (occurrence_key word_a one, 1 ∷ []) ∷ (occurrence_key word_b below, []) ∷ (count_key word_a, one_node) ∷ (count_key word_b, one_node) ∷ []) due
    ≡ Some (other_value (occurrence_key word_a one, 1 ∷ []) [])
unfolding one below a b at word_a word_b one_node due
with_value = refl

-- a count one off
one_off : first_difference (at one 0 a ∷ at below 0 b ∷ (occurrence_key word_a one, []) ∷ (occurrence_key word_b below, []) ∷ (count_key word_a, one_node) ∷ (count_key word_b, 0 ∷ 0 ∷ 0 ∷ 0 ∷ 0 ∷ 0 ∷ 0 ∷ 2 ∷ []) ∷ []) due
    ≡ Some (other_value (count_key word_b, 0 ∷ 0 ∷ 0 ∷ 0 ∷ 0 ∷ 0 ∷ 0 ∷ 2 ∷ []) one_node)
unfolding one below a b at word_a word_b one_node due
one_off = refl

-- a count of another length
short_count : first_difference (at one 0 a ∷ at below 0 b ∷ (occurrence_key word_a one, []) ∷ (occurrence_key word_b below, []) ∷ (count_key word_a, 1 ∷ []) ∷ (count_key word_b, one_node) ∷ []) due
    ≡ Some (other_value (count_key word_a, 1 ∷ []) one_node)
unfolding one below a b at word_a word_b one_node due
short_count = refl

-- a count is missing
no_count : first_difference (at one 0 a ∷ at below 0 b ∷ (occurrence_key word_a one, []) ∷ (occurrence_key word_b below, []) ∷ (count_key word_a, one_node) ∷ []) due ≡ Some (not_there (count_key word_b, one_node))
unfolding one below a b at word_a word_b one_node due
no_count = refl

-- the first of two differences is named
first_of_two : first_difference (at one 0 a ∷ at below 0 b ∷ (occurrence_key word_b below, []) ∷ (count_key word_a, one_node) ∷ []) due ≡ Some (not_there (occurrence_key word_a one, []))
unfolding one below a b at word_a word_b one_node due
first_of_two = refl

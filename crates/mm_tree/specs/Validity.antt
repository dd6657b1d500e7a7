-- Which kinds of nodes can be stored, and which trees are taken into a forest.
use Rattle.std.specs.Prelude.{ℕ, ◌+◌, ◌/◌, ◌^◌, List, [], ◌∷◌, Bool, true, false, ◌&&◌, ◌||◌, not, ◌≡◌, refl, nat_lt, nat_le, length, map, sum_by}
use Rattle.std.specs.List.{list_all, list_any}
use Rattle.std.specs.Char.{encode_utf8}
use Rattle.std.specs.Str.{chars, is_utf8, bytes_eq}
use Rattle.mm_tree.specs.declared.plain.Attribute.{Attribute}
use Rattle.mm_tree.specs.declared.plain.Kind.{Kind}
use Rattle.mm_tree.specs.declared.plain.Kind.TheVariants.{Element, Words}
use Rattle.mm_tree.specs.Characters.{is_char, is_space, is_short_name}
use Rattle.mm_tree.specs.Trees.{Trees, none, node, Tree, one, every}

-- the bytes are UTF-8, and all their characters may stand in a document
abbrev pub are_chars : List ℕ → Bool
are_chars bytes = is_utf8 bytes && list_all is_char (chars bytes)

-- the bytes are UTF-8, and spell the name of an element or of an attribute
abbrev pub is_node_name : List ℕ → Bool
is_node_name bytes = is_utf8 bytes && is_short_name (chars bytes)

-- nothing but white space, or nothing at all
abbrev pub is_blank : List ℕ → Bool
is_blank bytes = list_all is_space (chars bytes)

abbrev pub are_distinct : List (List ℕ) → Bool
are_distinct [] = true
are_distinct (name ∷ names) = not (list_any (bytes_eq name) names) && are_distinct names

-- how many bytes an attribute takes in the content of its element: the name behind its length in two bytes, the value behind its length in four
abbrev pub attribute_size : Attribute → ℕ
attribute_size a = 2 + length a.name + (4 + length a.value)

-- how many bytes a node's content takes: a mark, and of a text its bytes, of an element the name behind its length in two bytes, the number of attributes in four bytes, and the attributes
abbrev pub content_size : Kind → ℕ
content_size (Element name attributes) = 1 + (2 + length name) + 4 + sum_by attribute_size attributes
content_size (Words text) = 1 + length text

-- a content is kept in pieces of 1,000 bytes, of which the last may be shorter
abbrev pub piece_count : Kind → ℕ
piece_count kind = (content_size kind + 999) / 1000

-- the name is a name, the characters of the value may stand in a document, and its length fits four bytes
abbrev pub is_valid_attribute : Attribute → Bool
is_valid_attribute a = is_node_name a.name && (are_chars a.value && nat_lt (length a.value) (2 ^ 32))

-- an element's name and its attributes are valid, the attributes' names differ, and their number fits four bytes; a text has characters that may stand in a document and isn't blank
abbrev pub has_valid_parts : Kind → Bool
has_valid_parts (Element name attributes) =
    is_node_name name && (list_all is_valid_attribute attributes && (are_distinct (map (λ a. a.name) attributes) && nat_lt (length attributes) (2 ^ 32)))
has_valid_parts (Words text) = are_chars text && not (is_blank text)

-- the parts are valid, and the pieces can be numbered in four bytes
unfoldable pub is_valid_kind : Kind → Bool
is_valid_kind kind = has_valid_parts kind && nat_le (piece_count kind) (2 ^ 32)

abbrev pub is_element : Kind → Bool
is_element (Element name attributes) = true
is_element (Words text) = false

-- of a node that has children or not: its kind is valid, and a text has none
abbrev pub is_valid_node : Kind → Bool → Bool
is_valid_node kind has_children = is_valid_kind kind && (is_element kind || not has_children)

-- how many pieces the contents of all nodes have together
abbrev pub pieces : Trees Kind → ℕ
pieces none = 0
pieces (node kind inner rest) = piece_count kind + pieces inner + pieces rest

-- a tree without labels that a forest takes
abbrev pub is_valid_tree : Tree Kind → Bool
is_valid_tree t = every is_valid_node (one t) && nat_lt (pieces (one t)) (2 ^ 31)

-- <a> with the text "b" is taken
an_element : is_valid_tree (Element (97 ∷ []) [], node (Words (98 ∷ [])) none none) ≡ true
unfolding is_valid_kind is_utf8 chars encode_utf8
an_element = refl

-- a text with a child isn't
no_parent : is_valid_tree (Words (98 ∷ []), node (Words (98 ∷ [])) none none) ≡ false
unfolding is_valid_kind is_utf8 chars encode_utf8
no_parent = refl

-- no name begins with a digit
no_name : is_valid_kind (Element (49 ∷ []) []) ≡ false
unfolding is_valid_kind is_utf8 chars encode_utf8
no_name = refl

-- two attributes of one name
twice : is_valid_kind (Element (97 ∷ []) (record { name = 98 ∷ []; value = [] } ∷ record { name = 98 ∷ []; value = 99 ∷ [] } ∷ [])) ≡ false
unfolding is_valid_kind is_utf8 chars encode_utf8
twice = refl

-- a space and a line feed are blank; the letter o with two dots, in two bytes, isn't
blank : is_valid_kind (Words (32 ∷ 10 ∷ [])) ≡ false
unfolding is_valid_kind is_utf8 chars encode_utf8
blank = refl

umlaut : is_valid_kind (Words (195 ∷ 182 ∷ [])) ≡ true
unfolding is_valid_kind is_utf8 chars encode_utf8
umlaut = refl

-- half of it is no character
no_character : is_valid_kind (Words (195 ∷ [])) ≡ false
unfolding is_valid_kind is_utf8 chars encode_utf8
no_character = refl

-- <a> without attributes takes eight bytes, and the text "b" two
eight_bytes : content_size (Element (97 ∷ []) []) ≡ 8
eight_bytes = refl

two_bytes : content_size (Words (98 ∷ [])) ≡ 2
two_bytes = refl

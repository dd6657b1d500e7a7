-- The content of a node in bytes, the pieces in which it is kept, and what is read out of it.
use Rattle.std.specs.Prelude.{ℕ, ◌≡◌, true, ◌*◌, ◌+◌, ◌==◌, List, [], ◌∷◌, ◌++◌, length, take, drop, flat_map, Option, Some, None, codes, ◌&&◌, nat_le, if◌then◌else◌}
use Rattle.byteorder.specs.Endian.{big_bytes, big_number}
use Rattle.mm_tree.specs.declared.plain.Attribute.{Attribute}
use Rattle.mm_tree.specs.declared.plain.Kind.{Kind}
use Rattle.mm_tree.specs.declared.plain.Kind.TheVariants.{Element, Words}
use Rattle.mm_tree.specs.Validity.{has_valid_parts, is_node_name}

-- bytes behind their number, in so many bytes
abbrev pub sized : ℕ → List ℕ → List ℕ
sized width bytes = big_bytes width (length bytes) ++ bytes

-- the name behind its length in two bytes, the value behind its length in four
abbrev pub attribute_bytes : Attribute → List ℕ
attribute_bytes a = sized 2 a.name ++ sized 4 a.value

-- of an element the letter E, its name, the number of its attributes in four bytes, and these; of a text the letter T and its bytes
abbrev pub content : Kind → List ℕ
content (Element name attributes) = 69 ∷ sized 2 name ++ (big_bytes 4 (length attributes) ++ flat_map attribute_bytes attributes)
content (Words text) = 84 ∷ text

-- the bytes are the content, and the kind's parts are valid
pub record IsContent (bytes : List ℕ) (kind : Kind) : Type 0 where
  pub is : bytes ≡ content kind
  pub good : has_valid_parts kind ≡ true

-- the kind of which these are the whole content, if they are that of one
abbrev pub IsKindOf : List ℕ → Option Kind → Type 0
IsKindOf bytes None = (kind : Kind) → IsContent bytes kind → ⊥
IsKindOf bytes (Some kind) = IsContent bytes kind

-- the most bytes of a piece
abbrev pub piece_limit : ℕ
piece_limit = 1000

-- the piece of this number, counted from 0: each is as long as may be, and the last may be shorter
abbrev pub piece : Kind → ℕ → List ℕ
piece kind number = take piece_limit (drop (piece_limit * number) (content kind))

-- the name behind its length in two bytes, if it stands there whole and may be a node's
abbrev pub sized_name : List ℕ → Option (List ℕ)
sized_name bytes = if nat_le (2 + big_number 2 bytes) (length bytes) && is_node_name (take (big_number 2 bytes) (drop 2 bytes)) then Some (take (big_number 2 bytes) (drop 2 bytes)) else None

-- the name of the node whose content begins so; that of a text is #text
abbrev pub name_in : List ℕ → Option (List ℕ)
name_in [] = None
name_in (mark ∷ rest) = if mark == 84 then Some (codes "#text") else (if mark == 69 then sized_name rest else None)

-- the number that eight bytes spell
abbrev pub count_in : List ℕ → Option ℕ
count_in value = if length value == 8 then Some (big_number 8 value) else None

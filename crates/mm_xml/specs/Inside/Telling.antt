-- What a token tells, without how it is written.
use Rattle.std.specs.Prelude.{ℕ, List, [], ◌∷◌, ◌++◌, Bool, Option, Some, None, if◌then◌else◌, map}
use Rattle.std.specs.Str.{encode_utf8_all}
use Rattle.mm_tree.specs.declared.Kind.{Kind}
use Rattle.mm_tree.specs.declared.Kind.TheVariants.{Element}
use Rattle.mm_tree.specs.declared.Attribute.{Attribute}
use Rattle.mm_xml.specs.Letters.{referred}
use Rattle.mm_xml.specs.Syntax.{Part, Literal, Reference, if_named, meant_in_value, Written, attribute_of, is_public, Token, Data, Section, Comment, Instruction, Start, Close, Doctype}
use Rattle.mm_xml.specs.Grammar.{Bracket, Begin, End, end_name}
use Rattle.mm_xml.specs.Inside.Lexing.{◌>>=◌, Found, span, equals_at, value_at, spaced_quoted_at, token_at}
use Rattle.mm_tree.specs.Characters.{is_char, is_name_char, is_short_name}
use Rattle.std.specs.List.{flat_map}

pub data Sign : Type 0 where
  Character : ℕ → Sign
  Named : List ℕ → Sign
  Passage : List ℕ → Sign
  Skipped : Sign
  Opens : Bool → Kind → Sign
  Closes : List ℕ → Sign
  Doctyped : Sign

-- a character of its own; what a reference names; the characters of a section; what is read over; the tags; the document type
abbrev pub told : Token → Sign
told (Data (Literal c)) = Character c
told (Data (Reference body)) = Named (if_named (referred body))
told (Section cs) = Passage cs
told (Comment cs) = Skipped
told (Instruction name cs) = Skipped
told (Start empty name attributes gap) = Opens empty (Element (encode_utf8_all name) (map attribute_of attributes))
told (Close name gap) = Closes (encode_utf8_all name)
told (Doctype gap name ext after) = Doctyped

abbrev pub opens : Bool → Kind → List Bracket
opens empty kind = Begin kind ∷ (if empty then End (end_name kind) ∷ [] else [])

abbrev pub tell : Found Token → Found Sign
tell found = found >>= λ x. Some (told x.0, x.1)

-- what stands at the front, and the characters after it
abbrev pub sign_at : List ℕ → Found Sign
sign_at cs = tell (token_at cs)

-- the attributes, behind others
abbrev pub tell_attributes : List Attribute → Found (List Written) → Found (List Attribute)
tell_attributes before found = found >>= λ x. Some (before ++ map attribute_of x.0, x.1)

-- the characters of a value, behind others
abbrev pub tell_parts : List ℕ → Found (List Part) → Found (List ℕ)
tell_parts before found = found >>= λ x. Some (before ++ flat_map meant_in_value x.0, x.1)

abbrev pub tell_value : Found (ℕ × List Part) → Found (List ℕ)
tell_value found = found >>= λ x. Some (encode_utf8_all (flat_map meant_in_value x.0.1), x.1)

-- an attribute from its name on
abbrev pub attribute_at : List ℕ → Found Attribute
attribute_at cs =
    if is_short_name (span is_name_char cs).0 then
    (equals_at (span is_name_char cs).1 >>= λ r. tell_value (value_at r) >>= λ v. Some (record { name = encode_utf8_all (span is_name_char cs).0; value = v.0 }, v.1))
    else None

-- what a part of content tells, and one of a value
abbrev pub tell_part : Found Part → Found Sign
tell_part found = found >>= λ x. Some (told (Data x.0), x.1)

abbrev pub tell_character : Found Part → Found (List ℕ)
tell_character found = found >>= λ x. Some (meant_in_value x.0, x.1)

-- what comes after what was found
abbrev pub rest_of : {A : Type 0} → Found A → Option (List ℕ)
rest_of found = found >>= λ x. Some x.1

-- what comes after a public and a system identifier
abbrev pub both_rest : List ℕ → Option (List ℕ)
both_rest cs = rest_of (spaced_quoted_at is_public cs) >>= λ r. rest_of (spaced_quoted_at is_char r)

-- The pieces of concrete syntax, and how each is spelled.
use Rattle.std.specs.Prelude.{ℕ, List, [], ◌∷◌, ◌++◌, Bool, true, false, ◌&&◌, ◌||◌, not, ◌==◌, Option, Some, None, if◌then◌else◌, map}
use Rattle.std.specs.List.{flat_map, list_all}
use Rattle.std.specs.Str.{bytes_eq, encode_utf8_all}
use Rattle.mm_tree.specs.declared.Attribute.{Attribute}
use Rattle.mm_tree.specs.Validity.{are_distinct}
use Rattle.mm_tree.specs.Characters.{is_from, is_char, is_space, is_name, is_short_name}
use Rattle.mm_xml.specs.Letters.{is_gap, referred, is_free, lower}

-- a character of a text or of a value: itself, or by a reference
pub data Part : Type 0 where
  Literal : ℕ → Part
  Reference : List ℕ → Part

abbrev pub not_semicolon : ℕ → Bool
not_semicolon c = not (c == 59)

-- a character of CharData (14) or of AttValue (10): neither `<` nor `&`
abbrev pub is_literal : ℕ → Bool
is_literal c = is_char c && not (c == 60) && not (c == 38)

abbrev pub is_some : Option ℕ → Bool
is_some None = false
is_some (Some c) = true

abbrev pub is_part : Part → Bool
is_part (Literal c) = is_literal c
is_part (Reference body) = list_all not_semicolon body && is_some (referred body)

abbrev pub spelled_part : Part → List ℕ
spelled_part (Literal c) = c ∷ []
spelled_part (Reference body) = 38 ∷ body ++ 59 ∷ []

-- Attribute (41) as it is written, behind its white space
pub record Written : Type 0 where
  pub gap : List ℕ
  pub name : List ℕ
  pub before : List ℕ
  pub after : List ℕ
  pub quote : ℕ
  pub parts : List Part

abbrev pub is_quote : ℕ → Bool
is_quote c = (c == 34) || (c == 39)

-- a part of a value in these quotes
abbrev pub is_within : ℕ → Part → Bool
is_within quote (Literal c) = is_literal c && not (c == quote)
is_within quote (Reference body) = is_part (Reference body)

abbrev pub is_written : Written → Bool
is_written a = is_gap a.gap && (is_short_name a.name && (list_all is_space a.before && (list_all is_space a.after && (is_quote a.quote && list_all (is_within a.quote) a.parts))))

abbrev pub spelled_written : Written → List ℕ
spelled_written a = a.gap ++ (a.name ++ (a.before ++ (61 ∷ (a.after ++ (a.quote ∷ (flat_map spelled_part a.parts ++ a.quote ∷ []))))))

-- the characters of the reference, none where there is no such reference
abbrev pub if_named : Option ℕ → List ℕ
if_named None = []
if_named (Some c) = c ∷ []

-- the characters that a part of a text stands for
abbrev pub meant : Part → List ℕ
meant (Literal c) = c ∷ []
meant (Reference body) = if_named (referred body)

-- in a value a literal white space is a space
abbrev pub meant_in_value : Part → List ℕ
meant_in_value (Literal c) = (if is_space c then 32 else c) ∷ []
meant_in_value (Reference body) = if_named (referred body)

abbrev pub attribute_of : Written → Attribute
attribute_of a = record { name = encode_utf8_all a.name; value = encode_utf8_all (flat_map meant_in_value a.parts) }

-- no two attributes have one name
abbrev pub differ : List Attribute → Bool
differ attributes = are_distinct (map (λ a. a.name) attributes)

-- quoted text
pub record Quoted : Type 0 where
  pub quote : ℕ
  pub text : List ℕ

abbrev pub spelled_quoted : Quoted → List ℕ
spelled_quoted q = q.quote ∷ (q.text ++ q.quote ∷ [])

abbrev pub is_quoted : (ℕ → Bool) → Quoted → Bool
is_quoted p q = is_quote q.quote && list_all (λ c. p c && not (c == q.quote)) q.text

-- PubidChar (13)
abbrev pub is_public : ℕ → Bool
is_public c = (c == 32) || (c == 13) || (c == 10) || is_from 97 122 c || is_from 65 90 c || is_from 39 59 c || (c == 33) || (c == 61) || (c == 63) || (c == 64) || (c == 35) || (c == 36) || (c == 95) || (c == 37)

-- ExternalID (75), behind its white space
pub data External : Type 0 where
  Nowhere : External
  System : List ℕ → List ℕ → Quoted → External
  Public : List ℕ → List ℕ → Quoted → List ℕ → Quoted → External

abbrev pub spelled_external : External → List ℕ
spelled_external Nowhere = []
spelled_external (System s t q) = s ++ (83 ∷ 89 ∷ 83 ∷ 84 ∷ 69 ∷ 77 ∷ (t ++ spelled_quoted q))
spelled_external (Public s t q u r) = s ++ (80 ∷ 85 ∷ 66 ∷ 76 ∷ 73 ∷ 67 ∷ (t ++ (spelled_quoted q ++ (u ++ spelled_quoted r))))

abbrev pub is_external : External → Bool
is_external Nowhere = true
is_external (System s t q) = is_gap s && (is_gap t && is_quoted is_char q)
is_external (Public s t q u r) = is_gap s && (is_gap t && (is_quoted is_public q && (is_gap u && is_quoted is_char r)))

-- ---- the XML declaration

-- VersionInfo (24), EncodingDecl (80) and SDDecl (32): white space, a word, Eq (25) and quoted text; the word is told where the setting stands
pub record Setting : Type 0 where
  pub gap : List ℕ
  pub before : List ℕ
  pub after : List ℕ
  pub value : Quoted

abbrev pub spelled_setting : List ℕ → Setting → List ℕ
spelled_setting word s = s.gap ++ (word ++ (s.before ++ (61 ∷ (s.after ++ spelled_quoted s.value))))

abbrev pub is_setting : (List ℕ → Bool) → Setting → Bool
is_setting test s = is_gap s.gap && (list_all is_space s.before && (list_all is_space s.after && (is_quoted is_char s.value && test s.value.text)))

-- one or more decimal digits
abbrev pub are_digits : List ℕ → Bool
are_digits [] = false
are_digits (c ∷ cs) = list_all (is_from 48 57) (c ∷ cs)

-- VersionNum (26): `1.` and digits
abbrev pub is_version : List ℕ → Bool
is_version (one ∷ dot ∷ digits) = (one == 49) && ((dot == 46) && are_digits digits)
is_version text = false

-- the one encoding of the profile: `UTF-8`, in either case
abbrev pub is_encoding : List ℕ → Bool
is_encoding text = bytes_eq (map lower text) (117 ∷ 116 ∷ 102 ∷ 45 ∷ 56 ∷ [])

-- `yes` or `no`
abbrev pub is_standalone : List ℕ → Bool
is_standalone text = bytes_eq text (121 ∷ 101 ∷ 115 ∷ []) || bytes_eq text (110 ∷ 111 ∷ [])

-- the words of the declaration: `<?xml`, `version`, `encoding`, `standalone` and `?>`
abbrev pub declaration_start : List ℕ
declaration_start = 60 ∷ 63 ∷ 120 ∷ 109 ∷ 108 ∷ []

abbrev pub version_word : List ℕ
version_word = 118 ∷ 101 ∷ 114 ∷ 115 ∷ 105 ∷ 111 ∷ 110 ∷ []

abbrev pub encoding_word : List ℕ
encoding_word = 101 ∷ 110 ∷ 99 ∷ 111 ∷ 100 ∷ 105 ∷ 110 ∷ 103 ∷ []

abbrev pub standalone_word : List ℕ
standalone_word = 115 ∷ 116 ∷ 97 ∷ 110 ∷ 100 ∷ 97 ∷ 108 ∷ 111 ∷ 110 ∷ 101 ∷ []

abbrev pub declaration_end : List ℕ
declaration_end = 63 ∷ 62 ∷ []

-- XMLDecl (23)
pub record Declaration : Type 0 where
  pub version : Setting
  pub encoding : Option Setting
  pub standalone : Option Setting
  pub gap : List ℕ

-- a setting that may be left out
abbrev pub spelled_if : List ℕ → Option Setting → List ℕ
spelled_if word None = []
spelled_if word (Some s) = spelled_setting word s

abbrev pub is_setting_if : (List ℕ → Bool) → Option Setting → Bool
is_setting_if test None = true
is_setting_if test (Some s) = is_setting test s

abbrev pub spelled_declaration : Declaration → List ℕ
spelled_declaration d = declaration_start ++ (spelled_setting version_word d.version ++ (spelled_if encoding_word d.encoding ++ (spelled_if standalone_word d.standalone ++ (d.gap ++ declaration_end))))

abbrev pub is_declaration : Declaration → Bool
is_declaration d = is_setting is_version d.version && (is_setting_if is_encoding d.encoding && (is_setting_if is_standalone d.standalone && list_all is_space d.gap))

-- ---- tokens

-- Data is one character of CharData (14) or one Reference (67), Section CDSect (18), Comment Comment (15), Instruction PI (16),
-- Start STag (40) or, where it is empty, EmptyElemTag (44), Close ETag (42), Doctype doctypedecl (28) without an internal subset.
-- A list holds what a production leaves open: white space, names, quotes, texts.
pub data Token : Type 0 where
  Data : Part → Token
  Section : List ℕ → Token
  Comment : List ℕ → Token
  Instruction : List ℕ → List ℕ → Token
  Start : Bool → List ℕ → List Written → List ℕ → Token
  Close : List ℕ → List ℕ → Token
  Doctype : List ℕ → List ℕ → External → List ℕ → Token

-- this letter, in either case
abbrev pub letter_is : ℕ → ℕ → Bool
letter_is letter c = lower c == letter

-- nothing, or white space and more
abbrev pub is_rest : List ℕ → Bool
is_rest [] = true
is_rest (c ∷ cs) = is_space c && list_all is_char cs

-- `xml`, in any case
abbrev pub is_reserved : List ℕ → Bool
is_reserved name = bytes_eq (map lower name) (120 ∷ 109 ∷ 108 ∷ [])

abbrev pub is_token : Token → Bool
is_token (Data p) = is_part p
is_token (Section cs) = list_all is_char cs && is_free (93 ∷ 93 ∷ 62 ∷ []) cs
is_token (Comment cs) = list_all is_char cs && is_free (45 ∷ 45 ∷ []) cs
is_token (Instruction name cs) = is_name name && (not (is_reserved name) && (is_rest cs && is_free (63 ∷ 62 ∷ []) cs))
is_token (Start empty name attributes gap) = is_short_name name && (list_all is_written attributes && (differ (map attribute_of attributes) && list_all is_space gap))
is_token (Close name gap) = is_short_name name && list_all is_space gap
is_token (Doctype gap name ext after) = is_gap gap && (is_name name && (is_external ext && list_all is_space after))

-- what ends a start tag, or an empty-element tag
abbrev pub ending : Bool → List ℕ
ending empty = if empty then 47 ∷ 62 ∷ [] else 62 ∷ []

abbrev pub spelled : Token → List ℕ
spelled (Data p) = spelled_part p
spelled (Section cs) = 60 ∷ 33 ∷ 91 ∷ 67 ∷ 68 ∷ 65 ∷ 84 ∷ 65 ∷ 91 ∷ (cs ++ 93 ∷ 93 ∷ 62 ∷ [])
spelled (Comment cs) = 60 ∷ 33 ∷ 45 ∷ 45 ∷ (cs ++ 45 ∷ 45 ∷ 62 ∷ [])
spelled (Instruction name cs) = 60 ∷ 63 ∷ (name ++ (cs ++ 63 ∷ 62 ∷ []))
spelled (Start empty name attributes gap) = 60 ∷ (name ++ (flat_map spelled_written attributes ++ (gap ++ ending empty)))
spelled (Close name gap) = 60 ∷ 47 ∷ (name ++ (gap ++ 62 ∷ []))
spelled (Doctype gap name ext after) = 60 ∷ 33 ∷ 68 ∷ 79 ∷ 67 ∷ 84 ∷ 89 ∷ 80 ∷ 69 ∷ (gap ++ (name ++ (spelled_external ext ++ (after ++ 62 ∷ []))))

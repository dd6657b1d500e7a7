-- The laws of bytes at the bytes of characters whose line ends are turned.
use Rattle.std.proofs.Common.{◌≡◌, ℕ, true, false, List, [], ◌∷◌, ◌++◌, map, Some, refl, sym, ap}
use Rattle.std.specs.Prelude.{IsTrue}
use Rattle.std.specs.List.{flat_map, list_all}
use Rattle.std.specs.Str.{encode_utf8_all}
use Rattle.std.proofs.lemmas.Bool.{and_parts, and_from}
use Rattle.mm_tree.specs.declared.Kind.{Kind}
use Rattle.mm_tree.specs.declared.Kind.TheVariants.{Element}
use Rattle.mm_tree.specs.Characters.{is_space, is_name, is_short_name}
use Rattle.mm_tree.specs.Trees.{Trees, none}
use Rattle.mm_xml.specs.Letters.{referred, is_free}
use Rattle.mm_xml.specs.Syntax.{Reference, is_literal, not_semicolon, is_some, if_named, Written, spelled_written, attribute_of, Token, Data, Section, Comment, Instruction, Start, Close, is_token, spelled}
use Rattle.mm_xml.specs.Productions.{is_plain, SpellsRun, SpellsContent, SpellsElement}
use Rattle.mm_xml.specs.Parts.{SpellsCharacters, SpellsToken}
use Rattle.mm_xml.specs.Facts.Characters.{name_chars}
use Rattle.mm_xml_laws.proofs.Joins.{plain_lines, plain_encoded, plain_append, name_plain, start_plain, close_plain}
use Rattle.mm_xml_laws.proofs.Runs as runs
use Rattle.mm_xml_laws.proofs.Elements as elements

characters : (cs : List ℕ) → list_all is_plain cs ≡ true → SpellsCharacters (encode_utf8_all cs) cs
characters cs plain = record { encoded = plain_encoded cs plain; spelled_so = plain_lines cs plain }

token : (t : Token) → is_token t ≡ true → list_all is_plain (spelled t) ≡ true → SpellsToken (encode_utf8_all (spelled t)) t
token t is plain = record { is = is; characters = characters (spelled t) plain }

-- ---- text

pub char_data : (text : List ℕ) → IsTrue (list_all is_plain text) → IsTrue (list_all is_literal text) → IsTrue (is_free (93 ∷ 93 ∷ 62 ∷ []) text) → SpellsRun (encode_utf8_all text) text
char_data text plain each free = runs.char_data (encode_utf8_all text) text (record { characters = characters text plain; each = each; free = free })

pub reference : (body : List ℕ) (c : ℕ) → IsTrue (list_all is_plain body) → IsTrue (list_all not_semicolon body) → referred body ≡ Some c → SpellsRun (encode_utf8_all (38 ∷ (body ++ 59 ∷ []))) (c ∷ [])
reference body c plain free e =
    let t = Data (Reference body) in
    runs.markup (encode_utf8_all (spelled t)) (c ∷ []) (t, refl, token t (and_from _ _ free (ap is_some e)) (plain_append body (59 ∷ []) plain refl), sym (ap if_named e))

pub section : (cs : List ℕ) → IsTrue (is_token (Section cs)) → IsTrue (list_all is_plain cs) → SpellsRun (encode_utf8_all (spelled (Section cs))) cs
section cs is plain = runs.markup (encode_utf8_all (spelled (Section cs))) cs (Section cs, refl, token (Section cs) is (plain_append cs (93 ∷ 93 ∷ 62 ∷ []) plain refl), refl)

pub comment : (cs : List ℕ) → IsTrue (is_token (Comment cs)) → IsTrue (list_all is_plain cs) → SpellsRun (encode_utf8_all (spelled (Comment cs))) []
comment cs is plain = runs.markup (encode_utf8_all (spelled (Comment cs))) [] (Comment cs, refl, token (Comment cs) is (plain_append cs (45 ∷ 45 ∷ 62 ∷ []) plain refl), refl)

pub instruction : (name cs : List ℕ) → IsTrue (is_token (Instruction name cs)) → IsTrue (list_all is_plain cs) → SpellsRun (encode_utf8_all (spelled (Instruction name cs))) []
instruction name cs is plain =
    let t = Instruction name cs in
    let named = name_plain name (name_chars name (and_parts (is_name name) _ is).0) in
    runs.markup (encode_utf8_all (spelled t)) [] (t, refl, token t is (plain_append name _ named (plain_append cs (63 ∷ 62 ∷ []) plain refl)), refl)

-- ---- elements

pub empty_element : (name gap : List ℕ) (attributes : List Written) → IsTrue (is_token (Start true name attributes gap)) → IsTrue (list_all is_plain (flat_map spelled_written attributes ++ gap))
    → SpellsElement (encode_utf8_all (spelled (Start true name attributes gap))) (Element (encode_utf8_all name) (map attribute_of attributes), none)
empty_element name gap ws is plain =
    let t = Start true name ws gap in
    elements.empty_element (encode_utf8_all (spelled t)) name gap ws (token t is (start_plain true name gap ws (and_parts (is_short_name name) _ is).0 plain))

pub element : (name gap close_gap content : List ℕ) (attributes : List Written) (children : Trees Kind) → IsTrue (is_token (Start false name attributes gap)) → IsTrue (list_all is_plain (flat_map spelled_written attributes ++ gap))
    → IsTrue (list_all is_space close_gap) → IsTrue (list_all is_plain close_gap) → SpellsContent content children
    → SpellsElement (encode_utf8_all (spelled (Start false name attributes gap)) ++ (content ++ encode_utf8_all (spelled (Close name close_gap)))) (Element (encode_utf8_all name) (map attribute_of attributes), children)
element name gap close_gap content ws children is plain spaces plain_gap inner =
    let named = (and_parts (is_short_name name) _ is).0 in
    let opening = Start false name ws gap in
    let closing = Close name close_gap in
    elements.element (encode_utf8_all (spelled opening)) content (encode_utf8_all (spelled closing)) name gap close_gap ws children (token opening is (start_plain false name gap ws named plain)) inner (token closing (and_from _ _ named spaces) (close_plain name close_gap named plain_gap))

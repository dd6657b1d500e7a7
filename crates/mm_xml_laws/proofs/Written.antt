-- What is written is spelled so, and is read back.
use Rattle.std.proofs.Common.{◌≡◌, ℕ, suc, ◌+◌, ◌-◌, ◌≤◌, ◌<◌, Bool, true, false, cond, ◌&&◌, List, [], ◌∷◌, ◌++◌, length, map, get_or, None, eqb, leb, not, refl, sym, ap, subst, ◌∙◌, append_assoc, arith, append-nil}
use Rattle.std.specs.Prelude.{IsTrue, encode_utf8, codes}
use Rattle.std.specs.List.{list_all, flat_map}
use Rattle.std.specs.Str.{chars, is_utf8, encode_utf8_all}
use Rattle.std.proofs.lemmas.Bool.{eqb-true, and_parts, and_from, or_left, or_right}
use Rattle.std.proofs.lemmas.Bool.Decides.{nat_tests}
use Rattle.std.proofs.lemmas.List.{append-nil}
use Rattle.std.proofs.lemmas.Grind.{flat_map-append}
use Rattle.std.proofs.lemmas.Str.{encodes-append, encodes-chars, encode_ascii, inside_one, IsUtf8-from_is_utf8}
use Rattle.mm_tree.specs.declared.Attribute.{Attribute}
use Rattle.mm_tree.specs.declared.Kind.{Kind}
use Rattle.mm_tree.specs.declared.Kind.TheVariants.{Element, Words}
use Rattle.mm_tree.specs.Trees.{Trees, none, node, Tree, one, every, has_some}
use Rattle.mm_tree.specs.Characters.{is_char, is_space, is_short_name}
use Rattle.mm_tree.specs.Validity.{are_chars, is_node_name, is_valid_attribute, is_valid_kind, is_valid_node, are_distinct}
use Rattle.mm_xml.specs.Letters.{is_ascii}
use Rattle.mm_xml.specs.Syntax.{Part, Literal, Reference, is_part, is_within, spelled_part, Written, is_written, spelled_written, meant, meant_in_value, attribute_of, differ, Token, Data, Section, Comment, Instruction, Start, Close, Doctype, is_token, spelled}
use Rattle.mm_xml.specs.Grammar.{Bracket, Begin, End, text_brackets, brackets, bracketing, unbroken, outside, is_textual, has_form, Spells}
use Rattle.mm_xml.specs.Productions.{is_plain, is_marked}
use Rattle.mm_xml.specs.Writing.{text_byte, value_byte, written_attribute, tag_front, end_tag, written, no_text, are_apart, is_marked_text}
use Rattle.mm_xml.specs.Facts.Characters.{short_chars}
use Rattle.mm_xml.specs.Facts.Characters.{spelled_ascii, spelled_front}
use Rattle.mm_xml_laws.proofs.Joins.{plain_lines, plain_encoded, plain_append, name_plain}
use Rattle.mm_xml_laws.proofs.Forms.{unmarked_characters}

-- ---- the tokens that a tree is written with

-- how a character of a text is written
abbrev text_part : ℕ → Part
text_part c =
    cond (eqb c 38) (Reference (97 ∷ 109 ∷ 112 ∷ []))
    (cond (eqb c 60) (Reference (108 ∷ 116 ∷ []))
    (cond (eqb c 62) (Reference (103 ∷ 116 ∷ []))
    (cond (eqb c 10) (Reference (35 ∷ 49 ∷ 48 ∷ []))
    (cond (eqb c 13) (Reference (35 ∷ 49 ∷ 51 ∷ [])) (Literal c)))))

-- how a character of a value is written
abbrev value_part : ℕ → Part
value_part c =
    cond (eqb c 38) (Reference (97 ∷ 109 ∷ 112 ∷ []))
    (cond (eqb c 60) (Reference (108 ∷ 116 ∷ []))
    (cond (eqb c 34) (Reference (113 ∷ 117 ∷ 111 ∷ 116 ∷ []))
    (cond (eqb c 9) (Reference (35 ∷ 57 ∷ []))
    (cond (eqb c 10) (Reference (35 ∷ 49 ∷ 48 ∷ []))
    (cond (eqb c 13) (Reference (35 ∷ 49 ∷ 51 ∷ [])) (Literal c))))))

abbrev written_of : Attribute → Written
written_of a = record { gap = 32 ∷ []; name = chars a.name; before = []; after = []; quote = 34; parts = map value_part (chars a.value) }

abbrev text_tokens : List ℕ → List Token
text_tokens [] = []
text_tokens (c ∷ cs) = Data (text_part c) ∷ text_tokens cs

abbrev close_token : List ℕ → Token
close_token name = Close (chars name) []

abbrev open_token : Bool → List ℕ → List Attribute → Token
open_token empty name attributes = Start empty (chars name) (map written_of attributes) []

abbrev tokens_of : Trees Kind → List Token
tokens_of none = []
tokens_of (node (Words text) inner rest) = text_tokens (chars text) ++ tokens_of rest
tokens_of (node (Element name attributes) none rest) = open_token true name attributes ∷ tokens_of rest
tokens_of (node (Element name attributes) (node kind inner more) rest) = open_token false name attributes ∷ (tokens_of (node kind inner more) ++ (close_token name ∷ tokens_of rest))

-- ---- what can be written and read back

abbrev IsText : List ℕ → Type 0
IsText bytes = (encode_utf8_all (chars bytes) ≡ bytes) × (list_all is_char (chars bytes) ≡ true)

abbrev IsNamed : List ℕ → Type 0
IsNamed bytes = (encode_utf8_all (chars bytes) ≡ bytes) × (is_short_name (chars bytes) ≡ true)

abbrev AreAttributes : List Attribute → Type 0
AreAttributes [] = Unit {0}
AreAttributes (a ∷ attributes) = IsNamed a.name × IsText a.value × AreAttributes attributes

abbrev IsWritable : Trees Kind → Type 0
IsWritable none = Unit {0}
IsWritable (node (Words text) inner rest) = (inner ≡ none) × IsText text × (list_all is_space (chars text) ≡ false) × (no_text rest ≡ true) × IsWritable rest
IsWritable (node (Element name attributes) inner rest) = IsNamed name × AreAttributes attributes × (differ attributes ≡ true) × IsWritable inner × IsWritable rest

text_is : (bytes : List ℕ) → are_chars bytes ≡ true → IsText bytes
text_is bytes h = let w = and_parts (is_utf8 bytes) (list_all is_char (chars bytes)) h in (encodes-chars bytes (IsUtf8-from_is_utf8 bytes w.0), w.1)

name_is : (bytes : List ℕ) → is_node_name bytes ≡ true → IsNamed bytes
name_is bytes h = let w = and_parts (is_utf8 bytes) (is_short_name (chars bytes)) h in (encodes-chars bytes (IsUtf8-from_is_utf8 bytes w.0), w.1)

attributes_are : (attributes : List Attribute) → list_all is_valid_attribute attributes ≡ true → AreAttributes attributes
attributes_are [] h = tt
attributes_are (a ∷ attributes) h =
    let w = and_parts (is_valid_attribute a) (list_all is_valid_attribute attributes) h in
    let n = and_parts (is_node_name a.name) _ w.0 in
    let v = and_parts (are_chars a.value) _ n.1 in
    (name_is a.name n.0, text_is a.value v.0, attributes_are attributes w.1)

negated : (b : Bool) → not b ≡ true → b ≡ false
negated true e = absurd cc
negated false e = refl

leaf : (inner : Trees Kind) → not (has_some inner) ≡ true → inner ≡ none
leaf none h = refl
leaf (node kind inner rest) h = absurd cc

record ValidText (text : List ℕ) : Type 0 where
  chars_are : are_chars text ≡ true
  ink : list_all is_space (chars text) ≡ false

valid_text : (text : List ℕ) → is_valid_kind (Words text) ≡ true → ValidText text
unfolding is_valid_kind
valid_text text h =
    let w = and_parts _ _ (and_parts _ _ h).0 in
    record { chars_are = w.0; ink = negated _ w.1 }

record ValidElement (name : List ℕ) (attributes : List Attribute) : Type 0 where
  named : is_node_name name ≡ true
  each : list_all is_valid_attribute attributes ≡ true
  distinct : are_distinct (map (λ a. a.name) attributes) ≡ true

valid_element : (name : List ℕ) (attributes : List Attribute) → is_valid_kind (Element name attributes) ≡ true → ValidElement name attributes
unfolding is_valid_kind
valid_element name attributes h =
    let n = and_parts (is_node_name name) _ (and_parts _ _ h).0 in
    let a = and_parts (list_all is_valid_attribute attributes) _ n.1 in
    let d = and_parts (are_distinct (map (λ a. a.name) attributes)) _ a.1 in
    record { named = n.0; each = a.0; distinct = d.0 }

writable : (ts : Trees Kind) → every is_valid_node ts ≡ true → are_apart ts ≡ true → IsWritable ts
writable none h k = tt
writable (node (Words text) inner rest) h k =
    let n = and_parts (is_valid_node (Words text) (has_some inner)) _ h in
    let v = and_parts (is_valid_kind (Words text)) _ n.0 in
    let t = valid_text text v.0 in
    let r = and_parts (every is_valid_node inner) (every is_valid_node rest) n.1 in
    let a = and_parts (no_text rest) _ k in
    let b = and_parts (are_apart inner) (are_apart rest) a.1 in
    (leaf inner v.1, text_is text t.chars_are, t.ink, a.0, writable rest r.1 b.1)
writable (node (Element name attributes) inner rest) h k =
    let n = and_parts (is_valid_node (Element name attributes) (has_some inner)) _ h in
    let v = and_parts (is_valid_kind (Element name attributes)) _ n.0 in
    let e = valid_element name attributes v.0 in
    let r = and_parts (every is_valid_node inner) (every is_valid_node rest) n.1 in
    let b = and_parts (are_apart inner) (are_apart rest) k in
    (name_is name e.named, attributes_are attributes e.each, e.distinct, writable inner r.0 b.0, writable rest r.1 b.1)

-- ---- a property of a choice, by its two sides

choose : {A : Type 0} (P : A → Type 0) (b : Bool) (x y : A) → (b ≡ true → P x) → (b ≡ false → P y) → P (cond b x y)
choose P true x y f g = f refl
choose P false x y f g = g refl

one_char : (c k : ℕ) → eqb c k ≡ true → k ∷ [] ≡ c ∷ []
one_char c k e = ap (λ n. n ∷ []) (sym (eqb-true c k e))

meant_text : (c : ℕ) → meant (text_part c) ≡ c ∷ []
meant_text c =
    let P : Part → Type 0 = λ p. meant p ≡ c ∷ [] in
    choose P (eqb c 38) _ _ (λ e. one_char c 38 e) (λ a.
    choose P (eqb c 60) _ _ (λ e. one_char c 60 e) (λ b.
    choose P (eqb c 62) _ _ (λ e. one_char c 62 e) (λ d.
    choose P (eqb c 10) _ _ (λ e. one_char c 10 e) (λ f.
    choose P (eqb c 13) _ _ (λ e. one_char c 13 e) (λ g. refl)))))

plain_value : (c : ℕ) → eqb c 9 ≡ false → eqb c 10 ≡ false → eqb c 13 ≡ false → cond (is_space c) 32 c ≡ c
plain_value c a b d =
    elim (eqb c 32) as (λ e. eqb c 32 ≡ e → cond (is_space c) 32 c ≡ c) [
      | true ↦ λ e. ap (λ n. cond (is_space n) 32 n) (eqb-true c 32 e) ∙ sym (eqb-true c 32 e)
      | false ↦ λ e. rw (e, a, d, b) refl
    ] refl

meant_value : (c : ℕ) → meant_in_value (value_part c) ≡ c ∷ []
meant_value c =
    let P : Part → Type 0 = λ p. meant_in_value p ≡ c ∷ [] in
    choose P (eqb c 38) _ _ (λ e. one_char c 38 e) (λ a.
    choose P (eqb c 60) _ _ (λ e. one_char c 60 e) (λ b.
    choose P (eqb c 34) _ _ (λ e. one_char c 34 e) (λ d.
    choose P (eqb c 9) _ _ (λ e. one_char c 9 e) (λ f.
    choose P (eqb c 10) _ _ (λ e. one_char c 10 e) (λ g.
    choose P (eqb c 13) _ _ (λ e. one_char c 13 e) (λ h. ap (λ n. n ∷ []) (plain_value c f g h)))))))

values_back : (cs : List ℕ) → flat_map meant_in_value (map value_part cs) ≡ cs
values_back [] = refl
values_back (c ∷ cs) = ap (λ (xs : List ℕ). xs ++ flat_map meant_in_value (map value_part cs)) (meant_value c) ∙ ap (λ (xs : List ℕ). c ∷ xs) (values_back cs)

attributes_back : (attributes : List Attribute) → AreAttributes attributes → map attribute_of (map written_of attributes) ≡ attributes
attributes_back [] h = refl
attributes_back (a ∷ rest) h =
    let same : attribute_of (written_of a) ≡ a = (λ i. record { name = h.0.0 i; value = (ap encode_utf8_all (values_back (chars a.value)) ∙ h.1.0) i }) in
    ap (λ b. b ∷ map attribute_of (map written_of rest)) same ∙ ap (λ (xs : List Attribute). a ∷ xs) (attributes_back rest h.2)

-- ---- what the tokens say

text_run : (cs run : List ℕ) (us : List Token) → brackets run (text_tokens cs ++ us) ≡ brackets (run ++ cs) us
text_run [] run us = ap (λ (r : List ℕ). brackets r us) (sym (append-nil run))
text_run (c ∷ cs) run us =
    ap (λ (r : List ℕ). brackets (run ++ r) (text_tokens cs ++ us)) (meant_text c)
    ∙ text_run cs (run ++ c ∷ []) us
    ∙ ap (λ (r : List ℕ). brackets r us) (append_assoc run (c ∷ []) cs)

-- tokens that divide the text before them from what they say
abbrev Cuts : List Token → Type 0
Cuts us = (run : List ℕ) → brackets run us ≡ text_brackets run ++ brackets [] us

rest_cuts : (ts : Trees Kind) (us : List Token) → no_text ts ≡ true → Cuts us → Cuts (tokens_of ts ++ us)
rest_cuts none us h cut = cut
rest_cuts (node (Words text) inner rest) us h cut = absurd cc
rest_cuts (node (Element name attributes) none rest) us h cut = λ run. refl
rest_cuts (node (Element name attributes) (node kind inner more) rest) us h cut = λ run. refl

-- what is written says where the nodes begin and end
written_brackets : (ts : Trees Kind) (us : List Token) → IsWritable ts → Cuts us → brackets [] (tokens_of ts ++ us) ≡ bracketing ts ++ brackets [] us
written_brackets none us h cut = refl
written_brackets (node (Words text) inner rest) us h cut =
    ap (λ (xs : List Token). brackets [] xs) (append_assoc (text_tokens (chars text)) (tokens_of rest) us)
    ∙ text_run (chars text) [] (tokens_of rest ++ us)
    ∙ rest_cuts rest us h.3 cut (chars text)
    ∙ ap (λ b. cond b [] (Begin (Words (encode_utf8_all (chars text))) ∷ End [] ∷ []) ++ brackets [] (tokens_of rest ++ us)) h.2
    ∙ ap (λ (n : List ℕ). Begin (Words n) ∷ End [] ∷ brackets [] (tokens_of rest ++ us)) h.1.0
    ∙ ap (λ (ps : List Bracket). Begin (Words text) ∷ End [] ∷ ps) (written_brackets rest us h.4 cut)
    ∙ ap (λ (is : Trees Kind). Begin (Words text) ∷ ((bracketing is ++ End [] ∷ bracketing rest) ++ brackets [] us)) (sym h.0)
written_brackets (node (Element name attributes) none rest) us h cut =
    ap (λ (n : List ℕ). Begin (Element n (map attribute_of (map written_of attributes))) ∷ End n ∷ brackets [] (tokens_of rest ++ us)) h.0.0
    ∙ ap (λ (xs : List Attribute). Begin (Element name xs) ∷ End name ∷ brackets [] (tokens_of rest ++ us)) (attributes_back attributes h.1)
    ∙ ap (λ (ps : List Bracket). Begin (Element name attributes) ∷ End name ∷ ps) (written_brackets rest us h.4 cut)
written_brackets (node (Element name attributes) (node kind inner more) rest) us h cut =
    let inside = node kind inner more in
    ap (λ (n : List ℕ). Begin (Element n (map attribute_of (map written_of attributes))) ∷ brackets [] ((tokens_of inside ++ (close_token name ∷ tokens_of rest)) ++ us)) h.0.0
    ∙ ap (λ (xs : List Attribute). Begin (Element name xs) ∷ brackets [] ((tokens_of inside ++ (close_token name ∷ tokens_of rest)) ++ us)) (attributes_back attributes h.1)
    ∙ ap (λ (ps : List Bracket). Begin (Element name attributes) ∷ ps)
    (ap (λ (xs : List Token). brackets [] xs) (append_assoc (tokens_of inside) (close_token name ∷ tokens_of rest) us)
    ∙ written_brackets (node kind inner more) (close_token name ∷ (tokens_of rest ++ us)) h.3 (λ run. refl)
    ∙ ap (λ (n : List ℕ). bracketing inside ++ (End n ∷ brackets [] (tokens_of rest ++ us))) h.0.0
    ∙ ap (λ (ps : List Bracket). bracketing inside ++ (End name ∷ ps)) (written_brackets rest us h.4 cut)
    ∙ sym (append_assoc (bracketing inside) (End name ∷ bracketing rest) (brackets [] us)))

written_tree : (t : Tree Kind) → IsWritable (one t) → brackets [] (tokens_of (one t)) ≡ bracketing (one t)
written_tree t h =
    ap (λ (xs : List Token). brackets [] xs) (sym (tokens_none (tokens_of (one t))))
    ∙ written_brackets (one t) [] h (λ run. sym (append-nil (text_brackets run)))
    ∙ append-nil (bracketing (one t))
  where
    tokens_none : (xs : List Token) → xs ++ [] ≡ xs
    tokens_none [] = refl
    tokens_none (x ∷ xs) = ap (λ (ys : List Token). x ∷ ys) (tokens_none xs)

-- ---- order

text_inside : (cs : List ℕ) (b : Bool) (d : ℕ) (us : List Token) → outside b (suc d) (text_tokens cs ++ us) ≡ outside b (suc d) us
text_inside [] b d us = refl
text_inside (c ∷ cs) b d us = one_part (text_part c) (text_tokens cs ++ us) b d ∙ text_inside cs b d us
  where
    one_part : (p : Part) (us : List Token) (b : Bool) (d : ℕ) → outside b (suc d) (Data p ∷ us) ≡ outside b (suc d) us
    one_part (Literal c) us b d = refl
    one_part (Reference body) us b d = refl

-- inside an element all of a tree's tokens may stand
tree_inside : (ts : Trees Kind) (d : ℕ) (us : List Token) → outside false (suc d) (tokens_of ts ++ us) ≡ outside false (suc d) us
tree_inside none d us = refl
tree_inside (node (Words text) inner rest) d us =
    ap (λ (xs : List Token). outside false (suc d) xs) (append_assoc (text_tokens (chars text)) (tokens_of rest) us) ∙ text_inside (chars text) false d (tokens_of rest ++ us) ∙ tree_inside rest d us
tree_inside (node (Element name attributes) none rest) d us = tree_inside rest d us
tree_inside (node (Element name attributes) (node kind inner more) rest) d us =
    ap (λ (xs : List Token). outside false (suc d + 1) xs) (append_assoc (tokens_of (node kind inner more)) (close_token name ∷ tokens_of rest) us)
    ∙ ap (λ n. outside false n (tokens_of (node kind inner more) ++ (close_token name ∷ (tokens_of rest ++ us)))) (up d)
    ∙ tree_inside (node kind inner more) (suc d) (close_token name ∷ (tokens_of rest ++ us))
    ∙ ap (λ n. outside false n (tokens_of rest ++ us)) (down d)
    ∙ tree_inside rest d us
  where
    up : (d : ℕ) → suc d + 1 ≡ suc (suc d)
    up d = omega arith

    down : (d : ℕ) → suc (suc d) - 1 ≡ suc d
    down d = omega arith

written_order : (name : List ℕ) (attributes : List Attribute) (inner : Trees Kind) → outside true 0 (tokens_of (node (Element name attributes) inner none)) ≡ true
written_order name attributes none = refl
written_order name attributes (node kind inner more) =
    ap (λ n. outside false n (tokens_of (node kind inner more) ++ (close_token name ∷ []))) (one_more 0) ∙ tree_inside (node kind inner more) 0 (close_token name ∷ [])
  where
    one_more : (d : ℕ) → d + 1 ≡ suc d
    one_more d = omega arith

text_form : (cs : List ℕ) → list_all is_textual (text_tokens cs ++ []) ≡ true
text_form [] = refl
text_form (c ∷ cs) = text_form cs

form_of : (kind : Kind) (inner : Trees Kind) → has_form None (tokens_of (node kind inner none)) ≡ true
form_of (Element name attributes) inner = or_left _ _ (written_order name attributes inner)
form_of (Words text) inner = or_right (outside true 0 (text_tokens (chars text) ++ [])) _ (text_form (chars text))

-- ---- each is a token

part_of_text : (c : ℕ) → is_char c ≡ true → is_part (text_part c) ≡ true
part_of_text c h =
    let P : Part → Type 0 = λ p. is_part p ≡ true in
    choose P (eqb c 38) _ _ (λ e. refl) (λ a.
    choose P (eqb c 60) _ _ (λ e. refl) (λ b.
    choose P (eqb c 62) _ _ (λ e. refl) (λ d.
    choose P (eqb c 10) _ _ (λ e. refl) (λ f.
    choose P (eqb c 13) _ _ (λ e. refl) (λ g. rw (h, a, b) refl)))))

part_of_value : (c : ℕ) → is_char c ≡ true → is_within 34 (value_part c) ≡ true
part_of_value c h =
    let P : Part → Type 0 = λ p. is_within 34 p ≡ true in
    choose P (eqb c 38) _ _ (λ e. refl) (λ a.
    choose P (eqb c 60) _ _ (λ e. refl) (λ b.
    choose P (eqb c 34) _ _ (λ e. refl) (λ d.
    choose P (eqb c 9) _ _ (λ e. refl) (λ f.
    choose P (eqb c 10) _ _ (λ e. refl) (λ g.
    choose P (eqb c 13) _ _ (λ e. refl) (λ i. rw (h, a, b, d) refl))))))

-- a part that is plain, and what is written of it
plain_text_part : (c : ℕ) → is_char c ≡ true → list_all is_plain (spelled_part (text_part c)) ≡ true
plain_text_part c h =
    let P : Part → Type 0 = λ p. list_all is_plain (spelled_part p) ≡ true in
    choose P (eqb c 38) _ _ (λ e. refl) (λ a.
    choose P (eqb c 60) _ _ (λ e. refl) (λ b.
    choose P (eqb c 62) _ _ (λ e. refl) (λ d.
    choose P (eqb c 10) _ _ (λ e. refl) (λ f.
    choose P (eqb c 13) _ _ (λ e. refl) (λ g. rw (h, g) refl)))))

plain_value_part : (c : ℕ) → is_char c ≡ true → list_all is_plain (spelled_part (value_part c)) ≡ true
plain_value_part c h =
    let P : Part → Type 0 = λ p. list_all is_plain (spelled_part p) ≡ true in
    choose P (eqb c 38) _ _ (λ e. refl) (λ a.
    choose P (eqb c 60) _ _ (λ e. refl) (λ b.
    choose P (eqb c 34) _ _ (λ e. refl) (λ d.
    choose P (eqb c 9) _ _ (λ e. refl) (λ f.
    choose P (eqb c 10) _ _ (λ e. refl) (λ g.
    choose P (eqb c 13) _ _ (λ e. refl) (λ i. rw (h, i) refl))))))

values_all : (cs : List ℕ) → list_all is_char cs ≡ true → list_all (is_within 34) (map value_part cs) ≡ true
values_all [] h = refl
values_all (c ∷ cs) h = let w = and_parts (is_char c) (list_all is_char cs) h in and_from _ _ (part_of_value c w.0) (values_all cs w.1)

texts_all : (cs : List ℕ) → list_all is_char cs ≡ true → list_all is_token (text_tokens cs) ≡ true
texts_all [] h = refl
texts_all (c ∷ cs) h = let w = and_parts (is_char c) (list_all is_char cs) h in and_from _ _ (part_of_text c w.0) (texts_all cs w.1)

all_append : (p : Token → Bool) (xs ys : List Token) → list_all p xs ≡ true → list_all p ys ≡ true → list_all p (xs ++ ys) ≡ true
all_append p [] ys h k = k
all_append p (x ∷ xs) ys h k = let w = and_parts (p x) (list_all p xs) h in and_from _ _ w.0 (all_append p xs ys w.1 k)

attributes_all : (attributes : List Attribute) → AreAttributes attributes → list_all is_written (map written_of attributes) ≡ true
attributes_all [] h = refl
attributes_all (a ∷ attributes) h = and_from _ _ (and_from (is_short_name (chars a.name)) _ h.0.1 (values_all (chars a.value) h.1.1)) (attributes_all attributes h.2)

open_is : (empty : Bool) (name : List ℕ) (attributes : List Attribute) → is_short_name (chars name) ≡ true → AreAttributes attributes → differ attributes ≡ true → is_token (open_token empty name attributes) ≡ true
open_is empty name attributes n h d = and_from _ _ n (and_from _ _ (attributes_all attributes h) (and_from _ _ (ap differ (attributes_back attributes h) ∙ d) refl))

written_each : (ts : Trees Kind) → IsWritable ts → list_all is_token (tokens_of ts) ≡ true
written_each none h = refl
written_each (node (Words text) inner rest) h = all_append is_token (text_tokens (chars text)) (tokens_of rest) (texts_all (chars text) h.1.1) (written_each rest h.4)
written_each (node (Element name attributes) none rest) h = and_from _ _ (open_is true name attributes h.0.1 h.1 h.2) (written_each rest h.4)
written_each (node (Element name attributes) (node kind inner more) rest) h =
    and_from _ _ (open_is false name attributes h.0.1 h.1 h.2) (all_append is_token (tokens_of (node kind inner more)) (close_token name ∷ tokens_of rest) (written_each (node kind inner more) h.3) (and_from _ _ (and_from _ _ h.0.1 refl) (written_each rest h.4)))

-- ---- no `>` stands as it is

abbrev no_close : Token → Bool
no_close (Data (Literal c)) = not (eqb c 62)
no_close t = true

unbroken_if : (ts : List Token) (n : ℕ) → list_all no_close ts ≡ true → unbroken n ts ≡ true
unbroken_if [] n h = refl
unbroken_if (Data (Literal c) ∷ ts) n h =
    let w = and_parts (not (eqb c 62)) (list_all no_close ts) h in
    choose (λ b. b ≡ true) (eqb c 93) _ _ (λ e. unbroken_if ts (n + 1) w.1) (λ e. and_from _ _ (tests (eqb c 62) (leb 2 n) w.0) (unbroken_if ts 0 w.1))
  where
    tests : (a b : Bool) → not a ≡ true → not (a && b) ≡ true
    tests true b h = absurd cc
    tests false b h = refl
unbroken_if (Data (Reference body) ∷ ts) n h = unbroken_if ts 0 h
unbroken_if (Section cs ∷ ts) n h = unbroken_if ts 0 h
unbroken_if (Comment cs ∷ ts) n h = unbroken_if ts 0 h
unbroken_if (Instruction name cs ∷ ts) n h = unbroken_if ts 0 h
unbroken_if (Start empty name attributes gap ∷ ts) n h = unbroken_if ts 0 h
unbroken_if (Close name gap ∷ ts) n h = unbroken_if ts 0 h
unbroken_if (Doctype gap name ext after ∷ ts) n h = unbroken_if ts 0 h

no_close_text : (c : ℕ) → no_close (Data (text_part c)) ≡ true
no_close_text c =
    let P : Part → Type 0 = λ p. no_close (Data p) ≡ true in
    choose P (eqb c 38) _ _ (λ e. refl) (λ a.
    choose P (eqb c 60) _ _ (λ e. refl) (λ b.
    choose P (eqb c 62) _ _ (λ e. refl) (λ d.
    choose P (eqb c 10) _ _ (λ e. refl) (λ f.
    choose P (eqb c 13) _ _ (λ e. refl) (λ g. ap not d)))))

texts_close : (cs : List ℕ) → list_all no_close (text_tokens cs) ≡ true
texts_close [] = refl
texts_close (c ∷ cs) = and_from _ _ (no_close_text c) (texts_close cs)

tree_close : (ts : Trees Kind) → list_all no_close (tokens_of ts) ≡ true
tree_close none = refl
tree_close (node (Words text) inner rest) = all_append no_close (text_tokens (chars text)) (tokens_of rest) (texts_close (chars text)) (tree_close rest)
tree_close (node (Element name attributes) none rest) = tree_close rest
tree_close (node (Element name attributes) (node kind inner more) rest) = all_append no_close (tokens_of (node kind inner more)) (close_token name ∷ tokens_of rest) (tree_close (node kind inner more)) (tree_close rest)

-- ---- the characters are plain

abbrev spelled_all : List Token → List ℕ
spelled_all ts = flat_map spelled ts

spelled_append : (xs ys : List Token) → spelled_all (xs ++ ys) ≡ spelled_all xs ++ spelled_all ys
spelled_append [] ys = refl
spelled_append (x ∷ xs) ys = ap (λ (r : List ℕ). spelled x ++ r) (spelled_append xs ys) ∙ sym (append_assoc (spelled x) (spelled_all xs) (spelled_all ys))

plain_values : (cs : List ℕ) → list_all is_char cs ≡ true → list_all is_plain (flat_map spelled_part (map value_part cs)) ≡ true
plain_values [] h = refl
plain_values (c ∷ cs) h = let w = and_parts (is_char c) (list_all is_char cs) h in plain_append (spelled_part (value_part c)) _ (plain_value_part c w.0) (plain_values cs w.1)

plain_texts : (cs : List ℕ) → list_all is_char cs ≡ true → list_all is_plain (spelled_all (text_tokens cs)) ≡ true
plain_texts [] h = refl
plain_texts (c ∷ cs) h = let w = and_parts (is_char c) (list_all is_char cs) h in plain_append (spelled_part (text_part c)) _ (plain_text_part c w.0) (plain_texts cs w.1)

plain_name : (name : List ℕ) → is_short_name name ≡ true → list_all is_plain name ≡ true
plain_name name n = name_plain name (short_chars name n)

plain_attributes : (attributes : List Attribute) → AreAttributes attributes → list_all is_plain (flat_map spelled_written (map written_of attributes)) ≡ true
plain_attributes [] h = refl
plain_attributes (a ∷ attributes) h =
    plain_append (spelled_written (written_of a)) _ (plain_append (chars a.name) _ (plain_name (chars a.name) h.0.1) (plain_append (flat_map spelled_part (map value_part (chars a.value))) (34 ∷ []) (plain_values (chars a.value) h.1.1) refl)) (plain_attributes attributes h.2)

plain_open : (empty : Bool) (name : List ℕ) (attributes : List Attribute) → is_short_name (chars name) ≡ true → AreAttributes attributes → list_all is_plain (spelled (open_token empty name attributes)) ≡ true
plain_open true name attributes n h = plain_append (chars name) _ (plain_name (chars name) n) (plain_append (flat_map spelled_written (map written_of attributes)) (47 ∷ 62 ∷ []) (plain_attributes attributes h) refl)
plain_open false name attributes n h = plain_append (chars name) _ (plain_name (chars name) n) (plain_append (flat_map spelled_written (map written_of attributes)) (62 ∷ []) (plain_attributes attributes h) refl)

plain_close : (name : List ℕ) → is_short_name (chars name) ≡ true → list_all is_plain (spelled (close_token name)) ≡ true
plain_close name n = plain_append (chars name) (62 ∷ []) (plain_name (chars name) n) refl

plain_joined : (xs ys : List Token) → list_all is_plain (spelled_all xs) ≡ true → list_all is_plain (spelled_all ys) ≡ true → list_all is_plain (spelled_all (xs ++ ys)) ≡ true
plain_joined xs ys h k = ap (λ (r : List ℕ). list_all is_plain r) (spelled_append xs ys) ∙ plain_append (spelled_all xs) (spelled_all ys) h k

plain_tree : (ts : Trees Kind) → IsWritable ts → list_all is_plain (spelled_all (tokens_of ts)) ≡ true
plain_tree none h = refl
plain_tree (node (Words text) inner rest) h = plain_joined (text_tokens (chars text)) (tokens_of rest) (plain_texts (chars text) h.1.1) (plain_tree rest h.4)
plain_tree (node (Element name attributes) none rest) h = plain_append (spelled (open_token true name attributes)) _ (plain_open true name attributes h.0.1 h.1) (plain_tree rest h.4)
plain_tree (node (Element name attributes) (node kind inner more) rest) h =
    plain_append (spelled (open_token false name attributes)) _ (plain_open false name attributes h.0.1 h.1)
    (plain_joined (tokens_of (node kind inner more)) (close_token name ∷ tokens_of rest) (plain_tree (node kind inner more) h.3) (plain_append (spelled (close_token name)) _ (plain_close name h.0.1) (plain_tree rest h.4)))

-- ---- the bytes

-- a character beyond ASCII has no byte of ASCII
high_byte : (c k : ℕ) → 128 ≤ c → k < length (encode_utf8 c) → 128 ≤ get_or (encode_utf8 c) k 0
high_byte c k h lt =
    elim (leb 128 (get_or (encode_utf8 c) k 0)) as (λ b. leb 128 (get_or (encode_utf8 c) k 0) ≡ b → 128 ≤ get_or (encode_utf8 c) k 0) [
      | true ↦ λ e. grind (arith, nat_tests)
      | false ↦ λ e. let low : get_or (encode_utf8 c) k 0 < 128 = grind (arith, nat_tests) in absurd (omega (arith, h, low, inside_one c [] (encode_utf8 c) k (sym (append-nil (encode_utf8 c))) lt low))
    ] refl

-- bytes of which each stays as it is
stays : (f : ℕ → List ℕ) (xs : List ℕ) → ((k : ℕ) → k < length xs → f (get_or xs k 0) ≡ get_or xs k 0 ∷ []) → flat_map f xs ≡ xs
stays f [] h = refl
stays f (x ∷ xs) h = (λ i. h 0 (omega arith) i ++ stays f xs (λ k lt. h (suc k) (omega (arith, lt))) i)

differs : (b k : ℕ) → 128 ≤ b → k < 128 → eqb b k ≡ false
differs b k h l = grind (arith, nat_tests)

text_high : (b : ℕ) → 128 ≤ b → text_byte b ≡ b ∷ []
text_high b h = rw (differs b 38 h (omega arith), differs b 60 h (omega arith), differs b 62 h (omega arith), differs b 10 h (omega arith), differs b 13 h (omega arith)) refl

value_high : (b : ℕ) → 128 ≤ b → value_byte b ≡ b ∷ []
value_high b h = rw (differs b 38 h (omega arith), differs b 60 h (omega arith), differs b 34 h (omega arith), differs b 9 h (omega arith), differs b 10 h (omega arith), differs b 13 h (omega arith)) refl

-- the bytes of a character beyond ASCII
abbrev IsHigh : (ℕ → List ℕ) → Type 0
IsHigh f = (b : ℕ) → 128 ≤ b → f b ≡ b ∷ []

high_stays : (f : ℕ → List ℕ) (c : ℕ) → IsHigh f → 128 ≤ c → flat_map f (encode_utf8 c) ≡ encode_utf8 c
high_stays f c each h = stays f (encode_utf8 c) (λ k lt. each (get_or (encode_utf8 c) k 0) (high_byte c k h lt))

-- ladders of the same tests
both_choose : (P : List ℕ → Part → Type 0) (b : Bool) (x y : List ℕ) (p q : Part) → (b ≡ true → P x p) → (b ≡ false → P y q) → P (cond b x y) (cond b p q)
both_choose P true x y p q f g = f refl
both_choose P false x y p q f g = g refl

abbrev Same : List ℕ → Part → Type 0
Same x p = x ≡ encode_utf8_all (spelled_part p)

low_one : (c : ℕ) → c < 128 → encode_utf8_all (c ∷ []) ≡ c ∷ []
low_one c h = append-nil (encode_utf8 c) ∙ encode_ascii c h

escape : (x : List ℕ) → is_ascii x ≡ true → x ≡ encode_utf8_all x
escape x h = sym (spelled_ascii x h)

low_text : (c : ℕ) → c < 128 → Same (text_byte c) (text_part c)
low_text c h =
    both_choose Same (eqb c 38) _ _ _ _ (λ e. escape (codes "&amp;") refl) (λ a.
    both_choose Same (eqb c 60) _ _ _ _ (λ e. escape (codes "&lt;") refl) (λ b.
    both_choose Same (eqb c 62) _ _ _ _ (λ e. escape (codes "&gt;") refl) (λ d.
    both_choose Same (eqb c 10) _ _ _ _ (λ e. escape (codes "&#10;") refl) (λ f.
    both_choose Same (eqb c 13) _ _ _ _ (λ e. escape (codes "&#13;") refl) (λ g. sym (low_one c h))))))

low_value : (c : ℕ) → c < 128 → Same (value_byte c) (value_part c)
low_value c h =
    both_choose Same (eqb c 38) _ _ _ _ (λ e. escape (codes "&amp;") refl) (λ a.
    both_choose Same (eqb c 60) _ _ _ _ (λ e. escape (codes "&lt;") refl) (λ b.
    both_choose Same (eqb c 34) _ _ _ _ (λ e. escape (codes "&quot;") refl) (λ d.
    both_choose Same (eqb c 9) _ _ _ _ (λ e. escape (codes "&#9;") refl) (λ f.
    both_choose Same (eqb c 10) _ _ _ _ (λ e. escape (codes "&#10;") refl) (λ g.
    both_choose Same (eqb c 13) _ _ _ _ (λ e. escape (codes "&#13;") refl) (λ i. sym (low_one c h)))))))

high_text : (c : ℕ) → 128 ≤ c → text_part c ≡ Literal c
high_text c h = rw (differs c 38 h (omega arith), differs c 60 h (omega arith), differs c 62 h (omega arith), differs c 10 h (omega arith), differs c 13 h (omega arith)) refl

high_value : (c : ℕ) → 128 ≤ c → value_part c ≡ Literal c
high_value c h = rw (differs c 38 h (omega arith), differs c 60 h (omega arith), differs c 34 h (omega arith), differs c 9 h (omega arith), differs c 10 h (omega arith), differs c 13 h (omega arith)) refl

-- the bytes of a character, written one by one, spell the part that the character is written with
one_by_one : (f : ℕ → List ℕ) (part : ℕ → Part) (c : ℕ) → IsHigh f → (c < 128 → Same (f c) (part c)) → (128 ≤ c → part c ≡ Literal c) → flat_map f (encode_utf8 c) ≡ encode_utf8_all (spelled_part (part c))
one_by_one f part c each low high =
    elim (leb 128 c) as (λ b. leb 128 c ≡ b → flat_map f (encode_utf8 c) ≡ encode_utf8_all (spelled_part (part c))) [
      | true ↦ λ e.
          let h : 128 ≤ c = grind (arith, nat_tests) in
          high_stays f c each h ∙ sym (append-nil (encode_utf8 c)) ∙ ap (λ p. encode_utf8_all (spelled_part p)) (sym (high h))
      | false ↦ λ e.
          let l : c < 128 = grind (arith, nat_tests) in
          ap (λ (r : List ℕ). flat_map f r) (encode_ascii c l) ∙ append-nil (f c) ∙ low l
    ] refl

text_bytes : (cs : List ℕ) → flat_map text_byte (encode_utf8_all cs) ≡ encode_utf8_all (spelled_all (text_tokens cs))
text_bytes [] = refl
text_bytes (c ∷ cs) =
    flat_map-append text_byte (encode_utf8 c) (encode_utf8_all cs)
    ∙ (λ i. one_by_one text_byte (λ d. text_part d) c text_high (low_text c) (high_text c) i ++ text_bytes cs i)
    ∙ sym (encodes-append (spelled_part (text_part c)) (spelled_all (text_tokens cs)))

value_bytes : (cs : List ℕ) → flat_map value_byte (encode_utf8_all cs) ≡ encode_utf8_all (flat_map spelled_part (map value_part cs))
value_bytes [] = refl
value_bytes (c ∷ cs) =
    flat_map-append value_byte (encode_utf8 c) (encode_utf8_all cs)
    ∙ (λ i. one_by_one value_byte (λ d. value_part d) c value_high (low_value c) (high_value c) i ++ value_bytes cs i)
    ∙ sym (encodes-append (spelled_part (value_part c)) (flat_map spelled_part (map value_part cs)))

attribute_bytes : (a : Attribute) → IsNamed a.name → IsText a.value → encode_utf8_all (spelled_written (written_of a)) ≡ written_attribute a
attribute_bytes a n v =
    let value = flat_map spelled_part (map value_part (chars a.value)) in
    let inner : encode_utf8_all value ≡ flat_map value_byte a.value = sym (value_bytes (chars a.value)) ∙ ap (λ (r : List ℕ). flat_map value_byte r) v.0 in
    let quoted : encode_utf8_all (61 ∷ 34 ∷ (value ++ 34 ∷ [])) ≡ 61 ∷ 34 ∷ (flat_map value_byte a.value ++ 34 ∷ []) =
    spelled_front (61 ∷ 34 ∷ []) (value ++ 34 ∷ []) refl ∙ ap (λ (r : List ℕ). 61 ∷ 34 ∷ r) (encodes-append value (34 ∷ []) ∙ (λ i. inner i ++ spelled_ascii (34 ∷ []) refl i)) in
    spelled_front (32 ∷ []) (chars a.name ++ (61 ∷ 34 ∷ (value ++ 34 ∷ []))) refl
    ∙ ap (λ (r : List ℕ). 32 ∷ r) (encodes-append (chars a.name) (61 ∷ 34 ∷ (value ++ 34 ∷ [])) ∙ (λ i. n.0 i ++ quoted i))

attributes_bytes : (attributes : List Attribute) → AreAttributes attributes → encode_utf8_all (flat_map spelled_written (map written_of attributes)) ≡ flat_map written_attribute attributes
attributes_bytes [] h = refl
attributes_bytes (a ∷ attributes) h = encodes-append (spelled_written (written_of a)) _ ∙ (λ i. attribute_bytes a h.0 h.1 i ++ attributes_bytes attributes h.2 i)

front_bytes : (name : List ℕ) (attributes : List Attribute) (end : List ℕ) → IsNamed name → AreAttributes attributes → is_ascii end ≡ true
    → encode_utf8_all (60 ∷ (chars name ++ (flat_map spelled_written (map written_of attributes) ++ end))) ≡ tag_front name attributes ++ end
front_bytes name attributes end n h a =
    let ws = flat_map spelled_written (map written_of attributes) in
    spelled_front (60 ∷ []) (chars name ++ (ws ++ end)) refl
    ∙ ap (λ (r : List ℕ). 60 ∷ r) (encodes-append (chars name) (ws ++ end) ∙ (λ i. n.0 i ++ (encodes-append ws end ∙ (λ j. attributes_bytes attributes h j ++ spelled_ascii end a j)) i) ∙ sym (append_assoc name (flat_map written_attribute attributes) end))

close_bytes : (name : List ℕ) → IsNamed name → encode_utf8_all (spelled (close_token name)) ≡ end_tag name
close_bytes name n =
    spelled_front (60 ∷ 47 ∷ []) (chars name ++ 62 ∷ []) refl ∙ ap (λ (r : List ℕ). 60 ∷ 47 ∷ r) (encodes-append (chars name) (62 ∷ []) ∙ (λ i. n.0 i ++ spelled_ascii (62 ∷ []) refl i))

-- what is written is what the tokens spell
written_bytes : (ts : Trees Kind) → IsWritable ts → encode_utf8_all (spelled_all (tokens_of ts)) ≡ written ts
written_bytes none h = refl
written_bytes (node (Words text) inner rest) h =
    ap encode_utf8_all (spelled_append (text_tokens (chars text)) (tokens_of rest))
    ∙ encodes-append (spelled_all (text_tokens (chars text))) (spelled_all (tokens_of rest))
    ∙ (λ i. (sym (text_bytes (chars text)) ∙ ap (λ (r : List ℕ). flat_map text_byte r) h.1.0) i ++ written_bytes rest h.4 i)
written_bytes (node (Element name attributes) none rest) h =
    encodes-append (spelled (open_token true name attributes)) (spelled_all (tokens_of rest))
    ∙ (λ i. front_bytes name attributes (47 ∷ 62 ∷ []) h.0 h.1 refl i ++ written_bytes rest h.4 i)
written_bytes (node (Element name attributes) (node kind inner more) rest) h =
    let inside = node kind inner more in
    let last = close_token name ∷ tokens_of rest in
    encodes-append (spelled (open_token false name attributes)) (spelled_all (tokens_of inside ++ last))
    ∙ ap (λ (r : List ℕ). encode_utf8_all (spelled (open_token false name attributes)) ++ encode_utf8_all r) (spelled_append (tokens_of inside) last)
    ∙ ap (λ (r : List ℕ). encode_utf8_all (spelled (open_token false name attributes)) ++ r) (encodes-append (spelled_all (tokens_of inside)) (spelled_all last) ∙ ap (λ (r : List ℕ). encode_utf8_all (spelled_all (tokens_of inside)) ++ r) (encodes-append (spelled (close_token name)) (spelled_all (tokens_of rest))))
    ∙ (λ i. front_bytes name attributes (62 ∷ []) h.0 h.1 refl i ++ (written_bytes (node kind inner more) h.3 i ++ (close_bytes name h.0 i ++ written_bytes rest h.4 i)))
    ∙ group (tag_front name attributes) (written inside) (end_tag name) (written rest)
  where
    group : (f i e r : List ℕ) → (f ++ 62 ∷ []) ++ (i ++ (e ++ r)) ≡ (f ++ (62 ∷ (i ++ e))) ++ r
    group f i e r = simp append_assoc

-- ---- no mark comes first

unmarked_part : (c : ℕ) (r : List ℕ) → eqb c 65279 ≡ false → is_marked (spelled_part (text_part c) ++ r) ≡ false
unmarked_part c r h =
    let P : Part → Type 0 = λ p. is_marked (spelled_part p ++ r) ≡ false in
    choose P (eqb c 38) _ _ (λ e. refl) (λ a.
    choose P (eqb c 60) _ _ (λ e. refl) (λ b.
    choose P (eqb c 62) _ _ (λ e. refl) (λ d.
    choose P (eqb c 10) _ _ (λ e. refl) (λ f.
    choose P (eqb c 13) _ _ (λ e. refl) (λ g. h)))))

unmarked_text : (cs : List ℕ) → is_marked cs ≡ false → is_marked (spelled_all (text_tokens cs ++ [])) ≡ false
unmarked_text [] h = refl
unmarked_text (c ∷ cs) h = unmarked_part c (spelled_all (text_tokens cs ++ [])) h

unmarked_tree : (kind : Kind) (inner : Trees Kind) → is_marked_text kind ≡ false → is_marked (spelled_all (tokens_of (node kind inner none))) ≡ false
unmarked_tree (Words text) inner h = unmarked_text (chars text) h
unmarked_tree (Element name attributes) none h = refl
unmarked_tree (Element name attributes) (node kind inner more) h = refl

-- ---- what is written reads back

pub reads_back : (t : Tree Kind) → IsTrue (every is_valid_node (one t)) → IsTrue (are_apart (one t)) → is_marked_text t.0 ≡ false → Spells (written (one t)) t
reads_back t valid apart mark =
    let h = writable (one t) valid apart in
    let ts = tokens_of (one t) in
    let cs = spelled_all ts in
    let plain = plain_tree (one t) h in
    subst (λ (bytes : List ℕ). Spells bytes t) (written_bytes (one t) h) (
      None,
      ts,
      record {
        encoded = plain_encoded cs plain;
        by = record {
          each = written_each (one t) h;
          spelled_so = unmarked_characters (encode_utf8_all cs) cs (plain_lines cs plain) (unmarked_tree t.0 t.1 mark);
          whole = unbroken_if ts 0 (tree_close (one t));
          form = form_of t.0 t.1;
          tree_is = written_tree t h;
        };
      },
    )

-- The tree that bytes spell can be stored.
use Rattle.std.proofs.Common.{◌≡◌, ℕ, suc, ◌+◌, ◌*◌, ◌/◌, ◌^◌, ◌<◌, ◌≤◌, Bool, true, false, cond, ◌&&◌, ◌||◌, not, List, [], ◌∷◌, ◌++◌, length, eqb, leb, ltb, Option, Some, None, refl, sym, ap, subst, ◌∙◌, append_assoc, arith, inl, inr, append-nil}
use Rattle.std.specs.Prelude.{IsTrue, encode_utf8, map, sum_by}
use Rattle.std.specs.List.{flat_map, list_all}
use Rattle.std.specs.Str.{is_utf8, chars, encode_utf8_all, bytes_eq}
use Rattle.std.proofs.lemmas.Bool.{leb-true, and_parts, and_from, or_cases}
use Rattle.std.proofs.lemmas.Bool.Decides.{nat_tests}
use Rattle.std.proofs.lemmas.List.{length-append}
use Rattle.std.proofs.lemmas.List.Sums.{sum_by-cons}
use Rattle.std.proofs.lemmas.List.Folds.{list_all-append}
use Rattle.std.proofs.lemmas.Str.{encodes-append, encodes-chars, IsUtf8-from_is_utf8, length-encode, len_utf8_bounds, length-le-encodes}
use Rattle.mm_tree.specs.declared.Kind.{Kind}
use Rattle.mm_tree.specs.declared.Kind.TheVariants.{Element, Words}
use Rattle.mm_tree.specs.declared.Attribute.{Attribute}
use Rattle.mm_tree.specs.Characters.{is_char, is_space, is_short_name, is_name}
use Rattle.mm_tree.specs.Trees.{Trees, none, node, Tree, one, every, has_some}
use Rattle.mm_tree.specs.Validity.{are_chars, is_node_name, is_valid_attribute, attribute_size, is_valid_kind, is_valid_node, is_valid_tree, is_element, piece_count, pieces}
use Rattle.mm_xml.specs.Letters.{referred, by_number, by_name, numbered, is_digits, digits_value, is_gap}
use Rattle.mm_xml.specs.Syntax.{Part, Literal, Reference, is_part, is_literal, is_within, is_some, spelled_part, Written, is_written, spelled_written, if_named, meant, meant_in_value, attribute_of, differ, Token, Data, Section, Comment, Instruction, Start, Close, Doctype, ending, is_token, spelled, Declaration, is_declaration}
use Rattle.mm_xml.specs.Grammar.{Bracket, Begin, End, end_name, text_brackets, start_brackets, brackets, bracketing, outside, is_textual, spelled_first, is_document, has_form, Spells, normal, without_mark}
use Rattle.mm_xml.proofs.Spans.{chosen}
use Rattle.mm_xml.proofs.Attributes.{written_facts, attributes_len}
use Rattle.mm_xml.specs.Facts.Characters.{same_chars, utf8_chars, encoded_chars}

lt_test : (a b : ℕ) → a < b → ltb a b ≡ true
lt_test a b h = grind (arith, nat_tests)

le_test : (a b : ℕ) → a ≤ b → leb a b ≡ true
le_test a b h = grind (arith, nat_tests)

-- ---- characters

encoded_name : (cs : List ℕ) → list_all is_char cs ≡ true → is_short_name cs ≡ true → is_node_name (encode_utf8_all cs) ≡ true
encoded_name cs h n = and_from _ _ (utf8_chars cs h) (ap (λ (x : List ℕ). is_short_name x) (same_chars cs h) ∙ n)

-- how many bytes the characters take
abbrev size : List ℕ → ℕ
size cs = length (encode_utf8_all cs)

size_append : (xs ys : List ℕ) → size (xs ++ ys) ≡ size xs + size ys
size_append xs ys = ap length (encodes-append xs ys) ∙ length-append (encode_utf8_all xs) (encode_utf8_all ys)

size_first : (c : ℕ) (cs : List ℕ) → size (c ∷ cs) ≡ length (encode_utf8 c) + size cs
size_first c cs = length-append (encode_utf8 c) (encode_utf8_all cs)

byte_bounds : (c : ℕ) → (1 ≤ length (encode_utf8 c)) × (length (encode_utf8 c) ≤ 4)
byte_bounds c = let e = length-encode c in (omega (arith, e, (len_utf8_bounds c).0), omega (arith, e, (len_utf8_bounds c).1))

size_more : (c : ℕ) (cs : List ℕ) → 1 + size cs ≤ size (c ∷ cs)
size_more c cs = omega (arith, size_first c cs, (byte_bounds c).0)

all_split : (xs ys : List ℕ) → list_all is_char (xs ++ ys) ≡ true → (list_all is_char xs ≡ true) × (list_all is_char ys ≡ true)
all_split xs ys h = and_parts (list_all is_char xs) (list_all is_char ys) (sym (list_all-append is_char xs ys) ∙ h)

all_joined : (xs ys : List ℕ) → list_all is_char xs ≡ true → list_all is_char ys ≡ true → list_all is_char (xs ++ ys) ≡ true
all_joined xs ys h k = list_all-append is_char xs ys ∙ and_from _ _ h k

-- ---- what references name

abbrev is_char_if : Option ℕ → Type 0
is_char_if None = Unit {0}
is_char_if (Some c) = is_char c ≡ true

either_char : (b : Bool) (o p : Option ℕ) → is_char_if o → is_char_if p → is_char_if (cond b o p)
either_char true o p h k = h
either_char false o p h k = k

numbered_char : (base : ℕ) (ds : List ℕ) → is_char_if (numbered base ds)
numbered_char base ds = if_char (is_digits base ds) (digits_value base 0 ds)
  where
    if_char : (b : Bool) (n : ℕ) → is_char_if (cond (b && is_char n) (Some n) None)
    if_char false n = tt
    if_char true n = elim (is_char n) as (λ b. is_char n ≡ b → is_char_if (cond b (Some n) None)) [ true ↦ λ e. e | false ↦ λ e. tt ] refl

referred_char : (body : List ℕ) → is_char_if (referred body)
referred_char [] = tt
referred_char (c ∷ cs) = either_char (eqb c 35) (by_number cs) (by_name (c ∷ cs)) (number_char cs) (name_char (c ∷ cs))
  where
    number_char : (cs : List ℕ) → is_char_if (by_number cs)
    number_char [] = tt
    number_char (d ∷ ds) = either_char (eqb d 120) (numbered 16 ds) (numbered 10 (d ∷ ds)) (numbered_char 16 ds) (numbered_char 10 (d ∷ ds))

    five : (a b d e f : Bool) → is_char_if (cond a (Some 60) (cond b (Some 62) (cond d (Some 38) (cond e (Some 39) (cond f (Some 34) None)))))
    five true b d e f = refl
    five false true d e f = refl
    five false false true e f = refl
    five false false false true f = refl
    five false false false false true = refl
    five false false false false false = tt

    name_char : (body : List ℕ) → is_char_if (by_name body)
    name_char body = five (bytes_eq body (108 ∷ 116 ∷ [])) (bytes_eq body (103 ∷ 116 ∷ [])) (bytes_eq body (97 ∷ 109 ∷ 112 ∷ [])) (bytes_eq body (97 ∷ 112 ∷ 111 ∷ 115 ∷ [])) (bytes_eq body (113 ∷ 117 ∷ 111 ∷ 116 ∷ []))

-- what a reference means: one character, of at most the bytes of the reference
named_chars : (o : Option ℕ) → is_char_if o → list_all is_char (if_named o) ≡ true
named_chars None h = refl
named_chars (Some c) h = and_from (is_char c) true h refl

named_size : (o : Option ℕ) → size (if_named o) ≤ 4
named_size None = omega arith
named_size (Some c) = omega (arith, size_first c [], (byte_bounds c).1)

-- at least `&`, two characters and `;`
body_long : (body : List ℕ) → is_some (referred body) ≡ true → 2 ≤ length body
body_long [] h = absurd cc
body_long (c ∷ []) h = elim (chosen (eqb c 35) (by_number []) (by_name (c ∷ [])) (referred (c ∷ [])) refl) [
  | inl w ↦ let none_is : is_some (by_number []) ≡ true = ap is_some w.1 ∙ h in absurd cc
  | inr w ↦ let none_is : is_some (by_name (c ∷ [])) ≡ true = ap is_some w.1 ∙ h in absurd (short c none_is)
]
  where
    short : (c : ℕ) → is_some (by_name (c ∷ [])) ≡ true → ⊥
    short c e = grind (arith, nat_tests)
body_long (c ∷ d ∷ cs) h = omega arith

-- ---- parts

record PartFit (meaning spelling : List ℕ) : Type 0 where
  chars_are : list_all is_char meaning ≡ true
  small : size meaning ≤ size spelling

literal_char : (c : ℕ) → is_literal c ≡ true → is_char c ≡ true
literal_char c h = (and_parts (is_char c) (not (eqb c 60)) (and_parts (is_char c && not (eqb c 60)) (not (eqb c 38)) h).0).0

reference_fits : (body : List ℕ) → is_part (Reference body) ≡ true → PartFit (if_named (referred body)) (spelled_part (Reference body))
reference_fits body h =
    let long = body_long body (and_parts _ (is_some (referred body)) h).1 in
    record {
      chars_are = named_chars (referred body) (referred_char body);
      small = omega (arith, named_size (referred body), long, length-le-encodes body, size_more 38 (body ++ 59 ∷ []), size_append body (59 ∷ []), size_more 59 []);
    }

part_fits : (p : Part) → is_part p ≡ true → PartFit (meant p) (spelled_part p)
part_fits (Literal c) h = record { chars_are = and_from (is_char c) true (literal_char c h) refl; small = omega arith }
part_fits (Reference body) h = reference_fits body h

space_small : (b : Bool) (c : ℕ) → size (cond b 32 c ∷ []) ≤ size (c ∷ [])
space_small true c = omega (arith, size_more c [], size_first 32 [], length-encode 32)
space_small false c = omega arith

space_char : (b : Bool) (c : ℕ) → is_char c ≡ true → list_all is_char (cond b 32 c ∷ []) ≡ true
space_char true c h = refl
space_char false c h = and_from (is_char c) true h refl

value_part_fits : (q : ℕ) (p : Part) → is_within q p ≡ true → PartFit (meant_in_value p) (spelled_part p)
value_part_fits q (Literal c) h = record { chars_are = space_char (is_space c) c (literal_char c (and_parts (is_literal c) (not (eqb c q)) h).0); small = space_small (is_space c) c }
value_part_fits q (Reference body) h = reference_fits body h

value_fits : (q : ℕ) (ps : List Part) → list_all (is_within q) ps ≡ true → PartFit (flat_map meant_in_value ps) (flat_map spelled_part ps)
value_fits q [] h = record { chars_are = refl; small = omega arith }
value_fits q (p ∷ ps) h =
    let w = and_parts (is_within q p) (list_all (is_within q) ps) h in
    let f = value_part_fits q p w.0 in
    let g = value_fits q ps w.1 in
    record {
      chars_are = all_joined (meant_in_value p) (flat_map meant_in_value ps) f.chars_are g.chars_are;
      small = omega (arith, f.small, g.small, size_append (meant_in_value p) (flat_map meant_in_value ps), size_append (spelled_part p) (flat_map spelled_part ps));
    }

-- ---- attributes

gap_long : (g : List ℕ) → is_gap g ≡ true → 1 ≤ size g
gap_long [] h = absurd cc
gap_long (c ∷ cs) h = omega (arith, size_more c cs)

name_long : (n : List ℕ) → is_short_name n ≡ true → 1 ≤ size n
name_long [] h = absurd cc
name_long (c ∷ cs) h = omega (arith, size_more c cs)

short_long : (n : List ℕ) → is_short_name n ≡ true → size n ≤ 512
short_long n h = leb-true (size n) 512 (and_parts (is_name n) (leb (size n) 512) h).1

written_whole : (a : Written) → size (spelled_written a) ≡ size a.gap + (size a.name + (size a.before + (length (encode_utf8 61) + (size a.after + (length (encode_utf8 a.quote) + (size (flat_map spelled_part a.parts) + (length (encode_utf8 a.quote) + 0)))))))
written_whole a =
    size_append a.gap _ ∙ ap (λ k. size a.gap + k) (size_append a.name _ ∙ ap (λ k. size a.name + k) (size_append a.before _ ∙ ap (λ k. size a.before + k) (size_first 61 _ ∙ ap (λ k. length (encode_utf8 61) + k) (size_append a.after _ ∙ ap (λ k. size a.after + k) (size_first a.quote _ ∙ ap (λ k. length (encode_utf8 a.quote) + k) (size_append (flat_map spelled_part a.parts) (a.quote ∷ []) ∙ ap (λ k. size (flat_map spelled_part a.parts) + k) (size_first a.quote [])))))))

written_size : (a : Written) → is_written a ≡ true → 5 * attribute_size (attribute_of a) ≤ 7 * size (spelled_written a)
written_size a h =
    let f = written_facts a h in
    let v = (value_fits a.quote a.parts f.parts).small in
    let n : 1 ≤ size a.name = name_long a.name f.name in
    let g : 1 ≤ size a.gap = gap_long a.gap f.gap in
    let whole = written_whole a in
    omega (arith, whole, v, n, g, (byte_bounds a.quote).0, (byte_bounds 61).0)

attributes_size : (ws : List Written) → list_all is_written ws ≡ true → 5 * sum_by attribute_size (map attribute_of ws) ≤ 7 * size (flat_map spelled_written ws)
attributes_size [] h = omega arith
attributes_size (a ∷ ws) h =
    let w = and_parts (is_written a) (list_all is_written ws) h in
    omega (arith, sum_by-cons attribute_size (attribute_of a) (map attribute_of ws), written_size a w.0, attributes_size ws w.1, size_append (spelled_written a) (flat_map spelled_written ws))

written_parts : (a : Written) → list_all is_char (spelled_written a) ≡ true → list_all is_char a.name ≡ true
written_parts a h = (all_split a.name _ (all_split a.gap _ h).1).0

value_below : (a : Written) → list_all (is_within a.quote) a.parts ≡ true → size (flat_map meant_in_value a.parts) ≤ size (spelled_written a)
value_below a h = omega (arith, written_whole a, (value_fits a.quote a.parts h).small)

each_valid : (ws : List Written) → list_all is_written ws ≡ true → list_all is_char (flat_map spelled_written ws) ≡ true → size (flat_map spelled_written ws) < 2 ^ 32 → list_all is_valid_attribute (map attribute_of ws) ≡ true
each_valid [] h k short = refl
each_valid (a ∷ ws) h k short =
    let w = and_parts (is_written a) (list_all is_written ws) h in
    let f = written_facts a w.0 in
    let c = all_split (spelled_written a) (flat_map spelled_written ws) k in
    let sum = size_append (spelled_written a) (flat_map spelled_written ws) in
    let v = value_fits a.quote a.parts f.parts in
    let value = flat_map meant_in_value a.parts in
    let small : size value < 2 ^ 32 = omega (arith, value_below a f.parts, sum, short) in
    and_from (is_valid_attribute (attribute_of a)) (list_all is_valid_attribute (map attribute_of ws)) (and_from (is_node_name (encode_utf8_all a.name)) (are_chars (encode_utf8_all value) && ltb (size value) (2 ^ 32)) (encoded_name a.name (written_parts a c.0) f.name) (and_from (are_chars (encode_utf8_all value)) (ltb (size value) (2 ^ 32)) (encoded_chars value v.chars_are) (lt_test (size value) (2 ^ 32) small)))
    (each_valid ws w.1 c.1 (omega (arith, sum, short)))

-- ---- brackets of valid nodes

abbrev NoBegin : List Bracket → Type 0
NoBegin [] = Unit {0}
NoBegin (Begin k ∷ ps) = ⊥
NoBegin (End n ∷ ps) = Unit {0}

-- a text has no node in it
abbrev Leafy : Kind → List Bracket → Type 0
Leafy (Element name attributes) ps = Unit {0}
Leafy (Words text) ps = NoBegin ps

abbrev Fair : List Bracket → Type 0
Fair [] = Unit {0}
Fair (Begin k ∷ ps) = (is_valid_kind k ≡ true) × Leafy k ps × Fair ps
Fair (End n ∷ ps) = Fair ps

is_leaf : (k : Kind) (inner : Trees Kind) (ps : List Bracket) → Leafy k (bracketing inner ++ ps) → (is_element k || not (has_some inner)) ≡ true
is_leaf (Element name attributes) inner ps h = refl
is_leaf (Words text) none ps h = refl
is_leaf (Words text) (node k inner rest) ps h = absurd h

fair_trees : (ts : Trees Kind) (ps : List Bracket) → Fair (bracketing ts ++ ps) → (every is_valid_node ts ≡ true) × Fair ps
fair_trees none ps h = (refl, h)
fair_trees (node k inner rest) ps h =
    let behind = End (end_name k) ∷ (bracketing rest ++ ps) in
    let apart = append_assoc (bracketing inner) (End (end_name k) ∷ bracketing rest) ps in
    let i = fair_trees inner behind (subst Fair apart h.2) in
    let r = fair_trees rest ps i.1 in
    let leaf = is_leaf k inner behind (subst (Leafy k) apart h.1) in
    (and_from (is_valid_node k (has_some inner)) (every is_valid_node inner && every is_valid_node rest) (and_from (is_valid_kind k) (is_element k || not (has_some inner)) h.0 leaf) (and_from (every is_valid_node inner) (every is_valid_node rest) i.0 r.0), r.1)

-- ---- pieces

-- how many pieces the nodes take that begin here
abbrev weight : List Bracket → ℕ
weight [] = 0
weight (Begin k ∷ ps) = piece_count k + weight ps
weight (End n ∷ ps) = weight ps

weight_append : (ps qs : List Bracket) → weight (ps ++ qs) ≡ weight ps + weight qs
weight_append [] qs = omega arith
weight_append (Begin k ∷ ps) qs = omega (arith, weight_append ps qs)
weight_append (End n ∷ ps) qs = weight_append ps qs

pub weight_trees : (ts : Trees Kind) → weight (bracketing ts) ≡ pieces ts
weight_trees none = refl
weight_trees (node k inner rest) = omega (arith, weight_append (bracketing inner) (End (end_name k) ∷ bracketing rest), weight_trees inner, weight_trees rest)

-- ---- pieces

text_pieces : (n : ℕ) → 1 ≤ n → 2 * ((1 + n + 999) / 1000) ≤ n + 1
text_pieces n le = omega arith

element_pieces : (content s : ℕ) → 5 * content ≤ 20 + 7 * s → 3 ≤ s → 2 * ((content + 999) / 1000) + 1 ≤ s
element_pieces content s h k = omega (arith, h, k)

-- what brackets say can be stored, and takes few pieces
record Fits (ps : List Bracket) (bytes : ℕ) : Type 0 where
  pub fair : Fair ps
  pub few : 2 * weight ps ≤ bytes

text_valid : (run : List ℕ) → list_all is_char run ≡ true → list_all is_space run ≡ false → size run < 2 ^ 32 → is_valid_kind (Words (encode_utf8_all run)) ≡ true
unfolding is_valid_kind
text_valid run h ink short =
    and_from _ _ (and_from _ _ (encoded_chars run h) (ap not (ap (λ (x : List ℕ). list_all is_space x) (same_chars run h) ∙ ink))) (le_test ((1 + size run + 999) / 1000) (2 ^ 32) (omega (arith, short)))

filled : (run : List ℕ) → list_all is_space run ≡ false → 1 ≤ size run
filled [] e = absurd cc
filled (c ∷ cs) e = omega (arith, size_more c cs)

text_fits : (run : List ℕ) (ps : List Bracket) (n : ℕ) → list_all is_char run ≡ true → size run < 2 ^ 32 → Fits ps n → Fits (text_brackets run ++ ps) (size run + 1 + n)
text_fits run ps n h short f =
    elim (list_all is_space run) as (λ b. list_all is_space run ≡ b → Fits (cond b [] (Begin (Words (encode_utf8_all run)) ∷ End [] ∷ []) ++ ps) (size run + 1 + n)) [
      | true ↦ λ e. record { fair = f.fair; few = omega (arith, f.few) }
      | false ↦ λ e. record { fair = (text_valid run h e short, tt, f.fair); few = omega (arith, f.few, text_pieces (size run) (filled run e)) }
    ] refl

same_length : {X Y : Type 0} (f : X → Y) (xs : List X) → length (map f xs) ≡ length xs
same_length f [] = refl
same_length f (x ∷ xs) = ap suc (same_length f xs)

element_valid : (name : List ℕ) (ws : List Written) (s : ℕ) → is_short_name name ≡ true → list_all is_written ws ≡ true → differ (map attribute_of ws) ≡ true → list_all is_char name ≡ true → list_all is_char (flat_map spelled_written ws) ≡ true
    → 2 + size name + size (flat_map spelled_written ws) ≤ s → s < 2 ^ 32 → (is_valid_kind (Element (encode_utf8_all name) (map attribute_of ws)) ≡ true) × (2 * piece_count (Element (encode_utf8_all name) (map attribute_of ws)) + 1 ≤ s)
unfolding is_valid_kind
element_valid name ws s n each d hn hw le short =
    let sum = attributes_size ws each in
    let pieces_are : 2 * piece_count (Element (encode_utf8_all name) (map attribute_of ws)) + 1 ≤ s = element_pieces (1 + (2 + size name) + 4 + sum_by attribute_size (map attribute_of ws)) s (omega (arith, sum, le, short_long name n, name_long name n)) (omega (arith, le, name_long name n)) in
    let count : length (map attribute_of ws) < 2 ^ 32 = omega (arith, same_length attribute_of ws, attributes_len ws each, length-le-encodes (flat_map spelled_written ws), le, short) in
    let count_test : ltb (length (map attribute_of ws)) (2 ^ 32) ≡ true = lt_test (length (map attribute_of ws)) (2 ^ 32) count in
    let valid : list_all is_valid_attribute (map attribute_of ws) ≡ true = each_valid ws each hw (omega (arith, le, short)) in
    (and_from _ _ (and_from _ _ (encoded_name name hn n) (and_from _ _ valid (and_from _ _ d count_test))) (le_test (piece_count (Element (encode_utf8_all name) (map attribute_of ws))) (2 ^ 32) (omega (arith, pieces_are, short))), pieces_are)

-- ---- tokens

start_whole : (e : Bool) (name gap : List ℕ) (ws : List Written) → size (spelled (Start e name ws gap)) ≡ length (encode_utf8 60) + (size name + (size (flat_map spelled_written ws) + (size gap + size (ending e))))
start_whole e name gap ws =
    size_first 60 _ ∙ ap (λ k. length (encode_utf8 60) + k) (size_append name _ ∙ ap (λ k. size name + k) (size_append (flat_map spelled_written ws) _ ∙ ap (λ k. size (flat_map spelled_written ws) + k) (size_append gap (ending e))))

ending_long : (e : Bool) → 1 ≤ size (ending e)
ending_long true = omega (arith, size_more 47 (62 ∷ []))
ending_long false = omega (arith, size_more 62 [])

wider : (ps : List Bracket) (n m : ℕ) → n ≤ m → Fits ps n → Fits ps m
wider ps n m le f = record { fair = f.fair; few = omega (arith, f.few, le) }

-- a start tag, and what comes after it
start_fits : (e : Bool) (name gap : List ℕ) (ws : List Written) (ps : List Bracket) (n : ℕ) → is_token (Start e name ws gap) ≡ true → list_all is_char (spelled (Start e name ws gap)) ≡ true → size (spelled (Start e name ws gap)) < 2 ^ 32
    → Fits ps (n + 1) → Fits (start_brackets e name ws ++ ps) (size (spelled (Start e name ws gap)) + n)
start_fits e name gap ws ps n is chars_are short f =
    let a = and_parts (is_short_name name) _ is in
    let b = and_parts (list_all is_written ws) _ a.1 in
    let d = and_parts (differ (map attribute_of ws)) (list_all is_space gap) b.1 in
    let hn = all_split name _ chars_are in
    let hw = all_split (flat_map spelled_written ws) _ hn.1 in
    let s = size (spelled (Start e name ws gap)) in
    let v = element_valid name ws s a.0 b.0 d.0 hn.0 hw.0 (omega (arith, start_whole e name gap ws, (byte_bounds 60).0, ending_long e)) short in
    opened e (encode_utf8_all name) (map attribute_of ws) s n ps v.0 v.1 f
  where
    opened : (e : Bool) (name : List ℕ) (attributes : List Attribute) (s n : ℕ) (ps : List Bracket) → is_valid_kind (Element name attributes) ≡ true → 2 * piece_count (Element name attributes) + 1 ≤ s → Fits ps (n + 1) → Fits ((Begin (Element name attributes) ∷ cond e (End name ∷ []) []) ++ ps) (s + n)
    opened true name attributes s n ps v le f = record { fair = (v, tt, f.fair); few = omega (arith, f.few, le) }
    opened false name attributes s n ps v le f = record { fair = (v, tt, f.fair); few = omega (arith, f.few, le) }

section_size : (cs : List ℕ) → size cs ≤ size (spelled (Section cs))
section_size cs =
    let r = cs ++ 93 ∷ 93 ∷ 62 ∷ [] in
    omega (arith, size_append cs (93 ∷ 93 ∷ 62 ∷ []), size_more 91 r, size_more 65 (91 ∷ r), size_more 84 (65 ∷ 91 ∷ r), size_more 65 (84 ∷ 65 ∷ 91 ∷ r), size_more 68 (65 ∷ 84 ∷ 65 ∷ 91 ∷ r), size_more 67 (68 ∷ 65 ∷ 84 ∷ 65 ∷ 91 ∷ r), size_more 91 (67 ∷ 68 ∷ 65 ∷ 84 ∷ 65 ∷ 91 ∷ r), size_more 33 (91 ∷ 67 ∷ 68 ∷ 65 ∷ 84 ∷ 65 ∷ 91 ∷ r), size_more 60 (33 ∷ 91 ∷ 67 ∷ 68 ∷ 65 ∷ 84 ∷ 65 ∷ 91 ∷ r))

section_chars : (cs : List ℕ) → is_token (Section cs) ≡ true → list_all is_char cs ≡ true
section_chars cs h = (and_parts (list_all is_char cs) _ h).0

abbrev rest_of : List Token → List ℕ
rest_of ts = flat_map spelled ts

tokens_fit : (ts : List Token) (run : List ℕ) → list_all is_token ts ≡ true → list_all is_char (rest_of ts) ≡ true → list_all is_char run ≡ true → size run + size (rest_of ts) < 2 ^ 32 → Fits (brackets run ts) (size run + 1 + size (rest_of ts))
tokens_fit [] run each all h short = subst (λ (ps : List Bracket). Fits ps (size run + 1 + 0)) (append-nil (text_brackets run)) (text_fits run [] 0 h (omega (arith, short)) (record { fair = tt; few = omega arith }))
tokens_fit (Data p ∷ ts) run each all h short =
    let w = and_parts (is_part p) (list_all is_token ts) each in
    let a = all_split (spelled_part p) (rest_of ts) all in
    let f = part_fits p w.0 in
    let sizes = size_append (spelled_part p) (rest_of ts) in
    let more = size_append run (meant p) in
    wider (brackets (run ++ meant p) ts) (size (run ++ meant p) + 1 + size (rest_of ts)) _ (omega (arith, f.small, sizes, more)) (tokens_fit ts (run ++ meant p) w.1 a.1 (all_joined run (meant p) h f.chars_are) (omega (arith, f.small, sizes, more, short)))
tokens_fit (Section cs ∷ ts) run each all h short =
    let w = and_parts (is_token (Section cs)) (list_all is_token ts) each in
    let a = all_split (spelled (Section cs)) (rest_of ts) all in
    let sizes = size_append (spelled (Section cs)) (rest_of ts) in
    let more = size_append run cs in
    wider (brackets (run ++ cs) ts) (size (run ++ cs) + 1 + size (rest_of ts)) _ (omega (arith, section_size cs, sizes, more)) (tokens_fit ts (run ++ cs) w.1 a.1 (all_joined run cs h (section_chars cs w.0)) (omega (arith, section_size cs, sizes, more, short)))
tokens_fit (Comment cs ∷ ts) run each all h short =
    let w = and_parts (is_token (Comment cs)) (list_all is_token ts) each in
    let a = all_split (spelled (Comment cs)) (rest_of ts) all in
    let sizes = size_append (spelled (Comment cs)) (rest_of ts) in
    wider (brackets run ts) (size run + 1 + size (rest_of ts)) _ (omega (arith, sizes)) (tokens_fit ts run w.1 a.1 h (omega (arith, sizes, short)))
tokens_fit (Instruction name cs ∷ ts) run each all h short =
    let w = and_parts (is_token (Instruction name cs)) (list_all is_token ts) each in
    let a = all_split (spelled (Instruction name cs)) (rest_of ts) all in
    let sizes = size_append (spelled (Instruction name cs)) (rest_of ts) in
    wider (brackets run ts) (size run + 1 + size (rest_of ts)) _ (omega (arith, sizes)) (tokens_fit ts run w.1 a.1 h (omega (arith, sizes, short)))
tokens_fit (Doctype gap name ext after ∷ ts) run each all h short =
    let w = and_parts (is_token (Doctype gap name ext after)) (list_all is_token ts) each in
    let a = all_split (spelled (Doctype gap name ext after)) (rest_of ts) all in
    let sizes = size_append (spelled (Doctype gap name ext after)) (rest_of ts) in
    wider (brackets run ts) (size run + 1 + size (rest_of ts)) _ (omega (arith, sizes)) (tokens_fit ts run w.1 a.1 h (omega (arith, sizes, short)))
tokens_fit (Start e name ws gap ∷ ts) run each all h short =
    let w = and_parts (is_token (Start e name ws gap)) (list_all is_token ts) each in
    let a = all_split (spelled (Start e name ws gap)) (rest_of ts) all in
    let sizes = size_append (spelled (Start e name ws gap)) (rest_of ts) in
    let inner = wider (brackets [] ts) (0 + 1 + size (rest_of ts)) (size (rest_of ts) + 1) (omega arith) (tokens_fit ts [] w.1 a.1 refl (omega (arith, sizes, short))) in
    wider (text_brackets run ++ (start_brackets e name ws ++ brackets [] ts)) (size run + 1 + (size (spelled (Start e name ws gap)) + size (rest_of ts))) _ (omega (arith, sizes))
    (text_fits run (start_brackets e name ws ++ brackets [] ts) (size (spelled (Start e name ws gap)) + size (rest_of ts)) h (omega (arith, short)) (start_fits e name gap ws (brackets [] ts) (size (rest_of ts)) w.0 a.0 (omega (arith, sizes, short)) inner))
tokens_fit (Close name gap ∷ ts) run each all h short =
    let w = and_parts (is_token (Close name gap)) (list_all is_token ts) each in
    let a = all_split (spelled (Close name gap)) (rest_of ts) all in
    let sizes = size_append (spelled (Close name gap)) (rest_of ts) in
    let one_byte = size_more 60 (47 ∷ (name ++ (gap ++ 62 ∷ []))) in
    let inner = tokens_fit ts [] w.1 a.1 refl (omega (arith, sizes, short)) in
    wider (text_brackets run ++ (End (encode_utf8_all name) ∷ brackets [] ts)) (size run + 1 + (0 + 1 + size (rest_of ts))) _ (omega (arith, sizes, one_byte))
    (text_fits run (End (encode_utf8_all name) ∷ brackets [] ts) (0 + 1 + size (rest_of ts)) h (omega (arith, short)) (record { fair = inner.fair; few = inner.few }))

-- ---- the two forms take few pieces

blank_first : (run : List ℕ) (ps : List Bracket) → list_all is_space run ≡ true → ps ≡ text_brackets run ++ ps
blank_first run ps h = ap (λ b. cond b [] (Begin (Words (encode_utf8_all run)) ∷ End [] ∷ []) ++ ps) (sym h)

-- before the element there are no texts
prolog_few : (ts : List Token) (run : List ℕ) (before : Bool) → list_all is_token ts ≡ true → list_all is_char (rest_of ts) ≡ true → list_all is_space run ≡ true → outside before 0 ts ≡ true → size (rest_of ts) < 2 ^ 32 → 2 * weight (brackets run ts) ≤ size (rest_of ts)
prolog_few [] run before each all h out short = subst (λ (ps : List Bracket). 2 * weight ps ≤ 0) (blank_first run [] h ∙ append-nil (text_brackets run)) (omega arith)
prolog_few (Data (Literal c) ∷ ts) run before each all h out short =
    let w = and_parts (is_literal c) (list_all is_token ts) each in
    let a = all_split (c ∷ []) (rest_of ts) all in
    let o = and_parts (is_space c) (outside before 0 ts) out in
    let sizes = size_append (c ∷ []) (rest_of ts) in
    let blank : list_all is_space (run ++ c ∷ []) ≡ true = list_all-append is_space run (c ∷ []) ∙ and_from _ _ h (and_from (is_space c) true o.0 refl) in
    omega (arith, sizes, prolog_few ts (run ++ c ∷ []) before w.1 a.1 blank o.1 (omega (arith, sizes, short)))
prolog_few (Data (Reference body) ∷ ts) run before each all h out short = absurd cc
prolog_few (Section cs ∷ ts) run before each all h out short = absurd cc
prolog_few (Comment cs ∷ ts) run before each all h out short =
    let w = and_parts (is_token (Comment cs)) (list_all is_token ts) each in
    let a = all_split (spelled (Comment cs)) (rest_of ts) all in
    let sizes = size_append (spelled (Comment cs)) (rest_of ts) in
    omega (arith, sizes, prolog_few ts run before w.1 a.1 h out (omega (arith, sizes, short)))
prolog_few (Instruction name cs ∷ ts) run before each all h out short =
    let w = and_parts (is_token (Instruction name cs)) (list_all is_token ts) each in
    let a = all_split (spelled (Instruction name cs)) (rest_of ts) all in
    let sizes = size_append (spelled (Instruction name cs)) (rest_of ts) in
    omega (arith, sizes, prolog_few ts run before w.1 a.1 h out (omega (arith, sizes, short)))
prolog_few (Doctype gap name ext after ∷ ts) run before each all h out short =
    let w = and_parts (is_token (Doctype gap name ext after)) (list_all is_token ts) each in
    let a = all_split (spelled (Doctype gap name ext after)) (rest_of ts) all in
    let sizes = size_append (spelled (Doctype gap name ext after)) (rest_of ts) in
    omega (arith, sizes, prolog_few ts run false w.1 a.1 h (and_parts before (outside false 0 ts) out).1 (omega (arith, sizes, short)))
prolog_few (Start e name ws gap ∷ ts) run before each all h out short =
    let w = and_parts (is_token (Start e name ws gap)) (list_all is_token ts) each in
    let a = all_split (spelled (Start e name ws gap)) (rest_of ts) all in
    let sizes = size_append (spelled (Start e name ws gap)) (rest_of ts) in
    let inner = wider (brackets [] ts) (0 + 1 + size (rest_of ts)) (size (rest_of ts) + 1) (omega arith) (tokens_fit ts [] w.1 a.1 refl (omega (arith, sizes, short))) in
    let f = start_fits e name gap ws (brackets [] ts) (size (rest_of ts)) w.0 a.0 (omega (arith, sizes, short)) inner in
    subst (λ (ps : List Bracket). 2 * weight ps ≤ size (rest_of (Start e name ws gap ∷ ts))) (blank_first run (start_brackets e name ws ++ brackets [] ts) h) (omega (arith, sizes, f.few))
prolog_few (Close name gap ∷ ts) run before each all h out short =
    let w = and_parts (is_token (Close name gap)) (list_all is_token ts) each in
    let a = all_split (spelled (Close name gap)) (rest_of ts) all in
    let sizes = size_append (spelled (Close name gap)) (rest_of ts) in
    let one_byte = size_more 60 (47 ∷ (name ++ (gap ++ 62 ∷ []))) in
    let inner = tokens_fit ts [] w.1 a.1 refl (omega (arith, sizes, short)) in
    subst (λ (ps : List Bracket). 2 * weight ps ≤ size (rest_of (Close name gap ∷ ts))) (blank_first run (End (encode_utf8_all name) ∷ brackets [] ts) h) (omega (arith, sizes, one_byte, inner.few))

text_few : (run : List ℕ) → 1000 * weight (text_brackets run) ≤ size run + 1000
text_few run = elim (list_all is_space run) as (λ b. 1000 * weight (cond b [] (Begin (Words (encode_utf8_all run)) ∷ End [] ∷ [])) ≤ size run + 1000) [ true ↦ omega arith | false ↦ omega arith ]

textual_few : (ts : List Token) (run : List ℕ) → list_all is_token ts ≡ true → list_all is_textual ts ≡ true → 1000 * weight (brackets run ts) ≤ size run + size (rest_of ts) + 1000
textual_few [] run each form = omega (arith, text_few run)
textual_few (Data p ∷ ts) run each form =
    let w = and_parts (is_part p) (list_all is_token ts) each in
    omega (arith, textual_few ts (run ++ meant p) w.1 form, (part_fits p w.0).small, size_append run (meant p), size_append (spelled_part p) (rest_of ts))
textual_few (Section cs ∷ ts) run each form =
    let w = and_parts (is_token (Section cs)) (list_all is_token ts) each in
    omega (arith, textual_few ts (run ++ cs) w.1 form, section_size cs, size_append run cs, size_append (spelled (Section cs)) (rest_of ts))
textual_few (Comment cs ∷ ts) run each form = let w = and_parts (is_token (Comment cs)) (list_all is_token ts) each in omega (arith, textual_few ts run w.1 form, size_append (spelled (Comment cs)) (rest_of ts))
textual_few (Instruction name cs ∷ ts) run each form = let w = and_parts (is_token (Instruction name cs)) (list_all is_token ts) each in omega (arith, textual_few ts run w.1 form, size_append (spelled (Instruction name cs)) (rest_of ts))
textual_few (Start e name ws gap ∷ ts) run each form = absurd cc
textual_few (Close name gap ∷ ts) run each form = absurd cc
textual_few (Doctype gap name ext after ∷ ts) run each form = absurd cc

-- ---- the bytes

all_normal : (after : Bool) (cs : List ℕ) → list_all is_char cs ≡ true → list_all is_char (normal after cs) ≡ true
all_normal after [] h = refl
all_normal after (c ∷ cs) h =
    let w = and_parts (is_char c) (list_all is_char cs) h in
    elim (eqb c 13) as (λ b. list_all is_char (cond b (10 ∷ normal true cs) (cond (after && eqb c 10) (normal false cs) (c ∷ normal false cs))) ≡ true) [
      | true ↦ all_normal true cs w.1
      | false ↦ elim (after && eqb c 10) as (λ b. list_all is_char (cond b (normal false cs) (c ∷ normal false cs)) ≡ true) [ true ↦ all_normal false cs w.1 | false ↦ and_from (is_char c) _ w.0 (all_normal false cs w.1) ]
    ]

normal_size : (after : Bool) (cs : List ℕ) → size (normal after cs) ≤ size cs
normal_size after [] = omega arith
normal_size after (c ∷ cs) =
    elim (eqb c 13) as (λ b. size (cond b (10 ∷ normal true cs) (cond (after && eqb c 10) (normal false cs) (c ∷ normal false cs))) ≤ size (c ∷ cs)) [
      | true ↦ omega (arith, normal_size true cs, size_first 10 (normal true cs), length-encode 10, size_more c cs)
      | false ↦ elim (after && eqb c 10) as (λ b. size (cond b (normal false cs) (c ∷ normal false cs)) ≤ size (c ∷ cs)) [ true ↦ omega (arith, normal_size false cs, size_more c cs) | false ↦ omega (arith, normal_size false cs, size_first c (normal false cs), size_first c cs) ]
    ]

all_unmarked : (cs : List ℕ) → list_all is_char cs ≡ true → list_all is_char (without_mark cs) ≡ true
all_unmarked [] h = refl
all_unmarked (c ∷ cs) h = let w = and_parts (is_char c) (list_all is_char cs) h in elim (eqb c 65279) as (λ b. list_all is_char (cond b cs (c ∷ cs)) ≡ true) [ true ↦ w.1 | false ↦ h ]

unmarked_size : (cs : List ℕ) → size (without_mark cs) ≤ size cs
unmarked_size [] = omega arith
unmarked_size (c ∷ cs) = elim (eqb c 65279) as (λ b. size (cond b cs (c ∷ cs)) ≤ size (c ∷ cs)) [ true ↦ omega (arith, size_more c cs) | false ↦ omega arith ]

encoded_back : (bytes : List ℕ) → is_utf8 bytes ≡ true → size (chars bytes) ≡ length bytes
encoded_back bytes h = ap length (encodes-chars bytes (IsUtf8-from_is_utf8 bytes h))

few_in : (t : Tree Kind) (ts : List Token) → list_all is_token ts ≡ true → list_all is_char (rest_of ts) ≡ true → (outside true 0 ts || list_all is_textual ts) ≡ true → size (rest_of ts) < 2 ^ 32 → weight (brackets [] ts) < 2 ^ 31
few_in t ts each all form short = elim (or_cases (outside true 0 ts) (list_all is_textual ts) form) [
  | inl h ↦ omega (arith, prolog_few ts [] true each all refl h short, short)
  | inr h ↦ omega (arith, textual_few ts [] each h, short)
]

form_either : (first : Option Declaration) (ts : List Token) → has_form first ts ≡ true → (outside true 0 ts || list_all is_textual ts) ≡ true
form_either None ts h = h
form_either (Some d) ts h = elim (or_cases (is_document (Some d) ts) false h) as (λ x. (outside true 0 ts || list_all is_textual ts) ≡ true) [
  | inl k ↦ rw (and_parts (is_declaration d) (outside true 0 ts) k).1 refl
  | inr k ↦ absurd cc
]

pub valid_tree : (bytes : List ℕ) (t : Tree Kind) → length bytes < 2 ^ 32 → Spells bytes t → IsTrue (is_valid_tree t)
valid_tree bytes t short s =
    let head = spelled_first s.0 in
    let ts = s.1 in
    let by = s.2.by in
    let e = and_parts (is_utf8 bytes) (list_all is_char (chars bytes)) s.2.encoded in
    let whole : list_all is_char (head ++ rest_of ts) ≡ true = ap (λ (x : List ℕ). list_all is_char x) (sym by.spelled_so) ∙ all_normal false (without_mark (chars bytes)) (all_unmarked (chars bytes) e.1) in
    let all : list_all is_char (rest_of ts) ≡ true = (all_split head (rest_of ts) whole).1 in
    let total : size (rest_of ts) < 2 ^ 32 = omega (arith, ap (λ (x : List ℕ). size x) by.spelled_so, size_append head (rest_of ts), normal_size false (without_mark (chars bytes)), unmarked_size (chars bytes), encoded_back bytes e.0, short) in
    let fits = tokens_fit ts [] by.each all refl (omega (arith, total)) in
    let nodes = fair_trees (one t) [] (subst Fair (by.tree_is ∙ sym (append-nil (bracketing (one t)))) fits.fair) in
    let pieces_are : weight (brackets [] ts) ≡ pieces (one t) = ap weight by.tree_is ∙ weight_trees (one t) in
    let few : pieces (one t) < 2 ^ 31 = omega (arith, pieces_are, few_in t ts by.each all (form_either s.0 ts by.form) total) in
    and_from (every is_valid_node (one t)) (ltb (pieces (one t)) (2 ^ 31)) nodes.0 (lt_test (pieces (one t)) (2 ^ 31) few)

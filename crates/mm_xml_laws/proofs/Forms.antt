-- The two forms of a payload: a document, and a text.
use Rattle.std.proofs.Common.{◌≡◌, ℕ, zero, suc, ◌+◌, ◌-◌, Bool, true, false, cond, List, [], ◌∷◌, ◌++◌, Option, Some, None, eqb, refl, sym, ap, subst, ◌∙◌, arith, ◌⊎◌, inl, inr, append-nil}
use Rattle.std.specs.Prelude.{IsTrue}
use Rattle.std.specs.List.{flat_map, list_all}
use Rattle.std.specs.Str.{chars, encode_utf8_all}
use Rattle.std.proofs.lemmas.Bool.{eqb-true, and_parts, and_from, or_cases, or_left, or_right}
use Rattle.std.proofs.lemmas.List.Folds.{list_all-append}
use Rattle.mm_tree.specs.declared.Kind.{Kind}
use Rattle.mm_tree.specs.declared.Kind.TheVariants.{Words}
use Rattle.mm_tree.specs.Characters.{is_space}
use Rattle.mm_tree.specs.Trees.{none, Tree, one}
use Rattle.mm_tree.specs.Validity.{are_chars}
use Rattle.mm_xml.specs.Syntax.{Literal, Reference, Token, Data, Section, Comment, Instruction, Start, Close, Doctype, spelled, Declaration, is_declaration, spelled_declaration, spelled_setting, spelled_if, version_word, encoding_word, standalone_word, declaration_end}
use Rattle.mm_xml.specs.Grammar.{Bracket, Begin, End, text_brackets, brackets, bracketing, outside, is_inside, is_textual, is_document, is_text, spelled_first, normal, without_mark, characters, SpelledBy, SpellsBy, Spells}
use Rattle.mm_xml.specs.Productions.{is_plain, with_line_feeds, SpellsRun, is_end, fewer, closes, SpellsElement, is_misc, SpellsMisc, is_prolog, SpellsProlog, is_first, is_marked, SpellsDocument, SpellsText}
use Rattle.mm_xml_laws.proofs.Joins.{together, normal_append, no_return, last_append, last_or, join_behind, join_markup, closed, plain_same, plain_lines, plain_encoded, spelled_append}
use Rattle.mm_xml_laws.proofs.Elements.{closes_append, run_brackets}

-- ---- the forms apart

pub two_forms : (bytes : List ℕ) (t : Tree Kind) → Spells bytes t → SpellsDocument bytes t ⊎ SpellsText bytes t
two_forms bytes t s = elim (or_cases (is_document s.0 s.1) (is_text s.0 s.1) s.2.by.form) [
  | inl h ↦ inl (s.0, s.1, s.2, h)
  | inr h ↦ inr (s.0, s.1, s.2, h)
]

pub document_outside : (first : Option Declaration) (ts : List Token) → is_document first ts ≡ true → outside true 0 ts ≡ true
document_outside None ts h = h
document_outside (Some d) ts h = (and_parts (is_declaration d) (outside true 0 ts) h).1

pub text_textual : (first : Option Declaration) (ts : List Token) → is_text first ts ≡ true → list_all is_textual ts ≡ true
text_textual None ts h = h
text_textual (Some d) ts h = absurd cc

pub blank_more : (run : List ℕ) (c : ℕ) → list_all is_space run ≡ true → is_space c ≡ true → list_all is_space (run ++ c ∷ []) ≡ true
blank_more run c h k = list_all-append is_space run (c ∷ []) ∙ and_from _ _ h (and_from (is_space c) true k refl)

pub blank_text : (run : List ℕ) → list_all is_space run ≡ true → text_brackets run ≡ []
blank_text run h = ap (λ b. cond b [] (Begin (Words (encode_utf8_all run)) ∷ End [] ∷ [])) h

-- no text stands outside an element, unless it is blank
blank_outside : (ts : List Token) (run : List ℕ) (before : Bool) → list_all is_space run ≡ true → outside before 0 ts ≡ true → list_all is_textual ts ≡ true → brackets run ts ≡ []
blank_outside [] run before blank o t = blank_text run blank
blank_outside (Data (Literal c) ∷ ts) run before blank o t = let w = and_parts (is_space c) (outside before 0 ts) o in blank_outside ts (run ++ c ∷ []) before (blank_more run c blank w.0) w.1 t
blank_outside (Data (Reference body) ∷ ts) run before blank o t = absurd cc
blank_outside (Section cs ∷ ts) run before blank o t = absurd cc
blank_outside (Comment cs ∷ ts) run before blank o t = blank_outside ts run before blank o t
blank_outside (Instruction name cs ∷ ts) run before blank o t = blank_outside ts run before blank o t
blank_outside (Start empty name ws gap ∷ ts) run before blank o t = absurd cc
blank_outside (Close name gap ∷ ts) run before blank o t = absurd cc
blank_outside (Doctype gap name ext after ∷ ts) run before blank o t = absurd cc

pub nothing_there : (kind : Kind) (ps : List Bracket) → [] ≡ Begin kind ∷ ps → ⊥
nothing_there kind ps e = cc

-- bytes spell what they spell by one list of tokens
abbrev pub OneSpelling : Type 0
OneSpelling = (bytes : List ℕ) (t u : Tree Kind) (first other : Option Declaration) (tokens others : List Token) → SpellsBy bytes t first tokens → SpellsBy bytes u other others → tokens ≡ others

pub one_form : OneSpelling → (bytes : List ℕ) (t u : Tree Kind) → SpellsDocument bytes t → ¬ SpellsText bytes u
one_form one_spelling bytes t u a b =
    let equal = one_spelling bytes t u a.0 b.0 a.1 b.1 a.2 b.2 in
    let textual : list_all is_textual a.1 ≡ true = ap (λ (x : List Token). list_all is_textual x) equal ∙ text_textual b.0 b.1 b.3 in
    nothing_there t.0 _ (sym (blank_outside a.1 [] true refl (document_outside a.0 a.1 a.3) textual) ∙ a.2.by.tree_is)

-- ---- marks

-- no mark is dropped where the first character is none
unmarked : (cs : List ℕ) → is_marked cs ≡ false → without_mark cs ≡ cs
unmarked [] h = refl
unmarked (c ∷ cs) h = ap (λ b. cond b cs (c ∷ cs)) h

-- turned line ends begin with a mark where the characters do
marked_lines : (cs : List ℕ) → is_marked (normal false cs) ≡ false → is_marked cs ≡ false
marked_lines [] h = refl
marked_lines (c ∷ cs) h = elim (eqb c 65279) as (λ b. eqb c 65279 ≡ b → b ≡ false) [
  | true ↦ λ e. let k : is_marked (normal false (65279 ∷ cs)) ≡ false = ap (λ n. is_marked (normal false (n ∷ cs))) (sym (eqb-true c 65279 e)) ∙ h in absurd cc
  | false ↦ λ e. refl
] refl

pub unmarked_characters : (bytes cs : List ℕ) → with_line_feeds bytes ≡ cs → is_marked cs ≡ false → characters bytes ≡ cs
unmarked_characters bytes cs e h = ap (λ (x : List ℕ). normal false x) (unmarked (chars bytes) (marked_lines (chars bytes) (ap is_marked e ∙ h))) ∙ e

-- one byte order mark may stand first
pub marked : (bytes : List ℕ) (t : Tree Kind) → is_marked (chars bytes) ≡ false → Spells bytes t → Spells (encode_utf8_all (65279 ∷ []) ++ bytes) t
marked bytes t h s =
    let mark = encode_utf8_all (65279 ∷ []) in
    let both_parts = together mark bytes (plain_encoded (65279 ∷ []) refl) s.2.encoded in
    let same : characters (mark ++ bytes) ≡ characters bytes =
    ap (λ (x : List ℕ). normal false (without_mark x)) (both_parts.chars_are ∙ ap (λ (x : List ℕ). x ++ chars bytes) (plain_same (65279 ∷ []) refl)) ∙ ap (λ (x : List ℕ). normal false x) (sym (unmarked (chars bytes) h)) in
    (s.0, s.1, record { encoded = both_parts.encoded; by = subst (λ (x : List ℕ). SpelledBy x t s.0 s.1) (sym same) s.2.by })

-- ---- the text form

pub text_form : (bytes text : List ℕ) → SpellsRun bytes text → list_all is_space text ≡ false → is_marked (chars bytes) ≡ false → SpellsText bytes (Words (encode_utf8_all text), none)
text_form bytes text s ink plain = (
  None,
  s.0,
  record {
    encoded = s.1.encoded;
    by = record {
      each = s.1.each;
      spelled_so = ap (λ (x : List ℕ). normal false x) (unmarked (chars bytes) plain) ∙ s.1.spelled_so;
      whole = s.1.whole;
      form = or_right (outside true 0 s.0) (list_all is_textual s.0) s.2;
      tree_is = ap (λ (x : List Token). brackets [] x) (sym (none_more s.0)) ∙ run_brackets s.0 [] [] s.2 ∙ ap (λ (r : List ℕ). text_brackets r) s.3 ∙ ap (λ b. cond b [] (Begin (Words (encode_utf8_all text)) ∷ End [] ∷ [])) ink;
    };
  },
  s.2,
)
  where
    none_more : (xs : List Token) → xs ++ [] ≡ xs
    none_more [] = refl
    none_more (x ∷ xs) = ap (λ (ys : List Token). x ∷ ys) (none_more xs)

-- ---- what stands round the element

misc_outside : (ms : List Token) (before : Bool) (depth : ℕ) → list_all is_misc ms ≡ true → outside before depth ms ≡ true
misc_outside [] before depth h = refl
misc_outside (Data (Literal c) ∷ ms) before depth h = let w = and_parts (is_space c) (list_all is_misc ms) h in and_from _ _ (or_right (is_inside depth) (is_space c) w.0) (misc_outside ms before depth w.1)
misc_outside (Data (Reference body) ∷ ms) before depth h = absurd cc
misc_outside (Section cs ∷ ms) before depth h = absurd cc
misc_outside (Comment cs ∷ ms) before depth h = misc_outside ms before depth h
misc_outside (Instruction name cs ∷ ms) before depth h = misc_outside ms before depth h
misc_outside (Start empty name ws gap ∷ ms) before depth h = absurd cc
misc_outside (Close name gap ∷ ms) before depth h = absurd cc
misc_outside (Doctype gap name ext after ∷ ms) before depth h = absurd cc

misc_brackets : (ms : List Token) (run : List ℕ) → list_all is_misc ms ≡ true → list_all is_space run ≡ true → brackets run ms ≡ []
misc_brackets [] run h blank = blank_text run blank
misc_brackets (Data (Literal c) ∷ ms) run h blank = let w = and_parts (is_space c) (list_all is_misc ms) h in misc_brackets ms (run ++ c ∷ []) w.1 (blank_more run c blank w.0)
misc_brackets (Data (Reference body) ∷ ms) run h blank = absurd cc
misc_brackets (Section cs ∷ ms) run h blank = absurd cc
misc_brackets (Comment cs ∷ ms) run h blank = misc_brackets ms run h blank
misc_brackets (Instruction name cs ∷ ms) run h blank = misc_brackets ms run h blank
misc_brackets (Start empty name ws gap ∷ ms) run h blank = absurd cc
misc_brackets (Close name gap ∷ ms) run h blank = absurd cc
misc_brackets (Doctype gap name ext after ∷ ms) run h blank = absurd cc

fewer_is : (depth : ℕ) → fewer depth ≡ depth - 1
fewer_is zero = omega arith
fewer_is (suc depth) = omega arith

end_outside : (xs ms : List Token) (depth : ℕ) → list_all is_misc ms ≡ true → is_end xs ≡ true → outside false depth (xs ++ ms) ≡ true
end_outside [] ms depth h k = misc_outside ms false depth h
end_outside (x ∷ xs) ms depth h k = absurd cc

closes_outside : (xs : List Token) (depth : ℕ) (before : Bool) (ms : List Token) → closes depth xs ≡ true → list_all is_misc ms ≡ true → outside before depth (xs ++ ms) ≡ true
closes_outside [] depth before ms h m = absurd cc
closes_outside (Data (Literal c) ∷ xs) depth before ms h m = let w = and_parts (is_inside depth) _ h in and_from _ _ (or_left (is_inside depth) (is_space c) w.0) (closes_outside xs depth before ms w.1 m)
closes_outside (Data (Reference body) ∷ xs) depth before ms h m = let w = and_parts (is_inside depth) _ h in and_from _ _ w.0 (closes_outside xs depth before ms w.1 m)
closes_outside (Section cs ∷ xs) depth before ms h m = let w = and_parts (is_inside depth) _ h in and_from _ _ w.0 (closes_outside xs depth before ms w.1 m)
closes_outside (Comment cs ∷ xs) depth before ms h m = closes_outside xs depth before ms (and_parts (is_inside depth) _ h).1 m
closes_outside (Instruction name cs ∷ xs) depth before ms h m = closes_outside xs depth before ms (and_parts (is_inside depth) _ h).1 m
closes_outside (Start false name ws gap ∷ xs) depth before ms h m = ap (λ n. outside false n (xs ++ ms)) (one_more depth) ∙ closes_outside xs (suc depth) false ms h m
  where
    one_more : (n : ℕ) → n + 1 ≡ suc n
    one_more n = omega arith
closes_outside (Start true name ws gap ∷ xs) depth before ms h m =
    elim (is_inside depth) as (λ b. cond b (closes depth xs) (is_end xs) ≡ true → outside false depth (xs ++ ms) ≡ true) [ true ↦ λ k. closes_outside xs depth false ms k m | false ↦ λ k. end_outside xs ms depth m k ] h
closes_outside (Close name gap ∷ xs) depth before ms h m =
    ap (λ n. outside false n (xs ++ ms)) (sym (fewer_is depth))
    ∙ elim (is_inside (fewer depth)) as (λ b. cond b (closes (fewer depth) xs) (is_end xs) ≡ true → outside false (fewer depth) (xs ++ ms) ≡ true) [ true ↦ λ k. closes_outside xs (fewer depth) false ms k m | false ↦ λ k. end_outside xs ms (fewer depth) m k ] (and_parts (is_inside depth) _ h).1
closes_outside (Doctype gap name ext after ∷ xs) depth before ms h m = absurd cc

prolog_outside : (ps : List Token) (before : Bool) (zs : List Token) → is_prolog before ps ≡ true → ((b : Bool) → outside b 0 zs ≡ true) → outside before 0 (ps ++ zs) ≡ true
prolog_outside [] before zs h z = z before
prolog_outside (Data (Literal c) ∷ ps) before zs h z = let w = and_parts (is_space c) (is_prolog before ps) h in and_from _ _ w.0 (prolog_outside ps before zs w.1 z)
prolog_outside (Data (Reference body) ∷ ps) before zs h z = absurd cc
prolog_outside (Section cs ∷ ps) before zs h z = absurd cc
prolog_outside (Comment cs ∷ ps) before zs h z = prolog_outside ps before zs h z
prolog_outside (Instruction name cs ∷ ps) before zs h z = prolog_outside ps before zs h z
prolog_outside (Start empty name ws gap ∷ ps) before zs h z = absurd cc
prolog_outside (Close name gap ∷ ps) before zs h z = absurd cc
prolog_outside (Doctype gap name ext after ∷ ps) before zs h z = let w = and_parts before (is_prolog false ps) h in and_from _ _ w.0 (prolog_outside ps false zs w.1 z)

prolog_brackets : (ps : List Token) (before : Bool) (run : List ℕ) (zs : List Token) → is_prolog before ps ≡ true → list_all is_space run ≡ true → ((run : List ℕ) → list_all is_space run ≡ true → brackets run zs ≡ brackets [] zs) → brackets run (ps ++ zs) ≡ brackets [] zs
prolog_brackets [] before run zs h blank z = z run blank
prolog_brackets (Data (Literal c) ∷ ps) before run zs h blank z = let w = and_parts (is_space c) (is_prolog before ps) h in prolog_brackets ps before (run ++ c ∷ []) zs w.1 (blank_more run c blank w.0) z
prolog_brackets (Data (Reference body) ∷ ps) before run zs h blank z = absurd cc
prolog_brackets (Section cs ∷ ps) before run zs h blank z = absurd cc
prolog_brackets (Comment cs ∷ ps) before run zs h blank z = prolog_brackets ps before run zs h blank z
prolog_brackets (Instruction name cs ∷ ps) before run zs h blank z = prolog_brackets ps before run zs h blank z
prolog_brackets (Start empty name ws gap ∷ ps) before run zs h blank z = absurd cc
prolog_brackets (Close name gap ∷ ps) before run zs h blank z = absurd cc
prolog_brackets (Doctype gap name ext after ∷ ps) before run zs h blank z = prolog_brackets ps false run zs (and_parts before (is_prolog false ps) h).1 blank z

-- an element begins with its start tag
record Opening (xs : List Token) : Type 0 where
  rest : List ℕ
  first : flat_map spelled xs ≡ 60 ∷ rest
  blank : (ms : List Token) (run : List ℕ) → list_all is_space run ≡ true → brackets run (xs ++ ms) ≡ brackets [] (xs ++ ms)

opening : (xs : List Token) → closes 0 xs ≡ true → Opening xs
opening [] h = absurd cc
opening (Data p ∷ xs) h = absurd cc
opening (Section cs ∷ xs) h = absurd cc
opening (Comment cs ∷ xs) h = absurd cc
opening (Instruction name cs ∷ xs) h = absurd cc
opening (Start e name ws gap ∷ xs) h = record { rest = _; first = refl; blank = λ ms run blank. ap (λ (ps : List Bracket). ps ++ brackets [] (Start e name ws gap ∷ (xs ++ ms))) (blank_text run blank) }
opening (Close name gap ∷ xs) h = absurd cc
opening (Doctype gap name ext after ∷ xs) h = absurd cc

-- `<` comes first where it does so after line ends are turned
first_tag : (cs rest : List ℕ) → normal false cs ≡ 60 ∷ rest → (r : List ℕ) × (cs ≡ 60 ∷ r)
first_tag [] rest e = absurd cc
first_tag (c ∷ cs) rest e = elim (eqb c 13) as (λ b. cond b (10 ∷ normal true cs) (c ∷ normal false cs) ≡ 60 ∷ rest → (r : List ℕ) × (c ∷ cs ≡ 60 ∷ r)) [
  | true ↦ λ k. let n : 10 ∷ normal true cs ≡ 60 ∷ rest = k in absurd (feed _ _ n)
  | false ↦ λ k. (cs, ap (λ n. n ∷ cs) (heads _ _ _ _ k))
] e
  where
    heads : (a b : ℕ) (x y : List ℕ) → a ∷ x ≡ b ∷ y → a ≡ b
    heads a b x y e = cc

    feed : (x y : List ℕ) → 10 ∷ x ≡ 60 ∷ y → ⊥
    feed x y e = omega (arith, heads 10 60 x y e)

prolog_unmarked : (ps : List Token) (before : Bool) (zs : List Token) (r : List ℕ) → is_prolog before ps ≡ true → flat_map spelled zs ≡ 60 ∷ r → is_marked (flat_map spelled (ps ++ zs)) ≡ false
prolog_unmarked [] before zs r h e = ap is_marked e
prolog_unmarked (Data (Literal c) ∷ ps) before zs r h e = space_no_mark c (and_parts (is_space c) (is_prolog before ps) h).0
  where
    space_no_mark : (c : ℕ) → is_space c ≡ true → eqb c 65279 ≡ false
    space_no_mark c h = elim (eqb c 65279) as (λ b. eqb c 65279 ≡ b → b ≡ false) [ true ↦ λ e. let k : is_space 65279 ≡ true = subst (λ (n : ℕ). is_space n ≡ true) (eqb-true c 65279 e) h in absurd cc | false ↦ λ e. refl ] refl
prolog_unmarked (Data (Reference body) ∷ ps) before zs r h e = refl
prolog_unmarked (Section cs ∷ ps) before zs r h e = refl
prolog_unmarked (Comment cs ∷ ps) before zs r h e = refl
prolog_unmarked (Instruction name cs ∷ ps) before zs r h e = refl
prolog_unmarked (Start empty name ws gap ∷ ps) before zs r h e = refl
prolog_unmarked (Close name gap ∷ ps) before zs r h e = refl
prolog_unmarked (Doctype gap name ext after ∷ ps) before zs r h e = refl

-- what stands behind a declaration, or first
declared_characters : (first : Option Declaration) (bytes cs : List ℕ) → list_all is_plain (spelled_first first) ≡ true → are_chars bytes ≡ true → with_line_feeds bytes ≡ cs → is_marked cs ≡ false
    → (are_chars (encode_utf8_all (spelled_first first) ++ bytes) ≡ true) × (characters (encode_utf8_all (spelled_first first) ++ bytes) ≡ spelled_first first ++ cs)
declared_characters None bytes cs plain utf8 e h = (utf8, unmarked_characters bytes cs e h)
declared_characters (Some d) bytes cs plain utf8 e h =
    let head = spelled_declaration d in
    let t = together (encode_utf8_all head) bytes (plain_encoded head plain) utf8 in
    let same = plain_same head plain in
    let turned : normal false head ≡ head = ap (λ (x : List ℕ). normal false x) (sym same) ∙ plain_lines head plain in (
      t.encoded,
      ap (λ (x : List ℕ). normal false (without_mark x)) (t.chars_are ∙ ap (λ (x : List ℕ). x ++ chars bytes) same)
          ∙ normal_append false head (chars bytes)
          ∙ ap (λ (r : Bool). normal false head ++ normal r (chars bytes)) (no_return head head turned (ap (λ n. eqb n 10) (last_of d)))
          ∙ (λ i. turned i ++ e i),
    )
  where
    last_of : (d : Declaration) → last_or 0 (spelled_declaration d) ≡ 62
    last_of d = last_append 108 (spelled_setting version_word d.version) _ ∙ last_append _ (spelled_if encoding_word d.encoding) _ ∙ last_append _ (spelled_if standalone_word d.standalone) _ ∙ last_append _ d.gap declaration_end

first_document : (first : Option Declaration) (ts : List Token) → is_first first ≡ true → outside true 0 ts ≡ true → is_document first ts ≡ true
first_document None ts h o = o
first_document (Some d) ts h o = and_from _ _ h o

pub document : (first : Option Declaration) (before bytes behind : List ℕ) (t : Tree Kind) → IsTrue (is_first first) → IsTrue (list_all is_plain (spelled_first first)) → SpellsProlog before → SpellsElement bytes t → SpellsMisc behind
    → SpellsDocument (encode_utf8_all (spelled_first first) ++ (before ++ (bytes ++ behind))) t
document first before bytes behind t is plain p s m =
    let ps = p.0 in
    let xs = s.0 in
    let ms = m.0 in
    let o = opening xs s.2 in
    let k = closed xs 0 0 0 s.2 in
    let inner = join_behind bytes behind xs ms s.1 m.1 k.last k.no_square in
    let ahead : flat_map spelled (xs ++ ms) ≡ 60 ∷ (o.rest ++ flat_map spelled ms) = spelled_append xs ms ∙ ap (λ (x : List ℕ). x ++ flat_map spelled ms) o.first in
    let tag = first_tag (chars (bytes ++ behind)) (o.rest ++ flat_map spelled ms) (inner.spelled_so ∙ ahead) in
    let all = join_markup before (bytes ++ behind) ps (xs ++ ms) p.1 inner (60, tag.0, tag.1, inl refl) in
    let d = declared_characters first (before ++ (bytes ++ behind)) (flat_map spelled (ps ++ (xs ++ ms))) plain all.encoded all.spelled_so (prolog_unmarked ps true (xs ++ ms) (o.rest ++ flat_map spelled ms) p.2 ahead) in
    let form = first_document first (ps ++ (xs ++ ms)) is (prolog_outside ps true (xs ++ ms) p.2 (λ b. closes_outside xs 0 b ms s.2 m.2)) in (
      first,
      ps ++ (xs ++ ms),
      record {
        encoded = d.0;
        by = record {
          each = all.each;
          spelled_so = d.1;
          whole = all.whole;
          form = or_left (is_document first (ps ++ (xs ++ ms))) (is_text first (ps ++ (xs ++ ms))) form;
          tree_is =
              prolog_brackets ps true [] (xs ++ ms) p.2 refl (λ run blank. o.blank ms run blank)
              ∙ closes_append xs 0 [] ms s.2
              ∙ (λ i. s.3 i ++ misc_brackets ms [] m.2 refl i)
              ∙ append-nil (bracketing (one t));
        };
      },
      form,
    )

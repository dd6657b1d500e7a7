-- What stands in a document, and what stands round its element.
use Rattle.std.proofs.Common.{◌≡◌, ℕ, zero, suc, ◌+◌, ◌-◌, Bool, true, false, cond, List, [], ◌∷◌, ◌++◌, map, Option, Some, None, eqb, refl, sym, ap, subst, ◌∙◌, append_assoc, arith, ◌⊎◌, inl, inr}
use Rattle.std.specs.List.{flat_map, list_all}
use Rattle.std.specs.Str.{is_utf8, chars, encode_utf8_all}
use Rattle.std.proofs.lemmas.Bool.{eqb-true, and_parts, and_from}
use Rattle.std.proofs.lemmas.List.{append-nil}
use Rattle.std.proofs.lemmas.Str.{encodes-append, IsUtf8-from_is_utf8, encodes-chars}
use Rattle.mm_tree.specs.declared.Kind.{Kind}
use Rattle.mm_tree.specs.declared.Kind.TheVariants.{Element}
use Rattle.mm_tree.specs.Characters.{is_char, is_space}
use Rattle.mm_tree.specs.Trees.{none, node, Tree, one}
use Rattle.mm_tree.specs.Validity.{are_chars}
use Rattle.mm_xml.specs.Syntax.{Literal, Reference, meant, Written, attribute_of, External, Token, Data, Section, Comment, Instruction, Start, Close, Doctype, spelled, Declaration, is_declaration}
use Rattle.mm_xml.specs.Grammar.{Bracket, Begin, End, text_brackets, start_brackets, brackets, bracketing, outside, is_inside, is_document, spelled_first, normal, without_mark, characters}
use Rattle.mm_xml.specs.Productions.{with_line_feeds, PartBy, is_content, closes, is_misc, SpellsMisc, is_prolog, SpellsProlog, is_first, is_marked, SpellsDocument}
use Rattle.mm_xml.specs.Parts.{IsMark, DocumentParts, PrologParts, MiscParts}
use Rattle.mm_xml_laws.proofs.Elements.{down, down_text, brackets_append, inside_closes}
use Rattle.mm_xml_laws.proofs.Forms.{blank_more, blank_text, nothing_there, document_outside}
use Rattle.mm_xml_laws.proofs.Joins.{plain_same}
use Rattle.mm_xml_laws.proofs.Splits.{apart, part_apart, one_token, no_bytes}
use Rattle.mm_xml.specs.Facts.Characters.{same_chars, encoded_chars}
use Rattle.mm_xml_laws.proofs.ContentParts.{no_others, all_before}
use Rattle.mm_xml_laws.proofs.Ends.{leaf_first, tag_first}

-- ---- Misc

pub misc_parts : (bytes : List ℕ) → SpellsMisc bytes → MiscParts bytes
misc_parts bytes s = from s.0 s.1 s.2
  where
    from : (ts : List Token) → PartBy bytes ts → list_all is_misc ts ≡ true → MiscParts bytes
    from [] p m = inl (no_bytes bytes p)
    from (t ∷ ts) p m =
        let a = part_apart bytes (t ∷ []) ts p in
        let w = and_parts (is_misc t) (list_all is_misc ts) m in
        inr (record { first = a.left; rest = a.right; token = t; are_all = a.whole; first_is = one_token a.left t a.left_is; is_one = w.0; rest_is = (ts, a.right_is, w.1) })

-- ---- prolog

-- no document type may stand there any more
misc_only : (ts : List Token) → is_prolog false ts ≡ true → list_all is_misc ts ≡ true
misc_only [] h = refl
misc_only (Data (Literal c) ∷ ts) h = let w = and_parts (is_space c) (is_prolog false ts) h in and_from (is_space c) _ w.0 (misc_only ts w.1)
misc_only (Data (Reference body) ∷ ts) h = absurd cc
misc_only (Section cs ∷ ts) h = absurd cc
misc_only (Comment cs ∷ ts) h = misc_only ts h
misc_only (Instruction name cs ∷ ts) h = misc_only ts h
misc_only (Start empty name ws gap ∷ ts) h = absurd cc
misc_only (Close name gap ∷ ts) h = absurd cc
misc_only (Doctype gap name ext after ∷ ts) h = absurd cc

-- a document type and what stands round it
record Declares (ts : List Token) : Type 0 where
  xs : List Token
  ys : List Token
  gap : List ℕ
  name : List ℕ
  external : External
  after : List ℕ
  whole : ts ≡ xs ++ (Doctype gap name external after ∷ ys)
  before : list_all is_misc xs ≡ true
  behind : list_all is_misc ys ≡ true

abbrev Prolog : List Token → Type 0
Prolog ts = (list_all is_misc ts ≡ true) ⊎ Declares ts

one_misc : (t : Token) (ts : List Token) → is_misc t ≡ true → Prolog ts → Prolog (t ∷ ts)
one_misc t ts h (inl m) = inl (and_from (is_misc t) _ h m)
one_misc t ts h (inr d) = inr (record { xs = t ∷ d.xs; ys = d.ys; gap = d.gap; name = d.name; external = d.external; after = d.after; whole = ap (λ (x : List Token). t ∷ x) d.whole; before = and_from (is_misc t) _ h d.before; behind = d.behind })

prolog_tokens : (ts : List Token) → is_prolog true ts ≡ true → Prolog ts
prolog_tokens [] h = inl refl
prolog_tokens (Data (Literal c) ∷ ts) h = let w = and_parts (is_space c) (is_prolog true ts) h in one_misc (Data (Literal c)) ts w.0 (prolog_tokens ts w.1)
prolog_tokens (Data (Reference body) ∷ ts) h = absurd cc
prolog_tokens (Section cs ∷ ts) h = absurd cc
prolog_tokens (Comment cs ∷ ts) h = one_misc (Comment cs) ts refl (prolog_tokens ts h)
prolog_tokens (Instruction name cs ∷ ts) h = one_misc (Instruction name cs) ts refl (prolog_tokens ts h)
prolog_tokens (Start empty name ws gap ∷ ts) h = absurd cc
prolog_tokens (Close name gap ∷ ts) h = absurd cc
prolog_tokens (Doctype gap name ext after ∷ ts) h = inr (record { xs = []; ys = ts; gap = gap; name = name; external = ext; after = after; whole = refl; before = refl; behind = misc_only ts h })

pub prolog_parts : (bytes : List ℕ) → SpellsProlog bytes → PrologParts bytes
prolog_parts bytes s = elim (prolog_tokens s.0 s.2) [
  | inl m ↦ inl (s.0, s.1, m)
  | inr d ↦
      let t = Doctype d.gap d.name d.external d.after in
      let a = part_apart bytes d.xs (t ∷ d.ys) (subst (λ (x : List Token). PartBy bytes x) d.whole s.1) in
      let b = part_apart a.right (t ∷ []) d.ys a.right_is in
      inr (record {
        before = a.left;
        declared = b.left;
        behind = b.right;
        gap = d.gap;
        name = d.name;
        external = d.external;
        after = d.after;
        are_all = a.whole ∙ ap (λ (x : List ℕ). a.left ++ x) b.whole;
        before_is = (d.xs, a.left_is, d.before);
        declared_is = one_token b.left t b.left_is;
        behind_is = (d.ys, b.right_is, d.behind);
      })
]

-- ---- marks

-- bytes behind a byte order mark, or all of them
pub record MarkApart (bytes : List ℕ) : Type 0 where
  pub mark : List ℕ
  pub rest : List ℕ
  pub whole : bytes ≡ mark ++ rest
  pub mark_is : IsMark mark
  pub unmarked : mark ≡ [] → is_marked (chars rest) ≡ false
  pub encoded : are_chars rest ≡ true
  pub same : with_line_feeds rest ≡ characters bytes

some_mark : encode_utf8_all (65279 ∷ []) ≡ [] → ⊥
unfolding chars
some_mark e = never 65279 (sym (plain_same (65279 ∷ []) refl) ∙ ap chars e)
  where
    never : (c : ℕ) → c ∷ [] ≡ [] → ⊥
    never c e = cc

pub mark_apart : (bytes : List ℕ) → are_chars bytes ≡ true → MarkApart bytes
mark_apart bytes h = from (chars bytes) refl
  where
    u : (is_utf8 bytes ≡ true) × (list_all is_char (chars bytes) ≡ true)
    u = and_parts (is_utf8 bytes) (list_all is_char (chars bytes)) h

    plain : is_marked (chars bytes) ≡ false → with_line_feeds bytes ≡ characters bytes → MarkApart bytes
    plain n e = record { mark = []; rest = bytes; whole = refl; mark_is = inl refl; unmarked = λ k. n; encoded = h; same = e }

    marked : (cs : List ℕ) → chars bytes ≡ 65279 ∷ cs → MarkApart bytes
    marked cs e =
        let each = ap (λ (x : List ℕ). list_all is_char x) (sym e) ∙ u.1 in
        let behind = (and_parts (is_char 65279) (list_all is_char cs) each).1 in
        record {
          mark = encode_utf8_all (65279 ∷ []);
          rest = encode_utf8_all cs;
          whole = sym (encodes-chars bytes (IsUtf8-from_is_utf8 bytes u.0)) ∙ ap encode_utf8_all e ∙ encodes-append (65279 ∷ []) cs;
          mark_is = inr refl;
          unmarked = λ k. absurd (some_mark k);
          encoded = encoded_chars cs behind;
          same = ap (λ (x : List ℕ). normal false x) (same_chars cs behind) ∙ sym (ap (λ (x : List ℕ). normal false (without_mark x)) e);
        }

    from : (cs : List ℕ) → chars bytes ≡ cs → MarkApart bytes
    from [] e = plain (ap is_marked e) (ap (λ (x : List ℕ). normal false x) e ∙ sym (ap (λ (x : List ℕ). normal false (without_mark x)) e))
    from (c ∷ cs) e = elim (eqb c 65279) as (λ b. eqb c 65279 ≡ b → MarkApart bytes) [
      | true ↦ λ k. marked cs (e ∙ ap (λ n. n ∷ cs) (eqb-true c 65279 k))
      | false ↦ λ k. plain (ap is_marked e ∙ k) (ap (λ (x : List ℕ). normal false x) e ∙ sym (ap (λ (x : List ℕ). normal false (without_mark x)) e ∙ ap (λ b. normal false (cond b cs (c ∷ cs))) k))
    ] refl

-- ---- document

-- white space, comments and instructions alone make no node outside the element
misc_there : (ts : List Token) (run : List ℕ) → list_all is_space run ≡ true → outside false 0 ts ≡ true → brackets run ts ≡ [] → list_all is_misc ts ≡ true
misc_there [] run blank o e = refl
misc_there (Data (Literal c) ∷ ts) run blank o e = let w = and_parts (is_space c) (outside false 0 ts) o in and_from (is_space c) _ w.0 (misc_there ts (run ++ c ∷ []) (blank_more run c blank w.0) w.1 e)
misc_there (Data (Reference body) ∷ ts) run blank o e = absurd cc
misc_there (Section cs ∷ ts) run blank o e = absurd cc
misc_there (Comment cs ∷ ts) run blank o e = misc_there ts run blank o e
misc_there (Instruction name cs ∷ ts) run blank o e = misc_there ts run blank o e
misc_there (Start empty name ws gap ∷ ts) run blank o e = absurd (some_there _ _ (sym (ap (λ (ps : List Bracket). ps ++ (start_brackets empty name ws ++ brackets [] ts)) (blank_text run blank)) ∙ e))
  where
    some_there : (p : Bracket) (ps : List Bracket) → p ∷ ps ≡ [] → ⊥
    some_there p ps e = cc
misc_there (Close name gap ∷ ts) run blank o e = absurd (some_there _ _ (sym (ap (λ (ps : List Bracket). ps ++ (End (encode_utf8_all name) ∷ brackets [] ts)) (blank_text run blank)) ∙ e))
  where
    some_there : (p : Bracket) (ps : List Bracket) → p ∷ ps ≡ [] → ⊥
    some_there p ps e = cc
misc_there (Doctype gap name ext after ∷ ts) run blank o e = absurd cc

outside_content : (ts : List Token) (depth : ℕ) → outside false depth ts ≡ true → list_all is_content ts ≡ true
outside_content [] depth o = refl
outside_content (Data (Literal c) ∷ ts) depth o = outside_content ts depth (and_parts _ (outside false depth ts) o).1
outside_content (Data (Reference body) ∷ ts) depth o = outside_content ts depth (and_parts (is_inside depth) _ o).1
outside_content (Section cs ∷ ts) depth o = outside_content ts depth (and_parts (is_inside depth) _ o).1
outside_content (Comment cs ∷ ts) depth o = outside_content ts depth o
outside_content (Instruction name cs ∷ ts) depth o = outside_content ts depth o
outside_content (Start empty name ws gap ∷ ts) depth o = outside_content ts (cond empty depth (depth + 1)) o
outside_content (Close name gap ∷ ts) depth o = outside_content ts (depth - 1) o
outside_content (Doctype gap name ext after ∷ ts) depth o = absurd cc

-- behind the end tag no element is open
outside_behind : (xs : List Token) (run : List ℕ) (n : ℕ) (name gap : List ℕ) (ys : List Token) → outside false (suc n) (xs ++ (Close name gap ∷ ys)) ≡ true → down n (brackets run xs) ≡ true → outside false 0 ys ≡ true
outside_behind [] run n name gap ys o l = last n o (sym (down_text run n []) ∙ ap (λ (qs : List Bracket). down n qs) (append-nil (text_brackets run)) ∙ l)
  where
    last : (n : ℕ) → outside false (suc n) (Close name gap ∷ ys) ≡ true → down n [] ≡ true → outside false 0 ys ≡ true
    last zero o k = o
    last (suc n) o k = absurd cc
outside_behind (Data (Literal c) ∷ xs) run n name gap ys o l = outside_behind xs (run ++ meant (Literal c)) n name gap ys o l
outside_behind (Data (Reference body) ∷ xs) run n name gap ys o l = outside_behind xs (run ++ meant (Reference body)) n name gap ys o l
outside_behind (Section cs ∷ xs) run n name gap ys o l = outside_behind xs (run ++ cs) n name gap ys o l
outside_behind (Comment cs ∷ xs) run n name gap ys o l = outside_behind xs run n name gap ys o l
outside_behind (Instruction target cs ∷ xs) run n name gap ys o l = outside_behind xs run n name gap ys o l
outside_behind (Start false own ws g ∷ xs) run n name gap ys o l =
    outside_behind xs [] (suc n) name gap ys (ap (λ m. outside false m (xs ++ (Close name gap ∷ ys))) (sym (one_more n)) ∙ o) (sym (down_text run n (start_brackets false own ws ++ brackets [] xs)) ∙ l)
  where
    one_more : (n : ℕ) → suc n + 1 ≡ suc (suc n)
    one_more n = omega arith
outside_behind (Start true own ws g ∷ xs) run n name gap ys o l = outside_behind xs [] n name gap ys o (sym (down_text run n (start_brackets true own ws ++ brackets [] xs)) ∙ l)
outside_behind (Close own g ∷ xs) run zero name gap ys o l = let k : down zero (End (encode_utf8_all own) ∷ brackets [] xs) ≡ true = sym (down_text run zero (End (encode_utf8_all own) ∷ brackets [] xs)) ∙ l in absurd cc
outside_behind (Close own g ∷ xs) run (suc n) name gap ys o l =
    outside_behind xs [] n name gap ys (ap (λ m. outside false m (xs ++ (Close name gap ∷ ys))) (sym (one_fewer n)) ∙ o) (sym (down_text run (suc n) (End (encode_utf8_all own) ∷ brackets [] xs)) ∙ l)
  where
    one_fewer : (n : ℕ) → suc (suc n) - 1 ≡ suc n
    one_fewer n = omega arith
outside_behind (Doctype g own ext after ∷ xs) run n name gap ys o l = absurd cc

-- the tokens before the element, of the element and behind it
record Round (may : Bool) (ts : List Token) (t : Tree Kind) : Type 0 where
  ps : List Token
  xs : List Token
  ms : List Token
  whole : ts ≡ ps ++ (xs ++ ms)
  before : is_prolog may ps ≡ true
  element : closes 0 xs ≡ true
  tree_is : brackets [] xs ≡ bracketing (one t)
  behind : list_all is_misc ms ≡ true

one_before : (u : Token) (may then : Bool) (ts : List Token) (t : Tree Kind) → ((ps : List Token) → is_prolog then ps ≡ true → is_prolog may (u ∷ ps) ≡ true) → Round then ts t → Round may (u ∷ ts) t
one_before u may then ts t h r = record { ps = u ∷ r.ps; xs = r.xs; ms = r.ms; whole = ap (λ (x : List Token). u ∷ x) r.whole; before = h r.ps r.before; element = r.element; tree_is = r.tree_is; behind = r.behind }

empty_round : (may : Bool) (name gap : List ℕ) (ws : List Written) (ts : List Token) (t : Tree Kind) → outside false 0 ts ≡ true → start_brackets true name ws ++ brackets [] ts ≡ bracketing (one t) → Round may (Start true name ws gap ∷ ts) t
empty_round may name gap ws ts t o e =
    let kind = Element (encode_utf8_all name) (map attribute_of ws) in
    let f = leaf_first (one t) kind (encode_utf8_all name) (brackets [] ts) e in
    let alone = no_others t kind none f.rest f.children_are in
    record {
      ps = [];
      xs = Start true name ws gap ∷ [];
      ms = ts;
      whole = refl;
      before = refl;
      element = refl;
      tree_is = sym (ap bracketing (f.children_are ∙ ap (λ r. node kind none r) alone));
      behind = misc_there ts [] refl o (f.behind ∙ ap bracketing alone);
    }

tag_round : (may : Bool) (name gap : List ℕ) (ws : List Written) (ts : List Token) (t : Tree Kind) → outside false 1 ts ≡ true → start_brackets false name ws ++ brackets [] ts ≡ bracketing (one t) → Round may (Start false name ws gap ∷ ts) t
tag_round may name gap ws ts t o e =
    let kind = Element (encode_utf8_all name) (map attribute_of ws) in
    let f = tag_first ts name ws (one t) e in
    let closing = Close f.own f.gap in
    let own = f.xs ++ (closing ∷ []) in
    let alone = no_others t kind f.inner f.rest f.children_are in
    let whole : ts ≡ own ++ f.ys = f.whole ∙ sym (append_assoc f.xs (closing ∷ []) f.ys) in
    let each = ap (λ (x : List Token). list_all is_content x) (sym whole) ∙ outside_content ts 1 o in
    record {
      ps = [];
      xs = Start false name ws gap ∷ own;
      ms = f.ys;
      whole = ap (λ (x : List Token). Start false name ws gap ∷ x) whole;
      before = refl;
      element = inside_closes f.xs [] f.own f.gap 0 (all_before is_content f.xs (closing ∷ []) (all_before is_content own f.ys each)) f.level;
      tree_is = ap (λ (ps : List Bracket). Begin kind ∷ ps) (brackets_append f.xs [] (closing ∷ []) (λ run. refl) ∙ (λ i. f.inside i ++ (End (f.same_name i) ∷ []))) ∙ sym (ap bracketing (f.children_are ∙ ap (λ r. node kind f.inner r) alone));
      behind = misc_there f.ys [] refl (outside_behind f.xs [] 0 f.own f.gap f.ys (ap (λ (x : List Token). outside false 1 x) (sym f.whole) ∙ o) f.level) (f.behind ∙ ap bracketing alone);
    }

round : (ts : List Token) (may : Bool) (run : List ℕ) (t : Tree Kind) → list_all is_space run ≡ true → outside may 0 ts ≡ true → brackets run ts ≡ bracketing (one t) → Round may ts t
round [] may run t blank o e = absurd (nothing_there t.0 _ (sym (blank_text run blank) ∙ e))
round (Data (Literal c) ∷ ts) may run t blank o e =
    let w = and_parts (is_space c) (outside may 0 ts) o in
    one_before (Data (Literal c)) may may ts t (λ ps h. and_from (is_space c) _ w.0 h) (round ts may (run ++ c ∷ []) t (blank_more run c blank w.0) w.1 e)
round (Data (Reference body) ∷ ts) may run t blank o e = absurd cc
round (Section cs ∷ ts) may run t blank o e = absurd cc
round (Comment cs ∷ ts) may run t blank o e = one_before (Comment cs) may may ts t (λ ps h. h) (round ts may run t blank o e)
round (Instruction name cs ∷ ts) may run t blank o e = one_before (Instruction name cs) may may ts t (λ ps h. h) (round ts may run t blank o e)
round (Start false name ws gap ∷ ts) may run t blank o e = tag_round may name gap ws ts t o (sym (ap (λ (ps : List Bracket). ps ++ (start_brackets false name ws ++ brackets [] ts)) (blank_text run blank)) ∙ e)
round (Start true name ws gap ∷ ts) may run t blank o e = empty_round may name gap ws ts t o (sym (ap (λ (ps : List Bracket). ps ++ (start_brackets true name ws ++ brackets [] ts)) (blank_text run blank)) ∙ e)
round (Close name gap ∷ ts) may run t blank o e = absurd (never _ _ (sym (ap (λ (ps : List Bracket). ps ++ (End (encode_utf8_all name) ∷ brackets [] ts)) (blank_text run blank)) ∙ e))
  where
    never : (ps qs : List Bracket) → End (encode_utf8_all name) ∷ ps ≡ Begin t.0 ∷ qs → ⊥
    never ps qs e = cc
round (Doctype gap name ext after ∷ ts) may run t blank o e =
    let w = and_parts may (outside false 0 ts) o in
    one_before (Doctype gap name ext after) may false ts t (λ ps h. and_from may _ w.0 h) (round ts false run t blank w.1 e)

document_first : (first : Option Declaration) (ts : List Token) → is_document first ts ≡ true → is_first first ≡ true
document_first None ts h = refl
document_first (Some d) ts h = (and_parts (is_declaration d) (outside true 0 ts) h).0

pub document_parts : (bytes : List ℕ) (t : Tree Kind) → SpellsDocument bytes t → DocumentParts bytes t
document_parts bytes t s =
    let first = s.0 in
    let ts = s.1 in
    let by = s.2.by in
    let m = mark_apart bytes s.2.encoded in
    let a = apart m.rest (spelled_first first) (flat_map spelled ts) (record { encoded = m.encoded; spelled_so = m.same ∙ by.spelled_so }) in
    let r = round ts true [] t refl (document_outside first ts s.3) by.tree_is in
    let part : PartBy a.right ts = record { encoded = a.right_is.encoded; each = by.each; spelled_so = a.right_is.spelled_so; whole = by.whole } in
    let b = part_apart a.right r.ps (r.xs ++ r.ms) (subst (λ (x : List Token). PartBy a.right x) r.whole part) in
    let c = part_apart b.right r.xs r.ms b.right_is in
    record {
      mark = m.mark;
      first = a.left;
      before = b.left;
      element = c.left;
      behind = c.right;
      are_all = m.whole ∙ ap (λ (x : List ℕ). m.mark ++ x) (a.whole ∙ ap (λ (x : List ℕ). a.left ++ x) (b.whole ∙ ap (λ (x : List ℕ). b.left ++ x) c.whole));
      mark_is = m.mark_is;
      first_is = (first, a.left_is, document_first first ts s.3);
      before_is = (r.ps, b.left_is, r.before);
      element_is = (r.xs, c.left_is, r.element, r.tree_is);
      behind_is = (r.ms, c.right_is, r.behind);
    }

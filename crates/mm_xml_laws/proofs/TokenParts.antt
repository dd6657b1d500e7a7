-- What stands in a token.
use Rattle.std.proofs.Common.{◌≡◌, ℕ, Bool, true, false, cond, not, List, [], ◌∷◌, ◌++◌, map, eqb, refl, sym, ap, subst, ◌∙◌, inl, inr}
use Rattle.std.specs.Prelude.{IsTrue, codes}
use Rattle.std.specs.List.{flat_map, list_all}
use Rattle.std.specs.Str.{is_utf8, chars, encode_utf8_all}
use Rattle.std.proofs.lemmas.Bool.{eqb-true, and_parts, or_cases}
use Rattle.std.proofs.lemmas.Str.{IsUtf8-from_is_utf8, encodes-chars}
use Rattle.mm_tree.specs.Characters.{is_char, is_space, is_name, is_short_name}
use Rattle.mm_xml.specs.Letters.{is_ascii, is_free, is_gap, referred}
use Rattle.mm_xml.specs.Syntax.{Reference, is_some, not_semicolon, is_rest, is_reserved, is_quote, is_within, spelled_part, Written, is_written, spelled_written, attribute_of, differ, External, is_external, spelled_external, ending, Data, Section, Comment, Instruction, Start, Close, Doctype}
use Rattle.mm_xml.specs.Grammar.{normal}
use Rattle.mm_xml.specs.Parts.{SpellsCharacters, SpellsToken, ReferenceParts, SectionParts, CommentParts, InstructionParts, SpellsAttributes, StartParts, EndParts, MoreAttributes, AttributeParts, TypeParts}
use Rattle.mm_xml_laws.proofs.Splits.{apart}
use Rattle.mm_xml.specs.Facts.Characters.{spelled_ascii}

-- ---- bytes of given characters

abbrev no_feed : ℕ → Bool
no_feed c = not (eqb c 10)

-- characters without a line feed are as they were
exactly : (cs xs : List ℕ) → normal false cs ≡ xs → list_all no_feed xs ≡ true → cs ≡ xs
exactly [] xs e h = e
exactly (c ∷ cs) xs e h = elim (eqb c 13) as (λ b. cond b (10 ∷ normal true cs) (c ∷ normal false cs) ≡ xs → c ∷ cs ≡ xs) [
  | true ↦ λ k. absurd (never (ap (λ (x : List ℕ). list_all no_feed x) k ∙ h))
  | false ↦ λ k. ap (λ (x : List ℕ). c ∷ x) (exactly cs (normal false cs) refl (and_parts (no_feed c) (list_all no_feed (normal false cs)) (ap (λ (x : List ℕ). list_all no_feed x) k ∙ h)).1) ∙ k
] e
  where
    never : false ≡ true → ⊥
    never e = cc

given : (bytes xs : List ℕ) → SpellsCharacters bytes xs → list_all no_feed xs ≡ true → is_ascii xs ≡ true → bytes ≡ xs
given bytes xs s h low =
    let u = and_parts (is_utf8 bytes) (list_all is_char (chars bytes)) s.encoded in
    sym (encodes-chars bytes (IsUtf8-from_is_utf8 bytes u.0)) ∙ ap encode_utf8_all (exactly (chars bytes) xs s.spelled_so h) ∙ spelled_ascii xs low

record Front (bytes pre cs : List ℕ) : Type 0 where
  rest : List ℕ
  whole : bytes ≡ pre ++ rest
  rest_is : SpellsCharacters rest cs

front : (bytes pre cs : List ℕ) → list_all no_feed pre ≡ true → is_ascii pre ≡ true → SpellsCharacters bytes (pre ++ cs) → Front bytes pre cs
front bytes pre cs h low s =
    let a = apart bytes pre cs s in
    record { rest = a.right; whole = a.whole ∙ ap (λ (x : List ℕ). x ++ a.right) (given a.left pre a.left_is h low); rest_is = a.right_is }

record Back (bytes cs post : List ℕ) : Type 0 where
  inner : List ℕ
  whole : bytes ≡ inner ++ post
  inner_is : SpellsCharacters inner cs

back : (bytes cs post : List ℕ) → list_all no_feed post ≡ true → is_ascii post ≡ true → SpellsCharacters bytes (cs ++ post) → Back bytes cs post
back bytes cs post h low s =
    let a = apart bytes cs post s in
    record { inner = a.left; whole = a.whole ∙ ap (λ (x : List ℕ). a.left ++ x) (given a.right post a.right_is h low); inner_is = a.left_is }

-- ---- markup

pub reference_parts : (bytes body : List ℕ) → SpellsToken bytes (Data (Reference body)) → ReferenceParts bytes body
reference_parts bytes body s =
    let f = front bytes (codes "&") (body ++ codes ";") refl refl s.characters in
    let b = back f.rest body (codes ";") refl refl f.rest_is in
    let w = and_parts (list_all not_semicolon body) (is_some (referred body)) s.is in
    record { inner = b.inner; are_all = f.whole ∙ ap (λ (x : List ℕ). codes "&" ++ x) b.whole; inner_is = b.inner_is; free = w.0; refers = w.1 }

pub section_parts : (bytes cs : List ℕ) → SpellsToken bytes (Section cs) → SectionParts bytes cs
section_parts bytes cs s =
    let f = front bytes (codes "<![CDATA[") (cs ++ codes "]]>") refl refl s.characters in
    let b = back f.rest cs (codes "]]>") refl refl f.rest_is in
    record { inner = b.inner; are_all = f.whole ∙ ap (λ (x : List ℕ). codes "<![CDATA[" ++ x) b.whole; inner_is = b.inner_is; free = (and_parts (list_all is_char cs) (is_free (codes "]]>") cs) s.is).1 }

pub comment_parts : (bytes cs : List ℕ) → SpellsToken bytes (Comment cs) → CommentParts bytes cs
comment_parts bytes cs s =
    let f = front bytes (codes "<!--") (cs ++ codes "-->") refl refl s.characters in
    let b = back f.rest cs (codes "-->") refl refl f.rest_is in
    record { inner = b.inner; are_all = f.whole ∙ ap (λ (x : List ℕ). codes "<!--" ++ x) b.whole; inner_is = b.inner_is; free = (and_parts (list_all is_char cs) (is_free (codes "--") cs) s.is).1 }

negated : (b : Bool) → not b ≡ true → b ≡ false
negated true e = absurd cc
negated false e = refl

pub instruction_parts : (bytes name cs : List ℕ) → SpellsToken bytes (Instruction name cs) → InstructionParts bytes name cs
instruction_parts bytes name cs s =
    let f = front bytes (codes "<?") (name ++ (cs ++ codes "?>")) refl refl s.characters in
    let a = apart f.rest name (cs ++ codes "?>") f.rest_is in
    let b = back a.right cs (codes "?>") refl refl a.right_is in
    let n = and_parts (is_name name) _ s.is in
    let r = and_parts (not (is_reserved name)) _ n.1 in
    let w = and_parts (is_rest cs) (is_free (codes "?>") cs) r.1 in
    record {
      target = a.left;
      inner = b.inner;
      are_all = f.whole ∙ ap (λ (x : List ℕ). codes "<?" ++ x) (a.whole ∙ ap (λ (x : List ℕ). a.left ++ x) b.whole);
      target_is = a.left_is;
      named_so = n.0;
      unreserved = negated (is_reserved name) r.0;
      inner_is = b.inner_is;
      spaced = w.0;
      free = w.1;
    }

-- ---- tags

ending_ascii : (e : Bool) → is_ascii (ending e) ≡ true
ending_ascii true = refl
ending_ascii false = refl

ending_plain : (e : Bool) → list_all no_feed (ending e) ≡ true
ending_plain true = refl
ending_plain false = refl

pub start_parts : (bytes : List ℕ) (empty : Bool) (name : List ℕ) (ws : List Written) (gap : List ℕ) → SpellsToken bytes (Start empty name ws gap) → StartParts bytes empty name ws gap
start_parts bytes empty name ws gap s =
    let list = flat_map spelled_written ws in
    let f = front bytes (codes "<") (name ++ (list ++ (gap ++ ending empty))) refl refl s.characters in
    let a = apart f.rest name (list ++ (gap ++ ending empty)) f.rest_is in
    let b = apart a.right list (gap ++ ending empty) a.right_is in
    let c = back b.right gap (ending empty) (ending_plain empty) (ending_ascii empty) b.right_is in
    let n = and_parts (is_short_name name) _ s.is in
    let e = and_parts (list_all is_written ws) _ n.1 in
    let d = and_parts (differ (map attribute_of ws)) (list_all is_space gap) e.1 in
    record {
      own = a.left;
      list = b.left;
      space = c.inner;
      are_all = f.whole ∙ ap (λ (x : List ℕ). codes "<" ++ x) (a.whole ∙ ap (λ (x : List ℕ). a.left ++ x) (b.whole ∙ ap (λ (x : List ℕ). b.left ++ x) c.whole));
      own_is = a.left_is;
      named_so = n.0;
      list_is = record { each = e.0; characters = b.left_is };
      all_differ = d.0;
      space_is = c.inner_is;
      blank = d.1;
    }

pub end_parts : (bytes name gap : List ℕ) → SpellsToken bytes (Close name gap) → EndParts bytes name gap
end_parts bytes name gap s =
    let f = front bytes (codes "</") (name ++ (gap ++ codes ">")) refl refl s.characters in
    let a = apart f.rest name (gap ++ codes ">") f.rest_is in
    let b = back a.right gap (codes ">") refl refl a.right_is in
    let n = and_parts (is_short_name name) (list_all is_space gap) s.is in
    record { own = a.left; space = b.inner; are_all = f.whole ∙ ap (λ (x : List ℕ). codes "</" ++ x) (a.whole ∙ ap (λ (x : List ℕ). a.left ++ x) b.whole); own_is = a.left_is; named_so = n.0; space_is = b.inner_is; blank = n.1 }

pub attributes_parts : (bytes : List ℕ) (first : Written) (others : List Written) → SpellsAttributes bytes (first ∷ others) → MoreAttributes bytes first others
attributes_parts bytes first others s =
    let a = apart bytes (spelled_written first) (flat_map spelled_written others) s.characters in
    let w = and_parts (is_written first) (list_all is_written others) s.each in
    record { left = a.left; right = a.right; are_all = a.whole; first_is = a.left_is; is_one = w.0; others_are = record { each = w.1; characters = a.right_is } }

record Quote (q : ℕ) : Type 0 where
  ascii : is_ascii (q ∷ []) ≡ true
  plain : list_all no_feed (q ∷ []) ≡ true

quote_is : (q : ℕ) → is_quote q ≡ true → Quote q
quote_is q h = elim (or_cases (eqb q 34) (eqb q 39) h) [
  | inl e ↦ subst Quote (sym (eqb-true q 34 e)) (record { ascii = refl; plain = refl })
  | inr e ↦ subst Quote (sym (eqb-true q 39 e)) (record { ascii = refl; plain = refl })
]

pub attribute_parts : (bytes : List ℕ) (a : Written) → IsTrue (is_written a) → SpellsCharacters bytes (spelled_written a) → AttributeParts bytes a
attribute_parts bytes a is s =
    let value = flat_map spelled_part a.parts in
    let quote = a.quote ∷ [] in
    let g = and_parts (is_gap a.gap) _ is in
    let n = and_parts (is_short_name a.name) _ g.1 in
    let x = and_parts (list_all is_space a.before) _ n.1 in
    let y = and_parts (list_all is_space a.after) _ x.1 in
    let z = and_parts (is_quote a.quote) (list_all (is_within a.quote) a.parts) y.1 in
    let q = quote_is a.quote z.0 in
    let one = apart bytes a.gap (a.name ++ (a.before ++ (codes "=" ++ (a.after ++ (quote ++ (value ++ quote)))))) s in
    let two = apart one.right a.name (a.before ++ (codes "=" ++ (a.after ++ (quote ++ (value ++ quote))))) one.right_is in
    let three = apart two.right a.before (codes "=" ++ (a.after ++ (quote ++ (value ++ quote)))) two.right_is in
    let four = front three.right (codes "=") (a.after ++ (quote ++ (value ++ quote))) refl refl three.right_is in
    let five = apart four.rest a.after (quote ++ (value ++ quote)) four.rest_is in
    let six = front five.right quote (value ++ quote) q.plain q.ascii five.right_is in
    let seven = back six.rest value quote q.plain q.ascii six.rest_is in
    let last = six.whole ∙ ap (λ (r : List ℕ). quote ++ r) seven.whole in
    record {
      space = one.left;
      own = two.left;
      before = three.left;
      after = five.left;
      value = seven.inner;
      are_all = one.whole ∙ ap (λ (r : List ℕ). one.left ++ r) (two.whole ∙ ap (λ (r : List ℕ). two.left ++ r) (three.whole ∙ ap (λ (r : List ℕ). three.left ++ r) (four.whole ∙ ap (λ (r : List ℕ). codes "=" ++ r) (five.whole ∙ ap (λ (r : List ℕ). five.left ++ r) last))));
      space_is = one.left_is;
      spaced = g.0;
      own_is = two.left_is;
      named_so = n.0;
      before_is = three.left_is;
      blank_before = x.0;
      after_is = five.left_is;
      blank_after = y.0;
      quoted = z.0;
      value_is = seven.inner_is;
      each = z.1;
    }

pub doctype_parts : (bytes gap name : List ℕ) (external : External) (after : List ℕ) → SpellsToken bytes (Doctype gap name external after) → TypeParts bytes gap name external after
doctype_parts bytes gap name external after s =
    let outer = spelled_external external in
    let f = front bytes (codes "<!DOCTYPE") (gap ++ (name ++ (outer ++ (after ++ codes ">")))) refl refl s.characters in
    let a = apart f.rest gap (name ++ (outer ++ (after ++ codes ">"))) f.rest_is in
    let b = apart a.right name (outer ++ (after ++ codes ">")) a.right_is in
    let c = apart b.right outer (after ++ codes ">") b.right_is in
    let d = back c.right after (codes ">") refl refl c.right_is in
    let g = and_parts (is_gap gap) _ s.is in
    let n = and_parts (is_name name) _ g.1 in
    let e = and_parts (is_external external) (list_all is_space after) n.1 in
    record {
      space = a.left;
      own = b.left;
      outer = c.left;
      last = d.inner;
      are_all = f.whole ∙ ap (λ (x : List ℕ). codes "<!DOCTYPE" ++ x) (a.whole ∙ ap (λ (x : List ℕ). a.left ++ x) (b.whole ∙ ap (λ (x : List ℕ). b.left ++ x) (c.whole ∙ ap (λ (x : List ℕ). c.left ++ x) d.whole)));
      space_is = a.left_is;
      spaced = g.0;
      own_is = b.left_is;
      named_so = n.0;
      outer_is = c.left_is;
      well_formed = e.0;
      last_is = d.inner_is;
      blank = e.1;
    }

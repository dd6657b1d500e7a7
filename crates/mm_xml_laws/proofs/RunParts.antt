-- What a text is made of, and what stands in the text form.
use Rattle.std.proofs.Common.{◌≡◌, ℕ, ◌+◌, Bool, true, false, cond, ◌&&◌, not, List, [], ◌∷◌, ◌++◌, Option, Some, None, eqb, leb, refl, sym, ap, subst, ◌∙◌, arith, ◌⊎◌, inl, inr}
use Rattle.std.specs.List.{flat_map, list_all}
use Rattle.std.specs.Str.{chars, encode_utf8_all}
use Rattle.std.proofs.lemmas.Bool.{eqb-true, and_parts, and_from, or_left, or_right}
use Rattle.mm_tree.specs.declared.Kind.{Kind}
use Rattle.mm_tree.specs.declared.Kind.TheVariants.{Words}
use Rattle.mm_tree.specs.Characters.{is_space}
use Rattle.mm_tree.specs.Trees.{none, Tree, one}
use Rattle.mm_xml.specs.Letters.{starts, is_free}
use Rattle.mm_xml.specs.Syntax.{Literal, Reference, is_literal, Token, Data, Section, Comment, Instruction, Start, Close, Doctype, is_token, spelled, Declaration}
use Rattle.mm_xml.specs.Grammar.{Bracket, Begin, End, text_brackets, brackets, bracketing, unbroken, is_textual, is_text, SpellsBy, normal}
use Rattle.mm_xml.specs.Productions.{with_line_feeds, PartBy, characters_of, SpellsRun, ends_run, ends_markup, SpellsText}
use Rattle.mm_xml.specs.Parts.{is_markup, MoreText, RunParts, TextParts}
use Rattle.mm_xml_laws.proofs.Elements.{run_brackets}
use Rattle.mm_xml_laws.proofs.Forms.{nothing_there}
use Rattle.mm_xml_laws.proofs.Runs.{literals, literals_spelled, literals_text, close_mark, text_append}
use Rattle.mm_xml_laws.proofs.Splits.{first_char, part_apart, one_token, no_bytes, unbroken_less}
use Rattle.mm_xml_laws.proofs.Ends.{leaf_first}
use Rattle.mm_xml_laws.proofs.ContentParts.{root, some_bytes, all_behind}
use Rattle.mm_xml_laws.proofs.DocumentParts.{mark_apart}

-- ---- character data

-- characters that stand for themselves, and what stands behind them
record Plainly (ts : List Token) : Type 0 where
  cs : List ℕ
  ys : List Token
  whole : ts ≡ literals cs ++ ys
  stop : (bytes : List ℕ) → PartBy bytes ys → ends_run (chars bytes) ≡ true

markup_there : (b : ℕ) (cs r : List ℕ) → (b ≡ 60) ⊎ (b ≡ 38) → normal false cs ≡ b ∷ r → ends_run cs ≡ true
markup_there b cs r h e = elim h [
  | inl k ↦ ap ends_run (first_char 60 cs r refl (e ∙ ap (λ n. n ∷ r) k)).1
  | inr k ↦ ap ends_run (first_char 38 cs r refl (e ∙ ap (λ n. n ∷ r) k)).1
]

here : (t : Token) (ts : List Token) → ((bytes : List ℕ) → PartBy bytes (t ∷ ts) → ends_run (chars bytes) ≡ true) → Plainly (t ∷ ts)
here t ts h = record { cs = []; ys = t ∷ ts; whole = refl; stop = h }

plainly : (ts : List Token) → Plainly ts
unfolding chars
plainly [] = record { cs = []; ys = []; whole = refl; stop = λ bytes p. ap (λ (b : List ℕ). ends_run (chars b)) (no_bytes bytes p) }
plainly (Data (Literal c) ∷ ts) = let x = plainly ts in record { cs = c ∷ x.cs; ys = x.ys; whole = ap (λ (r : List Token). Data (Literal c) ∷ r) x.whole; stop = x.stop }
plainly (Data (Reference body) ∷ ts) = here (Data (Reference body)) ts (λ bytes p. markup_there 38 (chars bytes) _ (inr refl) p.spelled_so)
plainly (Section cs ∷ ts) = here (Section cs) ts (λ bytes p. markup_there 60 (chars bytes) _ (inl refl) p.spelled_so)
plainly (Comment cs ∷ ts) = here (Comment cs) ts (λ bytes p. markup_there 60 (chars bytes) _ (inl refl) p.spelled_so)
plainly (Instruction name cs ∷ ts) = here (Instruction name cs) ts (λ bytes p. markup_there 60 (chars bytes) _ (inl refl) p.spelled_so)
plainly (Start empty name ws gap ∷ ts) = here (Start empty name ws gap) ts (λ bytes p. markup_there 60 (chars bytes) _ (inl refl) p.spelled_so)
plainly (Close name gap ∷ ts) = here (Close name gap) ts (λ bytes p. markup_there 60 (chars bytes) _ (inl refl) p.spelled_so)
plainly (Doctype gap name ext after ∷ ts) = here (Doctype gap name ext after) ts (λ bytes p. markup_there 60 (chars bytes) _ (inl refl) p.spelled_so)

each_literal : (cs : List ℕ) → list_all is_token (literals cs) ≡ true → list_all is_literal cs ≡ true
each_literal [] h = refl
each_literal (c ∷ cs) h = let w = and_parts (is_literal c) (list_all is_token (literals cs)) h in and_from (is_literal c) _ w.0 (each_literal cs w.1)

-- `]]>` doesn't begin there
no_close : (c : ℕ) (cs : List ℕ) → unbroken 0 (literals (c ∷ cs)) ≡ true → not (starts close_mark (c ∷ (cs ++ close_mark))) ≡ true
no_close c [] h = elim (eqb 93 c) as (λ b. not (b && false) ≡ true) [ true ↦ refl | false ↦ refl ]
no_close c (d ∷ []) h = elim (eqb 93 c) as (λ b. not (b && (eqb 93 d && false)) ≡ true) [ false ↦ refl | true ↦ elim (eqb 93 d) as (λ b. not (b && false) ≡ true) [ true ↦ refl | false ↦ refl ] ]
no_close c (d ∷ e ∷ cs) h =
    elim (eqb 93 c) as (λ b. eqb 93 c ≡ b → not (b && (eqb 93 d && (eqb 62 e && true))) ≡ true) [
      | false ↦ λ k. refl
      | true ↦ λ k. elim (eqb 93 d) as (λ b. eqb 93 d ≡ b → not (b && (eqb 62 e && true)) ≡ true) [
        | false ↦ λ m. refl
        | true ↦ λ m. elim (eqb 62 e) as (λ b. eqb 62 e ≡ b → not (b && true) ≡ true) [
          | false ↦ λ n. refl
          | true ↦ λ n. absurd (never (ap (λ x. unbroken 0 (literals (x ∷ 93 ∷ 62 ∷ cs))) (eqb-true 93 c k) ∙ ap (λ x. unbroken 0 (literals (c ∷ x ∷ 62 ∷ cs))) (eqb-true 93 d m) ∙ ap (λ x. unbroken 0 (literals (c ∷ d ∷ x ∷ cs))) (eqb-true 62 e n) ∙ h))
        ] refl
      ] refl
    ] refl
  where
    never : unbroken 0 (literals (93 ∷ 93 ∷ 62 ∷ cs)) ≡ true → ⊥
    never k = cc

unbroken_tail : (c : ℕ) (ts : List Token) → unbroken 0 (Data (Literal c) ∷ ts) ≡ true → unbroken 0 ts ≡ true
unbroken_tail c ts h = elim (eqb c 93) as (λ b. cond b (unbroken (0 + 1) ts) (not (eqb c 62 && leb 2 0) && unbroken 0 ts) ≡ true → unbroken 0 ts ≡ true) [
  | true ↦ λ k. unbroken_less ts 1 0 (omega arith) k
  | false ↦ λ k. (and_parts (not (eqb c 62 && leb 2 0)) (unbroken 0 ts) k).1
] h

literals_free : (cs : List ℕ) → unbroken 0 (literals cs) ≡ true → is_free close_mark cs ≡ true
literals_free [] h = refl
literals_free (c ∷ cs) h = and_from _ _ (no_close c cs h) (literals_free cs (unbroken_tail c (literals cs) h))

char_data_first : (bytes text : List ℕ) (c : ℕ) (ts : List Token) → PartBy bytes (Data (Literal c) ∷ ts) → list_all is_textual ts ≡ true → flat_map characters_of (Data (Literal c) ∷ ts) ≡ text → MoreText bytes text
char_data_first bytes text c ts p h e =
    let x = plainly ts in
    let cs = c ∷ x.cs in
    let a = part_apart bytes (literals cs) x.ys (subst (λ (r : List Token). PartBy bytes (Data (Literal c) ∷ r)) x.whole p) in
    record {
      first = a.left;
      rest = a.right;
      own = cs;
      more = flat_map characters_of x.ys;
      are_all = a.whole;
      is_there = some_bytes a.left (Data (Literal c)) (literals x.cs) a.left_is;
      first_is = inl (record {
        characters = record { encoded = a.left_is.encoded; spelled_so = a.left_is.spelled_so ∙ literals_spelled cs };
        each = each_literal cs a.left_is.each;
        free = literals_free cs a.left_is.whole;
      });
      rest_is = (x.ys, a.right_is, all_behind is_textual (literals x.cs) x.ys (ap (λ (r : List Token). list_all is_textual r) (sym x.whole) ∙ h), refl);
      apart = or_left (ends_run (chars a.right)) (ends_markup (with_line_feeds a.left)) (x.stop a.right a.right_is);
      text_is = sym e ∙ ap (λ (r : List Token). c ∷ flat_map characters_of r) x.whole ∙ ap (λ (r : List ℕ). c ∷ r) (text_append (literals x.cs) x.ys ∙ ap (λ (r : List ℕ). r ++ flat_map characters_of x.ys) (literals_text x.cs));
    }

-- ---- markup

ends_more : (c : ℕ) (cs : List ℕ) → ends_markup cs ≡ true → ends_markup (c ∷ cs) ≡ true
ends_more c [] h = absurd cc
ends_more c (d ∷ cs) h = h

ends_behind : (xs cs : List ℕ) → ends_markup cs ≡ true → ends_markup (xs ++ cs) ≡ true
ends_behind [] cs h = h
ends_behind (x ∷ xs) cs h = ends_more x (xs ++ cs) (ends_behind xs cs h)

markup_first : (bytes text : List ℕ) (t : Token) (ts : List Token) → is_markup t ≡ true → ends_markup (spelled t) ≡ true → PartBy bytes (t ∷ ts) → list_all is_textual ts ≡ true → flat_map characters_of (t ∷ ts) ≡ text → MoreText bytes text
markup_first bytes text t ts m ends p h e =
    let a = part_apart bytes (t ∷ []) ts p in
    let one = one_token a.left t a.left_is in
    record {
      first = a.left;
      rest = a.right;
      own = characters_of t;
      more = flat_map characters_of ts;
      are_all = a.whole;
      is_there = some_bytes a.left t [] a.left_is;
      first_is = inr (t, m, one, refl);
      rest_is = (ts, a.right_is, h, refl);
      apart = or_right (ends_run (chars a.right)) (ends_markup (with_line_feeds a.left)) (ap ends_markup one.characters.spelled_so ∙ ends);
      text_is = sym e;
    }

-- ---- a text

pub run_parts : (bytes text : List ℕ) → SpellsRun bytes text → RunParts bytes text
run_parts bytes text s = from s.0 s.1 s.2 s.3
  where
    from : (ts : List Token) → PartBy bytes ts → list_all is_textual ts ≡ true → flat_map characters_of ts ≡ text → RunParts bytes text
    from [] p h e = inl (no_bytes bytes p, sym e)
    from (Data (Literal c) ∷ ts) p h e = inr (char_data_first bytes text c ts p h e)
    from (Data (Reference body) ∷ ts) p h e = inr (markup_first bytes text (Data (Reference body)) ts refl (ends_behind (38 ∷ body) (59 ∷ []) refl) p h e)
    from (Section cs ∷ ts) p h e = inr (markup_first bytes text (Section cs) ts refl (ends_behind (60 ∷ 33 ∷ 91 ∷ 67 ∷ 68 ∷ 65 ∷ 84 ∷ 65 ∷ 91 ∷ cs) (93 ∷ 93 ∷ 62 ∷ []) refl) p h e)
    from (Comment cs ∷ ts) p h e = inr (markup_first bytes text (Comment cs) ts refl (ends_behind (60 ∷ 33 ∷ 45 ∷ 45 ∷ cs) (45 ∷ 45 ∷ 62 ∷ []) refl) p h e)
    from (Instruction name cs ∷ ts) p h e = inr (markup_first bytes text (Instruction name cs) ts refl (ends_behind (60 ∷ 63 ∷ name) _ (ends_behind cs (63 ∷ 62 ∷ []) refl)) p h e)
    from (Start empty name ws gap ∷ ts) p h e = absurd cc
    from (Close name gap ∷ ts) p h e = absurd cc
    from (Doctype gap name ext after ∷ ts) p h e = absurd cc

-- ---- the text form

record Ink (text : List ℕ) (t : Tree Kind) : Type 0 where
  ink : list_all is_space text ≡ false
  tree_is : t ≡ (Words (encode_utf8_all text), none)

abbrev brackets_if : List ℕ → Bool → List Bracket
brackets_if text b = cond b [] (Begin (Words (encode_utf8_all text)) ∷ End [] ∷ [])

inked : (text : List ℕ) (t : Tree Kind) → text_brackets text ≡ bracketing (one t) → Ink text t
inked text t e = choose (list_all is_space text) refl
  where
    choose : (b : Bool) → list_all is_space text ≡ b → Ink text t
    choose true h = absurd (nothing_there t.0 _ (sym (ap (λ b. brackets_if text b) h) ∙ e))
    choose false h =
        let f = leaf_first (one t) (Words (encode_utf8_all text)) [] [] (sym (ap (λ b. brackets_if text b) h) ∙ e) in
        record { ink = h; tree_is = root t (Words (encode_utf8_all text)) none f.rest f.children_are }

no_more : (ts : List Token) → ts ++ [] ≡ ts
no_more [] = refl
no_more (t ∷ ts) = ap (λ (x : List Token). t ∷ x) (no_more ts)

pub text_parts : (bytes : List ℕ) (t : Tree Kind) → SpellsText bytes t → TextParts bytes t
text_parts bytes t s = from s.0 s.2 s.3
  where
    from : (first : Option Declaration) → SpellsBy bytes t first s.1 → is_text first s.1 ≡ true → TextParts bytes t
    from None by h =
        let m = mark_apart bytes by.encoded in
        let text = flat_map characters_of s.1 in
        let k = inked text t (sym (run_brackets s.1 [] [] h) ∙ ap (λ (x : List Token). brackets [] x) (no_more s.1) ∙ by.by.tree_is) in
        record {
          mark = m.mark;
          run = m.rest;
          text = text;
          are_all = m.whole;
          mark_is = m.mark_is;
          unmarked = m.unmarked;
          run_is = (s.1, record { encoded = m.encoded; each = by.by.each; spelled_so = m.same ∙ by.by.spelled_so; whole = by.by.whole }, h, refl);
          ink = k.ink;
          tree_is = k.tree_is;
        }
    from (Some d) by h = absurd cc

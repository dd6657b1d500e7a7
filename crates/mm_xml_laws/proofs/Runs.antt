-- What texts are made of.
use Rattle.std.proofs.Common.{◌≡◌, ℕ, zero, suc, ◌+◌, true, false, cond, ◌&&◌, ◌||◌, not, List, [], ◌∷◌, ◌++◌, eqb, leb, refl, sym, ap, ◌∙◌, append_assoc, arith, ◌⊎◌, inl, inr}
use Rattle.std.specs.Prelude.{IsTrue}
use Rattle.std.specs.List.{flat_map, list_all}
use Rattle.std.specs.Str.{chars}
use Rattle.std.proofs.lemmas.Bool.{eqb-true, and_parts, and_from, or_cases}
use Rattle.std.proofs.lemmas.List.{append-nil}
use Rattle.mm_xml.specs.Letters.{is_free}
use Rattle.mm_xml.specs.Syntax.{Literal, Reference, is_literal, Token, Data, Section, Comment, Instruction, Start, Close, Doctype, is_token, spelled}
use Rattle.mm_xml.specs.Grammar.{unbroken, is_textual, normal}
use Rattle.mm_xml.specs.Productions.{with_line_feeds, PartBy, characters_of, SpellsRun, ends_run, ends_markup}
use Rattle.mm_xml.specs.Parts.{SpellsCharData, is_markup, SpellsMarkup}
use Rattle.mm_xml_laws.proofs.Splits.{token_part}
use Rattle.mm_xml_laws.proofs.Joins.{all_append, part_join, join_markup, join_nothing, no_part, no_return, last_or, last_append, squares}

-- ---- nothing

pub no_text : SpellsRun [] []
no_text = ([], no_part, refl, refl)

-- ---- character data

abbrev pub literals : List ℕ → List Token
literals [] = []
literals (c ∷ cs) = Data (Literal c) ∷ literals cs

pub literals_spelled : (cs : List ℕ) → flat_map spelled (literals cs) ≡ cs
literals_spelled [] = refl
literals_spelled (c ∷ cs) = ap (λ (x : List ℕ). c ∷ x) (literals_spelled cs)

pub literals_text : (cs : List ℕ) → flat_map characters_of (literals cs) ≡ cs
literals_text [] = refl
literals_text (c ∷ cs) = ap (λ (x : List ℕ). c ∷ x) (literals_text cs)

literals_each : (cs : List ℕ) → list_all is_literal cs ≡ true → list_all is_token (literals cs) ≡ true
literals_each [] h = refl
literals_each (c ∷ cs) h = let w = and_parts (is_literal c) (list_all is_literal cs) h in and_from (is_literal c) _ w.0 (literals_each cs w.1)

literals_textual : (cs : List ℕ) → list_all is_textual (literals cs) ≡ true
literals_textual [] = refl
literals_textual (c ∷ cs) = literals_textual cs

abbrev pub close_mark : List ℕ
close_mark = 93 ∷ 93 ∷ 62 ∷ []

-- so many square brackets before the characters
abbrev behind_squares : ℕ → List ℕ → List ℕ
behind_squares zero cs = cs
behind_squares (suc n) cs = 93 ∷ behind_squares n cs

one_square : (n : ℕ) (cs : List ℕ) → behind_squares n (93 ∷ cs) ≡ 93 ∷ behind_squares n cs
one_square zero cs = refl
one_square (suc n) cs = ap (λ (x : List ℕ). 93 ∷ x) (one_square n cs)

more_squares : (n : ℕ) (cs : List ℕ) → behind_squares n (93 ∷ cs) ≡ behind_squares (n + 1) cs
more_squares n cs = one_square n cs ∙ ap (λ m. behind_squares m cs) (one_more n)
  where
    one_more : (n : ℕ) → suc n ≡ n + 1
    one_more n = omega arith

free_tail : (n : ℕ) (cs : List ℕ) → is_free close_mark (behind_squares n cs) ≡ true → is_free close_mark cs ≡ true
free_tail zero cs h = h
free_tail (suc n) cs h = free_tail n cs (and_parts _ (is_free close_mark (behind_squares n cs)) h).1

no_close : (n : ℕ) (cs : List ℕ) → is_free close_mark (behind_squares (suc (suc n)) (62 ∷ cs)) ≡ true → ⊥
no_close zero cs h = cc
no_close (suc n) cs h = no_close n cs (free_tail (suc zero) (behind_squares (suc (suc n)) (62 ∷ cs)) h)

not_closed : (n c : ℕ) (cs : List ℕ) → is_free close_mark (behind_squares n (c ∷ cs)) ≡ true → not (eqb c 62 && leb 2 n) ≡ true
not_closed n c cs h = elim (eqb c 62) as (λ b. eqb c 62 ≡ b → not (b && leb 2 n) ≡ true) [
  | false ↦ λ e. refl
  | true ↦ λ e. few n (ap (λ m. is_free close_mark (behind_squares n (m ∷ cs))) (sym (eqb-true c 62 e)) ∙ h)
] refl
  where
    few : (n : ℕ) → is_free close_mark (behind_squares n (62 ∷ cs)) ≡ true → not (leb 2 n) ≡ true
    few zero k = refl
    few (suc zero) k = refl
    few (suc (suc n)) k = absurd (no_close n cs k)

literals_whole : (n : ℕ) (cs : List ℕ) → is_free close_mark (behind_squares n cs) ≡ true → unbroken n (literals cs) ≡ true
literals_whole n [] h = refl
literals_whole n (c ∷ cs) h = elim (eqb c 93) as (λ b. eqb c 93 ≡ b → cond b (unbroken (n + 1) (literals cs)) (not (eqb c 62 && leb 2 n) && unbroken 0 (literals cs)) ≡ true) [
  | true ↦ λ e. literals_whole (n + 1) cs (ap (λ (x : List ℕ). is_free close_mark x) (sym (more_squares n cs)) ∙ ap (λ m. is_free close_mark (behind_squares n (m ∷ cs))) (sym (eqb-true c 93 e)) ∙ h)
  | false ↦ λ e. and_from _ _ (not_closed n c cs h) (literals_whole 0 cs (and_parts _ (is_free close_mark cs) (free_tail n (c ∷ cs) h)).1)
] refl

pub char_data : (bytes text : List ℕ) → SpellsCharData bytes text → SpellsRun bytes text
char_data bytes text s = (
  literals text,
  record {
    encoded = s.characters.encoded;
    each = literals_each text s.each;
    spelled_so = s.characters.spelled_so ∙ sym (literals_spelled text);
    whole = literals_whole 0 text s.free;
  },
  literals_textual text,
  literals_text text,
)

-- ---- markup

markup_textual : (t : Token) → is_markup t ≡ true → (is_textual t ≡ true) × (unbroken 0 (t ∷ []) ≡ true)
markup_textual (Data (Literal c)) h = absurd cc
markup_textual (Data (Reference body)) h = (refl, refl)
markup_textual (Section cs) h = (refl, refl)
markup_textual (Comment cs) h = (refl, refl)
markup_textual (Instruction name cs) h = (refl, refl)
markup_textual (Start empty name ws gap) h = absurd cc
markup_textual (Close name gap) h = absurd cc
markup_textual (Doctype gap name ext after) h = absurd cc

pub markup : (bytes text : List ℕ) → SpellsMarkup bytes text → SpellsRun bytes text
markup bytes text s =
    let w = markup_textual s.0 s.1 in
    (s.0 ∷ [], token_part bytes s.0 s.2 w.1, and_from (is_textual s.0) true w.0 refl, append-nil (characters_of s.0) ∙ sym s.3)

-- ---- one behind the other

pub text_append : (xs ys : List Token) → flat_map characters_of (xs ++ ys) ≡ flat_map characters_of xs ++ flat_map characters_of ys
text_append [] ys = refl
text_append (x ∷ xs) ys = ap (λ (r : List ℕ). characters_of x ++ r) (text_append xs ys) ∙ sym (append_assoc (characters_of x) (flat_map characters_of xs) (flat_map characters_of ys))

-- a square bracket that counts comes last
last_square : (xs : List Token) (d n : ℕ) → (eqb d 93 ≡ false → n ≡ 0) → eqb (last_or d (flat_map spelled xs)) 93 ≡ false → squares n xs ≡ 0
last_square [] d n h e = h e
last_square (Data (Literal c) ∷ ts) d n h e = last_square ts c (cond (eqb c 93) (n + 1) 0) (λ k. ap (λ b. cond b (n + 1) 0) k) e
last_square (Data (Reference body) ∷ ts) d n h e = last_square ts (last_or d (spelled (Data (Reference body)))) 0 (λ k. refl) (ap (λ m. eqb m 93) (sym (last_append d (spelled (Data (Reference body))) (flat_map spelled ts))) ∙ e)
last_square (Section cs ∷ ts) d n h e = last_square ts (last_or d (spelled (Section cs))) 0 (λ k. refl) (ap (λ m. eqb m 93) (sym (last_append d (spelled (Section cs)) (flat_map spelled ts))) ∙ e)
last_square (Comment cs ∷ ts) d n h e = last_square ts (last_or d (spelled (Comment cs))) 0 (λ k. refl) (ap (λ m. eqb m 93) (sym (last_append d (spelled (Comment cs)) (flat_map spelled ts))) ∙ e)
last_square (Instruction name cs ∷ ts) d n h e = last_square ts (last_or d (spelled (Instruction name cs))) 0 (λ k. refl) (ap (λ m. eqb m 93) (sym (last_append d (spelled (Instruction name cs)) (flat_map spelled ts))) ∙ e)
last_square (Start empty name ws gap ∷ ts) d n h e = last_square ts (last_or d (spelled (Start empty name ws gap))) 0 (λ k. refl) (ap (λ m. eqb m 93) (sym (last_append d (spelled (Start empty name ws gap)) (flat_map spelled ts))) ∙ e)
last_square (Close name gap ∷ ts) d n h e = last_square ts (last_or d (spelled (Close name gap))) 0 (λ k. refl) (ap (λ m. eqb m 93) (sym (last_append d (spelled (Close name gap)) (flat_map spelled ts))) ∙ e)
last_square (Doctype gap name ext after ∷ ts) d n h e = last_square ts (last_or d (spelled (Doctype gap name ext after))) 0 (λ k. refl) (ap (λ m. eqb m 93) (sym (last_append d (spelled (Doctype gap name ext after)) (flat_map spelled ts))) ∙ e)

-- `>` or `;` comes last
markup_last : (cs : List ℕ) (d : ℕ) → ends_markup cs ≡ true → (last_or d cs ≡ 62) ⊎ (last_or d cs ≡ 59)
markup_last [] d h = absurd cc
markup_last (c ∷ []) d h = elim (or_cases (eqb c 62) (eqb c 59) h) [ inl e ↦ inl (eqb-true c 62 e) | inr e ↦ inr (eqb-true c 59 e) ]
markup_last (c ∷ e ∷ cs) d h = markup_last (e ∷ cs) c h

-- a run that ends there
data Meeting (b : List ℕ) : Type 0 where
  Nothing : chars b ≡ [] → Meeting b
  Markup : (k : ℕ) → (r : List ℕ) → chars b ≡ k ∷ r → (k ≡ 60) ⊎ (k ≡ 38) → Meeting b

meeting : (b : List ℕ) → ends_run (chars b) ≡ true → Meeting b
meeting b h = from (chars b) refl h
  where
    mark : (c : ℕ) → cond (eqb c 60) true (eqb c 38) ≡ true → (c ≡ 60) ⊎ (c ≡ 38)
    mark c h = elim (eqb c 60) as (λ t. eqb c 60 ≡ t → cond t true (eqb c 38) ≡ true → (c ≡ 60) ⊎ (c ≡ 38)) [ true ↦ λ e k. inl (eqb-true c 60 e) | false ↦ λ e k. inr (eqb-true c 38 k) ] refl h

    from : (cs : List ℕ) → chars b ≡ cs → ends_run cs ≡ true → Meeting b
    from [] e h = Nothing e
    from (c ∷ cs) e h = Markup c cs e (mark c h)

pub joined_text : (a b text more : List ℕ) → SpellsRun a text → SpellsRun b more → IsTrue (ends_run (chars b) || ends_markup (with_line_feeds a)) → SpellsRun (a ++ b) (text ++ more)
joined_text a b text more s u h = elim (or_cases (ends_run (chars b)) (ends_markup (with_line_feeds a)) h) [
  | inl k ↦ elim (meeting b k) [
    | Nothing e ↦ joined (join_nothing a b s.0 u.0 s.1 u.1 e)
    | Markup k r e m ↦ joined (join_markup a b s.0 u.0 s.1 u.1 (k, r, e, m))
  ]
  | inr k ↦ elim (markup_last (with_line_feeds a) 0 k) [
    | inl e ↦ joined (behind (ap (λ n. eqb n 10) e) (ap (λ n. eqb n 93) e))
    | inr e ↦ joined (behind (ap (λ n. eqb n 10) e) (ap (λ n. eqb n 93) e))
  ]
]
  where
    joined : PartBy (a ++ b) (s.0 ++ u.0) → SpellsRun (a ++ b) (text ++ more)
    joined part = (s.0 ++ u.0, part, all_append is_textual s.0 u.0 s.2 u.2, text_append s.0 u.0 ∙ (λ i. s.3 i ++ u.3 i))

    behind : eqb (last_or 0 (with_line_feeds a)) 10 ≡ false → eqb (last_or 0 (with_line_feeds a)) 93 ≡ false → PartBy (a ++ b) (s.0 ++ u.0)
    behind feed square = part_join a b s.0 u.0 s.1 u.1 (ap (λ r. normal r (chars b)) (no_return (chars a) (with_line_feeds a) refl feed)) (ap (λ n. unbroken n u.0) (last_square s.0 0 0 (λ k. refl) (ap (λ (x : List ℕ). eqb (last_or 0 x) 93) (sym s.1.spelled_so) ∙ square)))

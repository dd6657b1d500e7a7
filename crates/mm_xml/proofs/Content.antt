-- A token of content that is read is the token that was spelled, and what was spelled is read again.
use Rattle.std.proofs.Common.{◌≡◌, ℕ, true, false, cond, List, [], ◌∷◌, ◌++◌, drop, Some, None, eqb, refl, sym, ap, subst, ◌∙◌, append_assoc, inl, inr}
use Rattle.std.specs.List.{list_all, flat_map}
use Rattle.std.proofs.lemmas.Bool.{eqb-true, and_parts, and_from}
use Rattle.mm_tree.specs.Characters.{is_space, is_name_start, is_name_char, is_name, is_short_name}
use Rattle.mm_xml.specs.Letters.{starts}
use Rattle.mm_xml.specs.Syntax.{Part, Literal, Reference, is_literal, spelled_written, Token, Data, Section, Comment, Instruction, Start, Close, Doctype, ending, is_token, spelled}
use Rattle.mm_xml.specs.Inside.Lexing.{◌>>=◌, Found, span, after, part_at, start_at, close_at, comment_at, section_at, instruction_at, two_dashes, section_start, doctype_start, doctype_at, marked_at, markup_at, token_at}
use Rattle.mm_xml.proofs.Spans.{taken, chosen, some, no, some_is, bind_some, span_whole, span_all, span_again, after_takes, starts_takes}
use Rattle.mm_xml.proofs.Parts.{part_takes, part_again}
use Rattle.mm_xml.specs.Facts.Characters.{short_chars}
use Rattle.mm_xml.proofs.Attributes.{not_space_stops, space_no_name}
use Rattle.mm_xml.proofs.DoctypeFacts.{doctype_takes, doctype_again}
use Rattle.mm_xml.proofs.Tags.{Takes, start_takes, start_again, comment_takes, comment_again, section_takes, section_again, instruction_takes, instruction_again}

close_takes : (cs : List ℕ) (x : Token × List ℕ) → close_at cs ≡ Some x → Takes (60 ∷ 47 ∷ cs) x
unfolding close_at
close_takes cs x e =
    let name = (span is_name_char cs).0 in
    let more = (span is_name_char cs).1 in
    let gap = (span is_space more).0 in
    let t = taken (is_short_name name) (after 62 (span is_space more).1 >>= λ r. Some (Close name gap, r)) x e in
    let b = bind_some (after 62 (span is_space more).1) (λ r. Some (Close name gap, r)) x t.1 in
    subst (λ (y : Token × List ℕ). Takes (60 ∷ 47 ∷ cs) y) (some_is _ x b.2) (record {
      is = and_from _ _ t.0 (span_all is_space more);
      parts = ap (λ (y : List ℕ). 60 ∷ 47 ∷ y) (sym (span_whole is_name_char cs)
          ∙ ap (λ (y : List ℕ). name ++ y) (sym (span_whole is_space more) ∙ ap (λ (y : List ℕ). gap ++ y) (after_takes 62 (span is_space more).1 b.0 b.1))
          ∙ group name gap (62 ∷ []) b.0);
    })
  where
    group : (a b c d : List ℕ) → a ++ (b ++ (c ++ d)) ≡ (a ++ (b ++ c)) ++ d
    group a b c d = simp append_assoc

abbrev close_rest : List ℕ × List ℕ → Found Token
close_rest y = cond (is_short_name y.0) (after 62 (span is_space y.1).1 >>= λ r. Some (Close y.0 (span is_space y.1).0, r)) None

close_again : (name gap rest : List ℕ) → is_token (Close name gap) ≡ true → close_at ((name ++ (gap ++ 62 ∷ [])) ++ rest) ≡ Some (Close name gap, rest)
unfolding close_at
close_again name gap rest h =
    let n = and_parts (is_short_name name) (list_all is_space gap) h in
    ap (λ (y : List ℕ). close_at y) (group name gap (62 ∷ []) rest)
    ∙ ap (λ (y : List ℕ × List ℕ). close_rest y) (span_again is_name_char name (gap ++ (62 ∷ rest)) (short_chars name n.0) (not_space_stops is_name_char gap 62 rest space_no_name n.1 refl))
    ∙ ap (λ b. cond b (after 62 (span is_space (gap ++ (62 ∷ rest))).1 >>= λ r. some (Close name (span is_space (gap ++ (62 ∷ rest))).0, r)) no) n.0
    ∙ ap (λ (y : List ℕ × List ℕ). after 62 y.1 >>= λ r. some (Close name y.0, r)) (span_again is_space gap (62 ∷ rest) n.1 refl)
  where
    group : (a b c d : List ℕ) → (a ++ (b ++ c)) ++ d ≡ a ++ (b ++ (c ++ d))
    group a b c d = simp append_assoc

marked_takes : (cs : List ℕ) (x : Token × List ℕ) → marked_at cs ≡ Some x → Takes (60 ∷ 33 ∷ cs) x
unfolding marked_at
marked_takes cs x e =
    elim (chosen (starts two_dashes cs) (comment_at (drop 2 cs)) (cond (starts section_start cs) (section_at (drop 7 cs)) (cond (starts doctype_start cs) (doctype_at (drop 7 cs)) no)) (Some x) e) [
      | inl w ↦ subst (λ (r : List ℕ). Takes (60 ∷ 33 ∷ r) x) (sym (starts_takes two_dashes cs w.0)) (comment_takes (drop 2 cs) x w.1)
      | inr w ↦ elim (chosen (starts section_start cs) (section_at (drop 7 cs)) (cond (starts doctype_start cs) (doctype_at (drop 7 cs)) no) (Some x) w.1) [
        | inl v ↦ subst (λ (r : List ℕ). Takes (60 ∷ 33 ∷ r) x) (sym (starts_takes section_start cs v.0)) (section_takes (drop 7 cs) x v.1)
        | inr v ↦
            let t = taken (starts doctype_start cs) (doctype_at (drop 7 cs)) x v.1 in
            subst (λ (r : List ℕ). Takes (60 ∷ 33 ∷ r) x) (sym (starts_takes doctype_start cs t.0)) (doctype_takes (drop 7 cs) x t.1)
      ]
    ]

markup_takes : (cs : List ℕ) (x : Token × List ℕ) → markup_at cs ≡ Some x → Takes (60 ∷ cs) x
unfolding markup_at
markup_takes [] x e = absurd cc
markup_takes (c ∷ cs) x e =
    elim (chosen (eqb c 47) (close_at cs) (cond (eqb c 33) (marked_at cs) (cond (eqb c 63) (instruction_at cs) (start_at (c ∷ cs)))) (Some x) e) [
      | inl w ↦ rw (eqb-true c 47 w.0) (close_takes cs x w.1)
      | inr w ↦ elim (chosen (eqb c 33) (marked_at cs) (cond (eqb c 63) (instruction_at cs) (start_at (c ∷ cs))) (Some x) w.1) [
        | inl v ↦ rw (eqb-true c 33 v.0) (marked_takes cs x v.1)
        | inr v ↦ elim (chosen (eqb c 63) (instruction_at cs) (start_at (c ∷ cs)) (Some x) v.1) [
          | inl u ↦ rw (eqb-true c 63 u.0) (instruction_takes cs x u.1)
          | inr u ↦ start_takes (c ∷ cs) x u.1
        ]
      ]
    ]

pub token_takes : (cs : List ℕ) (x : Token × List ℕ) → token_at cs ≡ Some x → Takes cs x
unfolding token_at
token_takes [] x e = absurd cc
token_takes (c ∷ cs) x e =
    elim (chosen (eqb c 60) (markup_at cs) (part_at (c ∷ cs) >>= λ x. Some (Data x.0, x.1)) (Some x) e) [
      | inl w ↦ rw (eqb-true c 60 w.0) (markup_takes cs x w.1)
      | inr w ↦
          let b = bind_some (part_at (c ∷ cs)) (λ x. Some (Data x.0, x.1)) x w.1 in
          let t = part_takes (c ∷ cs) b.0 b.1 in
          subst (λ (y : Token × List ℕ). Takes (c ∷ cs) y) (some_is _ x b.2) (record { is = t.is; parts = t.parts })
    ]

-- a start of a name is none of the characters that come first in the other markup
not_start : (c k : ℕ) → is_name_start c ≡ true → is_name_start k ≡ false → eqb c k ≡ false
not_start c k h n = elim (eqb c k) as (λ b. eqb c k ≡ b → b ≡ false) [ true ↦ λ e. absurd (differs c k (eqb-true c k e) h n) | false ↦ λ e. refl ] refl
  where
    differs : (c k : ℕ) → c ≡ k → is_name_start c ≡ true → is_name_start k ≡ false → ⊥
    differs c k e h n = let z : is_name_start k ≡ true = subst (λ (m : ℕ). is_name_start m ≡ true) e h in cc

markup_start : (name tail : List ℕ) → is_short_name name ≡ true → markup_at (name ++ tail) ≡ start_at (name ++ tail)
unfolding markup_at
markup_start [] tail h = absurd cc
markup_start (c ∷ cs) tail h =
    let n = and_parts (is_name (c ∷ cs)) _ h in
    let w = and_parts (is_name_start c) (list_all is_name_char cs) n.0 in
    rw (not_start c 47 w.0 refl, not_start c 33 w.0 refl, not_start c 63 w.0 refl) refl

not_open : (c : ℕ) → is_literal c ≡ true → eqb c 60 ≡ false
not_open c h = elim (eqb c 60) as (λ b. eqb c 60 ≡ b → b ≡ false) [ true ↦ λ e. absurd (less c (eqb-true c 60 e) h) | false ↦ λ e. refl ] refl
  where
    less : (c : ℕ) → c ≡ 60 → is_literal c ≡ true → ⊥
    less c e h = let k : is_literal 60 ≡ true = subst (λ (n : ℕ). is_literal n ≡ true) e h in cc

pub token_again : (t : Token) (rest : List ℕ) → is_token t ≡ true → token_at (spelled t ++ rest) ≡ Some (t, rest)
unfolding token_at markup_at marked_at
token_again (Data (Literal c)) rest h =
    ap (λ b. cond b (markup_at rest) (part_at (c ∷ rest) >>= λ x. some (Data x.0, x.1))) (not_open c h)
    ∙ ap (λ (o : Found Part). o >>= λ x. some (Data x.0, x.1)) (part_again (Literal c) rest h)
token_again (Data (Reference body)) rest h = ap (λ (o : Found Part). o >>= λ x. some (Data x.0, x.1)) (part_again (Reference body) rest h)
token_again (Section body) rest h = section_again body rest h
token_again (Comment body) rest h = comment_again body rest h
token_again (Instruction name body) rest h = instruction_again name body rest h
token_again (Start e name ws gap) rest h =
    ap (λ (y : List ℕ). markup_at y) (append_assoc name (flat_map spelled_written ws ++ (gap ++ ending e)) rest)
    ∙ markup_start name ((flat_map spelled_written ws ++ (gap ++ ending e)) ++ rest) (and_parts (is_short_name name) _ h).0
    ∙ ap (λ (y : List ℕ). start_at y) (sym (append_assoc name (flat_map spelled_written ws ++ (gap ++ ending e)) rest))
    ∙ start_again e name ws gap rest h
token_again (Close name gap) rest h = close_again name gap rest h
token_again (Doctype gap name ext after) rest h = doctype_again gap name ext after rest h

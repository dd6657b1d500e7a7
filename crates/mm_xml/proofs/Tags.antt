-- Tags, comments, instructions and sections are read as they are spelled.
use Rattle.std.proofs.Common.{◌≡◌, ℕ, Bool, true, false, cond, ◌&&◌, List, [], ◌∷◌, ◌++◌, length, Some, None, eqb, not, refl, sym, ap, subst, ◌∙◌, append_assoc, arith, inl, inr}
use Rattle.std.specs.Prelude.{map}
use Rattle.std.specs.List.{list_all, flat_map}
use Rattle.std.proofs.lemmas.Bool.{eqb-true, and_parts, and_from}
use Rattle.std.proofs.lemmas.List.{length-append}
use Rattle.mm_tree.specs.Characters.{is_char, is_space, is_name_char, is_name, is_short_name}
use Rattle.mm_xml.specs.Letters.{is_gap, is_free}
use Rattle.mm_xml.specs.Syntax.{Written, is_written, spelled_written, differ, attribute_of, ending, Token, Section, Comment, Instruction, Start, is_token, spelled, is_rest, is_reserved}
use Rattle.mm_xml.specs.Inside.Lexing.{◌>>=◌, Found, span, up_to, after, ending_at, starts_name, attributes_at, start_end_at, start_at, comment_at, section_at, instruction_at}
use Rattle.mm_xml.proofs.Spans.{taken, chosen, some, no, some_is, bind_some, span_whole, span_all, span_again, after_takes, Stops, up_to_takes, up_to_again}
use Rattle.mm_xml.specs.Facts.Characters.{name_chars, short_chars}
use Rattle.mm_xml.proofs.Attributes.{attributes_take, attributes_again, attributes_len, space_no_name, not_space_stops}

-- what is read is a token that is spelled so
pub record Takes (cs : List ℕ) (x : Token × List ℕ) : Type 0 where
  pub is : is_token x.0 ≡ true
  pub parts : cs ≡ spelled x.0 ++ x.1

ending_takes : (cs : List ℕ) (x : Bool × List ℕ) → ending_at cs ≡ Some x → cs ≡ ending x.0 ++ x.1
ending_takes [] x e = absurd cc
ending_takes (c ∷ cs) x e =
    elim (chosen (eqb c 62) (some (false, cs)) (cond (eqb c 47) (after 62 cs >>= λ r. Some (true, r)) no) (Some x) e) [
      | inl w ↦ rw (eqb-true c 62 w.0) (ap (λ (y : Bool × List ℕ). ending y.0 ++ y.1) (some_is (false, cs) x w.1))
      | inr w ↦
          let t = taken (eqb c 47) (after 62 cs >>= λ r. Some (true, r)) x w.1 in
          let b = bind_some (after 62 cs) (λ r. Some (true, r)) x t.1 in
          rw (eqb-true c 47 t.0) (ap (λ (y : List ℕ). 47 ∷ y) (after_takes 62 cs b.0 b.1) ∙ ap (λ (y : Bool × List ℕ). ending y.0 ++ y.1) (some_is (true, b.0) x b.2))
    ]

start_group : (name ws gap e r : List ℕ) → name ++ (ws ++ (gap ++ (e ++ r))) ≡ (name ++ (ws ++ (gap ++ e))) ++ r
start_group name ws gap e r = simp append_assoc

pub start_takes : (cs : List ℕ) (x : Token × List ℕ) → start_at cs ≡ Some x → Takes (60 ∷ cs) x
unfolding start_at
start_takes cs x e =
    let name = (span is_name_char cs).0 in
    let more = (span is_name_char cs).1 in
    let t = taken (is_short_name name) (attributes_at (length more) more >>= λ y. start_end_at name y.0 y.1) x e in
    let a = bind_some (attributes_at (length more) more) (λ y. start_end_at name y.0 y.1) x t.1 in
    let ws = a.0.0 in
    let rest = a.0.1 in
    let gap = (span is_space rest).0 in
    let f = attributes_take (length more) more a.0 a.1 in
    let d = taken (differ (map attribute_of ws)) (ending_at (span is_space rest).1 >>= λ x. Some (Start x.0 name ws gap, x.1)) x a.2 in
    let b = bind_some (ending_at (span is_space rest).1) (λ x. Some (Start x.0 name ws gap, x.1)) x d.1 in
    subst (λ (y : Token × List ℕ). Takes (60 ∷ cs) y) (some_is _ x b.2) (record {
      is = and_from _ _ t.0 (and_from _ _ f.each (and_from _ _ d.0 (span_all is_space rest)));
      parts = ap (λ (y : List ℕ). 60 ∷ y) (sym (span_whole is_name_char cs)
          ∙ ap (λ (y : List ℕ). name ++ y) (f.parts ∙ ap (λ (y : List ℕ). flat_map spelled_written ws ++ y) (sym (span_whole is_space rest) ∙ ap (λ (y : List ℕ). gap ++ y) (ending_takes (span is_space rest).1 b.0 b.1)))
          ∙ start_group name (flat_map spelled_written ws) gap (ending b.0.0) b.0.1);
    })

-- nothing of a tag goes on the white space before its end
ending_stops : (e : Bool) (rest : List ℕ) → Stops is_space (ending e ++ rest)
ending_stops true rest = refl
ending_stops false rest = refl

ending_no_name : (e : Bool) (rest : List ℕ) → starts_name (ending e ++ rest) ≡ false
ending_no_name true rest = refl
ending_no_name false rest = refl

ending_again : (e : Bool) (rest : List ℕ) → ending_at (ending e ++ rest) ≡ Some (e, rest)
ending_again true rest = refl
ending_again false rest = refl

gap_stops : (gap : List ℕ) (e : Bool) (rest : List ℕ) → list_all is_space gap ≡ true → Stops is_name_char (gap ++ (ending e ++ rest))
gap_stops gap true rest h = not_space_stops is_name_char gap 47 (62 ∷ rest) space_no_name h refl
gap_stops gap false rest h = not_space_stops is_name_char gap 62 rest space_no_name h refl

written_stops : (ws : List Written) (tail : List ℕ) → list_all is_written ws ≡ true → Stops is_name_char tail → Stops is_name_char (flat_map spelled_written ws ++ tail)
written_stops [] tail each stop = stop
written_stops (w ∷ ws) tail each stop = first w.gap _ (flat_map spelled_written ws) tail (and_parts (is_gap w.gap) _ (and_parts (is_written w) (list_all is_written ws) each).0).0
  where
    first : (g x more tail : List ℕ) → is_gap g ≡ true → Stops is_name_char (((g ++ x) ++ more) ++ tail)
    first [] x more tail h = absurd cc
    first (g ∷ gs) x more tail h = space_no_name g (and_parts (is_space g) (list_all is_space gs) h).0

abbrev start_rest : List ℕ × List ℕ → Found Token
start_rest y = cond (is_short_name y.0) (attributes_at (length y.1) y.1 >>= λ z. start_end_at y.0 z.0 z.1) None

abbrev start_last : List ℕ → List Written → List ℕ × List ℕ → Found Token
start_last name ws y = ending_at y.1 >>= λ x. Some (Start x.0 name ws y.0, x.1)

pub start_again : (e : Bool) (name : List ℕ) (ws : List Written) (gap rest : List ℕ) → is_token (Start e name ws gap) ≡ true
    → start_at ((name ++ (flat_map spelled_written ws ++ (gap ++ ending e))) ++ rest) ≡ Some (Start e name ws gap, rest)
unfolding start_at
start_again e name ws gap rest h =
    let n = and_parts (is_short_name name) _ h in
    let a = and_parts (list_all is_written ws) _ n.1 in
    let d = and_parts (differ (map attribute_of ws)) (list_all is_space gap) a.1 in
    let tail = gap ++ (ending e ++ rest) in
    let more = flat_map spelled_written ws ++ tail in
    let closing : span is_space tail ≡ (gap, ending e ++ rest) = span_again is_space gap (ending e ++ rest) d.1 (ending_stops e rest) in
    let stop : starts_name (span is_space tail).1 ≡ false = ap (λ (y : List ℕ × List ℕ). starts_name y.1) closing ∙ ending_no_name e rest in
    ap (λ (y : List ℕ). start_at y) (sym (start_group name (flat_map spelled_written ws) gap (ending e) rest))
    ∙ ap (λ (y : List ℕ × List ℕ). start_rest y) (span_again is_name_char name more (short_chars name n.0) (written_stops ws tail a.0 (gap_stops gap e rest d.1)))
    ∙ ap (λ b. cond b (attributes_at (length more) more >>= λ z. start_end_at name z.0 z.1) no) n.0
    ∙ ap (λ (o : Found (List Written)). o >>= λ z. start_end_at name z.0 z.1) (attributes_again (length more) ws tail a.0 stop (omega (arith, attributes_len ws a.0, length-append (flat_map spelled_written ws) tail)))
    ∙ ap (λ b. cond b (start_last name ws (span is_space tail)) no) d.0
    ∙ ap (λ (y : List ℕ × List ℕ). start_last name ws y) closing
    ∙ ap (λ (o : Found Bool). o >>= λ x. some (Start x.0 name ws gap, x.1)) (ending_again e rest)

-- ---- terminators of several characters

pub comment_takes : (cs : List ℕ) (x : Token × List ℕ) → comment_at cs ≡ Some x → Takes (60 ∷ 33 ∷ 45 ∷ 45 ∷ cs) x
unfolding comment_at
comment_takes cs x e =
    let a = bind_some (up_to (45 ∷ 45 ∷ []) cs) (λ x. cond (list_all is_char x.0) (after 62 x.1 >>= λ r. Some (Comment x.0, r)) None) x e in
    let u = up_to_takes (45 ∷ 45 ∷ []) cs a.0 a.1 in
    let t = taken (list_all is_char a.0.0) (after 62 a.0.1 >>= λ r. Some (Comment a.0.0, r)) x a.2 in
    let b = bind_some (after 62 a.0.1) (λ r. Some (Comment a.0.0, r)) x t.1 in
    subst (λ (y : Token × List ℕ). Takes (60 ∷ 33 ∷ 45 ∷ 45 ∷ cs) y) (some_is _ x b.2) (record {
      is = and_from _ _ t.0 u.free;
      parts = ap (λ (y : List ℕ). 60 ∷ 33 ∷ 45 ∷ 45 ∷ y) (u.parts ∙ ap (λ (y : List ℕ). a.0.0 ++ (45 ∷ 45 ∷ y)) (after_takes 62 a.0.1 b.0 b.1) ∙ sym (append_assoc a.0.0 (45 ∷ 45 ∷ 62 ∷ []) b.0));
    })

pub comment_again : (body rest : List ℕ) → is_token (Comment body) ≡ true → comment_at ((body ++ 45 ∷ 45 ∷ 62 ∷ []) ++ rest) ≡ Some (Comment body, rest)
unfolding comment_at
comment_again body rest h =
    let w = and_parts (list_all is_char body) (is_free (45 ∷ 45 ∷ []) body) h in
    ap (λ (o : Found (List ℕ)). o >>= λ x. cond (list_all is_char x.0) (after 62 x.1 >>= λ r. some (Comment x.0, r)) no)
    (ap (λ (y : List ℕ). up_to (45 ∷ 45 ∷ []) y) (append_assoc body (45 ∷ 45 ∷ 62 ∷ []) rest) ∙ up_to_again (45 ∷ 45 ∷ []) body (62 ∷ rest) 45 (45 ∷ []) refl w.1)
    ∙ ap (λ b. cond b (some (Comment body, rest)) no) w.0

pub section_takes : (cs : List ℕ) (x : Token × List ℕ) → section_at cs ≡ Some x → Takes (60 ∷ 33 ∷ 91 ∷ 67 ∷ 68 ∷ 65 ∷ 84 ∷ 65 ∷ 91 ∷ cs) x
unfolding section_at
section_takes cs x e =
    let a = bind_some (up_to (93 ∷ 93 ∷ 62 ∷ []) cs) (λ x. cond (list_all is_char x.0) (Some (Section x.0, x.1)) None) x e in
    let u = up_to_takes (93 ∷ 93 ∷ 62 ∷ []) cs a.0 a.1 in
    let t = taken (list_all is_char a.0.0) (Some (Section a.0.0, a.0.1)) x a.2 in
    subst (λ (y : Token × List ℕ). Takes (60 ∷ 33 ∷ 91 ∷ 67 ∷ 68 ∷ 65 ∷ 84 ∷ 65 ∷ 91 ∷ cs) y) (some_is _ x t.1) (record {
      is = and_from _ _ t.0 u.free;
      parts = ap (λ (y : List ℕ). 60 ∷ 33 ∷ 91 ∷ 67 ∷ 68 ∷ 65 ∷ 84 ∷ 65 ∷ 91 ∷ y) (u.parts ∙ sym (append_assoc a.0.0 (93 ∷ 93 ∷ 62 ∷ []) a.0.1));
    })

pub section_again : (body rest : List ℕ) → is_token (Section body) ≡ true → section_at ((body ++ 93 ∷ 93 ∷ 62 ∷ []) ++ rest) ≡ Some (Section body, rest)
unfolding section_at
section_again body rest h =
    let w = and_parts (list_all is_char body) (is_free (93 ∷ 93 ∷ 62 ∷ []) body) h in
    ap (λ (o : Found (List ℕ)). o >>= λ x. cond (list_all is_char x.0) (some (Section x.0, x.1)) no)
    (ap (λ (y : List ℕ). up_to (93 ∷ 93 ∷ 62 ∷ []) y) (append_assoc body (93 ∷ 93 ∷ 62 ∷ []) rest) ∙ up_to_again (93 ∷ 93 ∷ 62 ∷ []) body rest 93 (93 ∷ 62 ∷ []) refl w.1)
    ∙ ap (λ b. cond b (some (Section body, rest)) no) w.0

pub instruction_takes : (cs : List ℕ) (x : Token × List ℕ) → instruction_at cs ≡ Some x → Takes (60 ∷ 63 ∷ cs) x
unfolding instruction_at
instruction_takes cs x e =
    let name = (span is_name_char cs).0 in
    let more = (span is_name_char cs).1 in
    let t = taken (is_name name && not (is_reserved name)) (up_to (63 ∷ 62 ∷ []) more >>= λ x. cond (is_rest x.0) (Some (Instruction name x.0, x.1)) None) x e in
    let n = and_parts (is_name name) (not (is_reserved name)) t.0 in
    let a = bind_some (up_to (63 ∷ 62 ∷ []) more) (λ x. cond (is_rest x.0) (Some (Instruction name x.0, x.1)) None) x t.1 in
    let u = up_to_takes (63 ∷ 62 ∷ []) more a.0 a.1 in
    let r = taken (is_rest a.0.0) (Some (Instruction name a.0.0, a.0.1)) x a.2 in
    subst (λ (y : Token × List ℕ). Takes (60 ∷ 63 ∷ cs) y) (some_is _ x r.1) (record {
      is = and_from _ _ n.0 (and_from _ _ n.1 (and_from _ _ r.0 u.free));
      parts = ap (λ (y : List ℕ). 60 ∷ 63 ∷ y) (sym (span_whole is_name_char cs) ∙ ap (λ (y : List ℕ). name ++ y) u.parts ∙ group name a.0.0 (63 ∷ 62 ∷ []) a.0.1);
    })
  where
    group : (a b c d : List ℕ) → a ++ (b ++ (c ++ d)) ≡ (a ++ (b ++ c)) ++ d
    group a b c d = simp append_assoc

-- a name goes no further where white space or `?` follows
rest_stops : (body rest : List ℕ) → is_rest body ≡ true → Stops is_name_char (body ++ (63 ∷ 62 ∷ rest))
rest_stops [] rest h = refl
rest_stops (c ∷ cs) rest h = space_no_name c (and_parts (is_space c) (list_all is_char cs) h).0

abbrev pub instruction_rest : List ℕ × List ℕ → Found Token
instruction_rest y = cond (is_name y.0 && not (is_reserved y.0)) (up_to (63 ∷ 62 ∷ []) y.1 >>= λ x. cond (is_rest x.0) (Some (Instruction y.0 x.0, x.1)) None) None

pub instruction_again : (name body rest : List ℕ) → is_token (Instruction name body) ≡ true → instruction_at ((name ++ (body ++ 63 ∷ 62 ∷ [])) ++ rest) ≡ Some (Instruction name body, rest)
unfolding instruction_at
instruction_again name body rest h =
    let n = and_parts (is_name name) _ h in
    let r = and_parts (not (is_reserved name)) _ n.1 in
    let f = and_parts (is_rest body) (is_free (63 ∷ 62 ∷ []) body) r.1 in
    ap (λ (y : List ℕ). instruction_at y) (group name body (63 ∷ 62 ∷ []) rest)
    ∙ ap (λ (y : List ℕ × List ℕ). instruction_rest y) (span_again is_name_char name (body ++ (63 ∷ 62 ∷ rest)) (name_chars name n.0) (rest_stops body rest f.0))
    ∙ ap (λ b. cond b (up_to (63 ∷ 62 ∷ []) (body ++ (63 ∷ 62 ∷ rest)) >>= λ x. cond (is_rest x.0) (some (Instruction name x.0, x.1)) no) no) (and_from _ _ n.0 r.0)
    ∙ ap (λ (o : Found (List ℕ)). o >>= λ x. cond (is_rest x.0) (some (Instruction name x.0, x.1)) no) (up_to_again (63 ∷ 62 ∷ []) body rest 63 (62 ∷ []) refl f.1)
    ∙ ap (λ b. cond b (some (Instruction name body, rest)) no) f.0
  where
    group : (a b c d : List ℕ) → (a ++ (b ++ c)) ++ d ≡ a ++ (b ++ (c ++ d))
    group a b c d = simp append_assoc

-- Attributes and tags are read as they are spelled.
use Rattle.std.proofs.Common.{◌≡◌, ℕ, zero, suc, ◌≤◌, Bool, true, false, cond, List, [], ◌∷◌, ◌++◌, length, Some, None, eqb, refl, sym, ap, subst, ◌∙◌, append_assoc, arith, inl, inr}
use Rattle.std.specs.List.{list_all, flat_map}
use Rattle.std.proofs.lemmas.Bool.{eqb-true, and_parts, and_from}
use Rattle.std.proofs.lemmas.List.{length-append}
use Rattle.mm_tree.specs.Characters.{is_space, is_name_start, is_name_char, is_name, is_short_name}
use Rattle.mm_xml.specs.Letters.{is_gap}
use Rattle.mm_xml.specs.Syntax.{Part, is_quote, spelled_part, is_within, Written, is_written, spelled_written}
use Rattle.mm_xml.specs.Facts.Characters.{start_is, short_chars}
use Rattle.mm_xml.specs.Inside.Lexing.{◌>>=◌, Found, span, after, parts_at, value_at, written_at, starts_name, attributes_at}
use Rattle.mm_xml.proofs.Spans.{taken, chosen, some, no, some_is, bind_some, span_whole, span_all, span_again, after_takes, Stops}
use Rattle.mm_xml.proofs.Parts.{parts_take, parts_again, parts_len}

-- ---- values

pub record ValueTakes (cs : List ℕ) (x : (ℕ × List Part) × List ℕ) : Type 0 where
  pub quote : is_quote x.0.0 ≡ true
  pub each : list_all (is_within x.0.0) x.0.1 ≡ true
  pub parts : cs ≡ x.0.0 ∷ (flat_map spelled_part x.0.1 ++ (x.0.0 ∷ x.1))

pub value_takes : (cs : List ℕ) (x : (ℕ × List Part) × List ℕ) → value_at cs ≡ Some x → ValueTakes cs x
unfolding value_at
value_takes [] x e = absurd cc
value_takes (q ∷ cs) x e =
    let t = taken (is_quote q) (parts_at (length cs) q cs >>= λ x. Some ((q, x.0), x.1)) x e in
    let b = bind_some (parts_at (length cs) q cs) (λ x. Some ((q, x.0), x.1)) x t.1 in
    let m = parts_take (length cs) q cs b.0 b.1 in
    subst (λ (y : (ℕ × List Part) × List ℕ). ValueTakes (q ∷ cs) y) (some_is _ x b.2) (record { quote = t.0; each = m.each; parts = ap (λ (y : List ℕ). q ∷ y) m.parts })

pub value_again : (q : ℕ) (ps : List Part) (rest : List ℕ) → is_quote q ≡ true → list_all (is_within q) ps ≡ true → value_at (q ∷ (flat_map spelled_part ps ++ (q ∷ rest))) ≡ Some ((q, ps), rest)
unfolding value_at
value_again q ps rest qu each =
    let m = parts_again (length (flat_map spelled_part ps ++ (q ∷ rest))) q ps rest qu each (omega (arith, parts_len ps, length-append (flat_map spelled_part ps) (q ∷ rest))) in
    rw qu (ap (λ (o : Found (List Part)). o >>= λ x. some ((q, x.0), x.1)) m)

-- ---- attributes

pub record WrittenTakes (gap cs : List ℕ) (x : Written × List ℕ) : Type 0 where
  pub is : is_written x.0 ≡ true
  pub parts : gap ++ cs ≡ spelled_written x.0 ++ x.1

regroup : (g n b a v r : List ℕ) (q : ℕ) → g ++ (n ++ (b ++ (61 ∷ (a ++ (q ∷ (v ++ (q ∷ r))))))) ≡ (g ++ (n ++ (b ++ (61 ∷ (a ++ (q ∷ (v ++ q ∷ []))))))) ++ r
regroup g n b a v r q = simp append_assoc

pub written_takes : (gap cs : List ℕ) (x : Written × List ℕ) → is_gap gap ≡ true → written_at gap cs ≡ Some x → WrittenTakes gap cs x
unfolding written_at
written_takes gap cs x g e =
    let name = (span is_name_char cs).0 in
    let more = (span is_name_char cs).1 in
    let before = (span is_space more).0 in
    let make : List ℕ → (ℕ × List Part) × List ℕ → Written × List ℕ = λ r v. (record { gap = gap; name = name; before = before; after = (span is_space r).0; quote = v.0.0; parts = v.0.1 }, v.1) in
    let t = taken (is_short_name name) (after 61 (span is_space more).1 >>= λ r. value_at (span is_space r).1 >>= λ v. Some (make r v)) x e in
    let a = bind_some (after 61 (span is_space more).1) (λ r. value_at (span is_space r).1 >>= λ v. Some (make r v)) x t.1 in
    let b = bind_some (value_at (span is_space a.0).1) (λ v. Some (make a.0 v)) x a.2 in
    let v = value_takes (span is_space a.0).1 b.0 b.1 in
    let spaces = (span is_space a.0).0 in
    subst (λ (y : Written × List ℕ). WrittenTakes gap cs y) (some_is (make a.0 b.0) x b.2) (record {
      is = and_from _ _ g (and_from _ _ t.0 (and_from _ _ (span_all is_space more) (and_from _ _ (span_all is_space a.0) (and_from _ _ v.quote v.each))));
      parts =
          ap (λ (y : List ℕ). gap ++ y) (sym (span_whole is_name_char cs)
          ∙ ap (λ (y : List ℕ). name ++ y) (sym (span_whole is_space more)
          ∙ ap (λ (y : List ℕ). before ++ y) (after_takes 61 (span is_space more).1 a.0 a.1
          ∙ ap (λ (y : List ℕ). 61 ∷ y) (sym (span_whole is_space a.0) ∙ ap (λ (y : List ℕ). spaces ++ y) v.parts))))
          ∙ regroup gap name before spaces (flat_map spelled_part b.0.0.1) b.0.1 b.0.0.0;
    })

-- what may not go on a name, and what may not go on white space
pub not_space_stops : (p : ℕ → Bool) (xs : List ℕ) (c : ℕ) (cs : List ℕ) → ((d : ℕ) → is_space d ≡ true → p d ≡ false) → list_all is_space xs ≡ true → p c ≡ false → Stops p (xs ++ (c ∷ cs))
not_space_stops p [] c cs no_space h f = f
not_space_stops p (x ∷ xs) c cs no_space h f = no_space x (and_parts (is_space x) (list_all is_space xs) h).0

pub space_no_name : (d : ℕ) → is_space d ≡ true → is_name_char d ≡ false
space_no_name d h =
    elim (eqb d 32) as (λ b. eqb d 32 ≡ b → is_name_char d ≡ false) [
      | true ↦ λ e. ap is_name_char (eqb-true d 32 e)
      | false ↦ λ e. elim (eqb d 9) as (λ b. eqb d 9 ≡ b → is_name_char d ≡ false) [
        | true ↦ λ f. ap is_name_char (eqb-true d 9 f)
        | false ↦ λ f. elim (eqb d 13) as (λ b. eqb d 13 ≡ b → is_name_char d ≡ false) [
          | true ↦ λ g. ap is_name_char (eqb-true d 13 g)
          | false ↦ λ g. elim (eqb d 10) as (λ b. eqb d 10 ≡ b → is_name_char d ≡ false) [
            | true ↦ λ k. ap is_name_char (eqb-true d 10 k)
            | false ↦ λ k. let z : is_space d ≡ false = rw (e, f, g, k) refl in absurd cc
          ] refl
        ] refl
      ] refl
    ] refl

pub name_char_no_space : (d : ℕ) → is_name_char d ≡ true → is_space d ≡ false
name_char_no_space d h = elim (is_space d) as (λ b. is_space d ≡ b → b ≡ false) [ true ↦ λ e. let z = space_no_name d e in absurd cc | false ↦ λ e. refl ] refl

pub quote_no_space : (q : ℕ) → is_quote q ≡ true → is_space q ≡ false
quote_no_space q h =
    elim (eqb q 34) as (λ b. eqb q 34 ≡ b → is_space q ≡ false) [
      | true ↦ λ e. ap is_space (eqb-true q 34 e)
      | false ↦ λ e. elim (eqb q 39) as (λ b. eqb q 39 ≡ b → is_space q ≡ false) [
        | true ↦ λ f. ap is_space (eqb-true q 39 f)
        | false ↦ λ f. let z : is_quote q ≡ false = rw (e, f) refl in absurd cc
      ] refl
    ] refl

-- an attribute from its name on, and what comes after it
abbrev from_name : Written → List ℕ → List ℕ
from_name a rest = a.name ++ (a.before ++ (61 ∷ (a.after ++ (a.quote ∷ (flat_map spelled_part a.parts ++ (a.quote ∷ rest))))))

abbrev after_value : List ℕ → List ℕ → List ℕ → List ℕ → (ℕ × List Part) × List ℕ → Found Written
after_value gap name before spaces v = Some (record { gap = gap; name = name; before = before; after = spaces; quote = v.0.0; parts = v.0.1 }, v.1)

abbrev after_equals : List ℕ → List ℕ → List ℕ → List ℕ × List ℕ → Found Written
after_equals gap name before z = value_at z.1 >>= λ v. after_value gap name before z.0 v

abbrev after_before : List ℕ → List ℕ → List ℕ × List ℕ → Found Written
after_before gap name z = after 61 z.1 >>= λ r. after_equals gap name z.0 (span is_space r)

abbrev after_name : List ℕ → List ℕ × List ℕ → Found Written
after_name gap y = cond (is_short_name y.0) (after_before gap y.0 (span is_space y.1)) None

pub record IsWritten (a : Written) : Type 0 where
  pub gap : is_gap a.gap ≡ true
  pub name : is_short_name a.name ≡ true
  pub before : list_all is_space a.before ≡ true
  pub after : list_all is_space a.after ≡ true
  pub quote : is_quote a.quote ≡ true
  pub parts : list_all (is_within a.quote) a.parts ≡ true

pub written_facts : (a : Written) → is_written a ≡ true → IsWritten a
written_facts a h =
    let g = and_parts (is_gap a.gap) _ h in
    let n = and_parts (is_short_name a.name) _ g.1 in
    let b = and_parts (list_all is_space a.before) _ n.1 in
    let s = and_parts (list_all is_space a.after) _ b.1 in
    let q = and_parts (is_quote a.quote) (list_all (is_within a.quote) a.parts) s.1 in
    record { gap = g.0; name = n.0; before = b.0; after = s.0; quote = q.0; parts = q.1 }

pub written_again : (a : Written) (rest : List ℕ) → is_written a ≡ true → written_at a.gap (from_name a rest) ≡ Some (a, rest)
unfolding written_at
written_again a rest h =
    let f = written_facts a h in
    let value = a.quote ∷ (flat_map spelled_part a.parts ++ (a.quote ∷ rest)) in
    ap (λ (y : List ℕ × List ℕ). after_name a.gap y) (span_again is_name_char a.name (a.before ++ (61 ∷ (a.after ++ value))) (short_chars a.name f.name) (not_space_stops is_name_char a.before 61 (a.after ++ value) space_no_name f.before refl))
    ∙ ap (λ b. cond b (after_before a.gap a.name (span is_space (a.before ++ (61 ∷ (a.after ++ value))))) no) f.name
    ∙ ap (λ (z : List ℕ × List ℕ). after_before a.gap a.name z) (span_again is_space a.before (61 ∷ (a.after ++ value)) f.before refl)
    ∙ ap (λ (z : List ℕ × List ℕ). after_equals a.gap a.name a.before z) (span_again is_space a.after value f.after (quote_no_space a.quote f.quote))
    ∙ ap (λ (o : Found (ℕ × List Part)). o >>= λ v. after_value a.gap a.name a.before a.after v) (value_again a.quote a.parts rest f.quote f.parts)

-- ---- lists of attributes

pub record AttributesTake (cs : List ℕ) (x : List Written × List ℕ) : Type 0 where
  pub each : list_all is_written x.0 ≡ true
  pub parts : cs ≡ flat_map spelled_written x.0 ++ x.1

abbrev one_more : ℕ → (Written × List ℕ) → Found (List Written)
one_more n w = attributes_at n w.1 >>= λ y. Some (w.0 ∷ y.0, y.1)

pub attributes_take : (n : ℕ) (cs : List ℕ) (x : List Written × List ℕ) → attributes_at n cs ≡ Some x → AttributesTake cs x
attributes_take zero cs x e = subst (λ (y : List Written × List ℕ). AttributesTake cs y) (some_is ([], cs) x e) (record { each = refl; parts = refl })
attributes_take (suc n) cs x e =
    let gap = (span is_space cs).0 in
    let more = (span is_space cs).1 in
    elim (chosen (starts_name more) (cond (is_gap gap) (written_at gap more >>= λ w. one_more n w) no) (some ([], cs)) (Some x) e) [
      | inr w ↦ subst (λ (y : List Written × List ℕ). AttributesTake cs y) (some_is ([], cs) x w.1) (record { each = refl; parts = refl })
      | inl w ↦
          let t = taken (is_gap gap) (written_at gap more >>= λ w. one_more n w) x w.1 in
          let a = bind_some (written_at gap more) (λ w. one_more n w) x t.1 in
          let b = bind_some (attributes_at n a.0.1) (λ y. Some (a.0.0 ∷ y.0, y.1)) x a.2 in
          let f = written_takes gap more a.0 t.0 a.1 in
          let m = attributes_take n a.0.1 b.0 b.1 in
          subst (λ (y : List Written × List ℕ). AttributesTake cs y) (some_is _ x b.2) (record {
            each = and_from _ _ f.is m.each;
            parts = sym (span_whole is_space cs) ∙ f.parts ∙ ap (λ (y : List ℕ). spelled_written a.0.0 ++ y) m.parts ∙ sym (append_assoc (spelled_written a.0.0) (flat_map spelled_written b.0.0) b.0.1);
          })
    ]

pub record NameFirst (name : List ℕ) : Type 0 where
  pub first : (rest : List ℕ) → starts_name (name ++ rest) ≡ true
  pub no_space : (rest : List ℕ) → Stops is_space (name ++ rest)

pub name_first : (name : List ℕ) → is_short_name name ≡ true → NameFirst name
name_first [] h = absurd cc
name_first (c ∷ cs) h =
    let n = and_parts (is_name (c ∷ cs)) _ h in
    let w = and_parts (is_name_start c) (list_all is_name_char cs) n.0 in
    record { first = λ rest. w.0; no_space = λ rest. name_char_no_space c (start_is c w.0) }

pub gap_spaces : (g : List ℕ) → is_gap g ≡ true → list_all is_space g ≡ true
gap_spaces [] h = absurd cc
gap_spaces (c ∷ cs) h = h

abbrev after_gap : ℕ → List ℕ → List ℕ × List ℕ → Found (List Written)
after_gap n cs y = cond (starts_name y.1) (cond (is_gap y.0) (written_at y.0 y.1 >>= λ w. one_more n w) None) (Some ([], cs))

pub attributes_again : (n : ℕ) (ws : List Written) (rest : List ℕ) → list_all is_written ws ≡ true → starts_name (span is_space rest).1 ≡ false → length ws ≤ n
    → attributes_at n (flat_map spelled_written ws ++ rest) ≡ Some (ws, rest)
attributes_again zero [] rest each stop le = refl
attributes_again (suc n) [] rest each stop le = ap (λ b. cond b (cond (is_gap (span is_space rest).0) (written_at (span is_space rest).0 (span is_space rest).1 >>= λ v. one_more n v) no) (some ([], rest))) stop
attributes_again zero (a ∷ ws) rest each stop le = absurd (omega (arith, le))
attributes_again (suc n) (a ∷ ws) rest each stop le =
    let w = and_parts (is_written a) (list_all is_written ws) each in
    let f = written_facts a w.0 in
    let nf = name_first a.name f.name in
    let tail = flat_map spelled_written ws ++ rest in
    let all = a.gap ++ from_name a tail in
    ap (λ (y : List ℕ). attributes_at (suc n) y) (append_assoc (spelled_written a) (flat_map spelled_written ws) rest ∙ sym (regroup a.gap a.name a.before a.after (flat_map spelled_part a.parts) tail a.quote))
    ∙ ap (λ (y : List ℕ × List ℕ). after_gap n all y) (span_again is_space a.gap (from_name a tail) (gap_spaces a.gap f.gap) (nf.no_space _))
    ∙ ap (λ b. cond b (cond (is_gap a.gap) (written_at a.gap (from_name a tail) >>= λ v. one_more n v) no) (some ([], all))) (nf.first _)
    ∙ ap (λ b. cond b (written_at a.gap (from_name a tail) >>= λ v. one_more n v) no) f.gap
    ∙ ap (λ (o : Found Written). o >>= λ v. one_more n v) (written_again a tail w.0)
    ∙ ap (λ (o : Found (List Written)). o >>= λ y. some (a ∷ y.0, y.1)) (attributes_again n ws rest w.1 stop (omega (arith, le)))

pub attributes_len : (ws : List Written) → list_all is_written ws ≡ true → length ws ≤ length (flat_map spelled_written ws)
attributes_len [] each = omega arith
attributes_len (a ∷ ws) each =
    let w = and_parts (is_written a) (list_all is_written ws) each in
    omega (arith, attributes_len ws w.1, length-append (spelled_written a) (flat_map spelled_written ws), gap_len a.gap (written_facts a w.0).gap, length-append a.gap (a.name ++ (a.before ++ (61 ∷ (a.after ++ (a.quote ∷ (flat_map spelled_part a.parts ++ a.quote ∷ [])))))))
  where
    gap_len : (g : List ℕ) → is_gap g ≡ true → 1 ≤ length g
    gap_len [] h = absurd cc
    gap_len (c ∷ cs) h = omega arith

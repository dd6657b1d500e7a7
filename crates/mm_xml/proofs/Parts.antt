-- Characters and references are read as they are spelled.
use Rattle.std.proofs.Common.{◌≡◌, ℕ, zero, suc, ◌≤◌, ◌<◌, Bool, true, false, cond, List, [], ◌∷◌, ◌++◌, length, Some, None, eqb, not, refl, sym, ap, subst, ◌∙◌, append_assoc, arith, inl, inr}
use Rattle.std.specs.List.{list_all, flat_map}
use Rattle.std.proofs.lemmas.Bool.{eqb-true, and_parts, and_from}
use Rattle.std.proofs.lemmas.List.{length-append}
use Rattle.mm_xml.specs.Letters.{referred}
use Rattle.mm_xml.specs.Syntax.{Part, Literal, Reference, is_part, is_literal, is_within, is_quote, not_semicolon, is_some, spelled_part}
use Rattle.mm_xml.specs.Inside.Lexing.{◌>>=◌, Found, span, after, reference_at, part_at, parts_at}
use Rattle.mm_xml.proofs.Spans.{taken, chosen, some, some_is, bind_some, span_whole, span_all, span_again, after_takes}

pub record PartTakes (cs : List ℕ) (x : Part × List ℕ) : Type 0 where
  pub is : is_part x.0 ≡ true
  pub parts : cs ≡ spelled_part x.0 ++ x.1

reference_takes : (cs : List ℕ) (x : Part × List ℕ) → reference_at cs ≡ Some x → PartTakes (38 ∷ cs) x
unfolding reference_at
reference_takes cs x e =
    let body = (span not_semicolon cs).0 in
    let t = taken (is_some (referred body)) (after 59 (span not_semicolon cs).1 >>= λ r. Some (Reference body, r)) x e in
    let b = bind_some (after 59 (span not_semicolon cs).1) (λ r. Some (Reference body, r)) x t.1 in
    subst (λ (y : Part × List ℕ). PartTakes (38 ∷ cs) y) (some_is (Reference body, b.0) x b.2) (record {
      is = and_from _ _ (span_all not_semicolon cs) t.0;
      parts = ap (λ (y : List ℕ). 38 ∷ y) (sym (span_whole not_semicolon cs) ∙ ap (λ (y : List ℕ). body ++ y) (after_takes 59 (span not_semicolon cs).1 b.0 b.1) ∙ sym (append_assoc body (59 ∷ []) b.0));
    })

pub part_takes : (cs : List ℕ) (x : Part × List ℕ) → part_at cs ≡ Some x → PartTakes cs x
unfolding part_at
part_takes [] x e = absurd cc
part_takes (c ∷ cs) x e =
    elim (chosen (eqb c 38) (reference_at cs) (cond (is_literal c) (Some (Literal c, cs)) None) (Some x) e) [
      | inl w ↦ rw (eqb-true c 38 w.0) (reference_takes cs x w.1)
      | inr w ↦ let t = taken (is_literal c) (Some (Literal c, cs)) x w.1 in subst (λ (y : Part × List ℕ). PartTakes (c ∷ cs) y) (some_is (Literal c, cs) x t.1) (record { is = t.0; parts = refl })
    ]

abbrev no_part : Found Part
no_part = None

not_amp : (c : ℕ) → is_literal c ≡ true → eqb c 38 ≡ false
not_amp c h = elim (eqb c 38) as (λ b. eqb c 38 ≡ b → b ≡ false) [ true ↦ λ e. absurd (amp c (eqb-true c 38 e) h) | false ↦ λ e. refl ] refl
  where
    amp : (c : ℕ) → c ≡ 38 → is_literal c ≡ true → ⊥
    amp c e h = let k : is_literal 38 ≡ true = subst (λ (n : ℕ). is_literal n ≡ true) e h in cc

pub part_again : (p : Part) (rest : List ℕ) → is_part p ≡ true → part_at (spelled_part p ++ rest) ≡ Some (p, rest)
unfolding part_at reference_at
part_again (Literal c) rest h =
    ap (λ b. cond b (reference_at rest) (cond (is_literal c) (Some (Literal c, rest)) no_part)) (not_amp c h)
    ∙ ap (λ b. cond b (some (Literal c, rest)) no_part) h
part_again (Reference body) rest h =
    let w = and_parts (list_all not_semicolon body) (is_some (referred body)) h in
    ap (λ (cs : List ℕ). reference_at cs) (append_assoc body (59 ∷ []) rest)
    ∙ ap (λ (y : List ℕ × List ℕ). cond (is_some (referred y.0)) (after 59 y.1 >>= λ r. some (Reference y.0, r)) no_part) (span_again not_semicolon body (59 ∷ rest) w.0 refl)
    ∙ rw w.1 refl

within_part : (q : ℕ) (p : Part) → is_within q p ≡ true → is_part p ≡ true
within_part q (Literal c) h = (and_parts (is_literal c) (not (eqb c q)) h).0
within_part q (Reference body) h = h

-- a part doesn't begin with the quote
within_first : (q : ℕ) (p : Part) → is_quote q ≡ true → is_within q p ≡ true → (c : ℕ) × (cs : List ℕ) × (spelled_part p ≡ c ∷ cs) × (eqb c q ≡ false)
within_first q (Literal c) qu h = (c, [], refl, negated _ (and_parts (is_literal c) (not (eqb c q)) h).1)
  where
    negated : (b : Bool) → not b ≡ true → b ≡ false
    negated true e = absurd cc
    negated false e = refl
within_first q (Reference body) qu h = (38, body ++ 59 ∷ [], refl, elim (eqb 38 q) as (λ b. eqb 38 q ≡ b → b ≡ false) [ true ↦ λ e. absurd (amp q (eqb-true 38 q e) qu) | false ↦ λ e. refl ] refl)
  where
    amp : (q : ℕ) → 38 ≡ q → is_quote q ≡ true → ⊥
    amp q e h = let k : is_quote 38 ≡ true = subst (λ (n : ℕ). is_quote n ≡ true) (sym e) h in cc

pub record PartsTake (q : ℕ) (cs : List ℕ) (x : List Part × List ℕ) : Type 0 where
  pub each : list_all (is_within q) x.0 ≡ true
  pub parts : cs ≡ flat_map spelled_part x.0 ++ (q ∷ x.1)

part_within : (q c : ℕ) (cs : List ℕ) (x : Part × List ℕ) → eqb c q ≡ false → PartTakes (c ∷ cs) x → is_within q x.0 ≡ true
part_within q c cs (Literal d, r) n t = and_from _ _ t.is (negate (eqb d q) (ap (λ k. eqb k q) (heads d c r cs (sym t.parts)) ∙ n))
  where
    negate : (b : Bool) → b ≡ false → not b ≡ true
    negate b e = rw e refl

    heads : (d c : ℕ) (r cs : List ℕ) → d ∷ r ≡ c ∷ cs → d ≡ c
    heads d c r cs e = cc
part_within q c cs (Reference body, r) n t = t.is

pub parts_take : (n q : ℕ) (cs : List ℕ) (x : List Part × List ℕ) → parts_at n q cs ≡ Some x → PartsTake q cs x
parts_take zero q [] x e = absurd cc
parts_take (suc n) q [] x e = absurd cc
parts_take zero q (c ∷ cs) x e = absurd cc
parts_take (suc n) q (c ∷ cs) x e =
    elim (chosen (eqb c q) (some ([], cs)) (part_at (c ∷ cs) >>= λ x. parts_at n q x.1 >>= λ y. Some (x.0 ∷ y.0, y.1)) (Some x) e) [
      | inl w ↦ subst (λ (y : List Part × List ℕ). PartsTake q (c ∷ cs) y) (some_is _ x w.1) (record { each = refl; parts = rw (eqb-true c q w.0) refl })
      | inr w ↦
          let a = bind_some (part_at (c ∷ cs)) (λ x. parts_at n q x.1 >>= λ y. Some (x.0 ∷ y.0, y.1)) x w.1 in
          let b = bind_some (parts_at n q a.0.1) (λ y. Some (a.0.0 ∷ y.0, y.1)) x a.2 in
          let t = part_takes (c ∷ cs) a.0 a.1 in
          let m = parts_take n q a.0.1 b.0 b.1 in
          subst (λ (y : List Part × List ℕ). PartsTake q (c ∷ cs) y) (some_is _ x b.2) (record {
            each = and_from _ _ (part_within q c cs a.0 w.0 t) m.each;
            parts = t.parts ∙ ap (λ (y : List ℕ). spelled_part a.0.0 ++ y) m.parts ∙ sym (append_assoc (spelled_part a.0.0) (flat_map spelled_part b.0.0) (q ∷ b.0.1));
          })
    ]

parts_step : (n q c : ℕ) (cs all : List ℕ) (p : Part) (rest : List ℕ) (x : List Part × List ℕ) → all ≡ c ∷ cs → eqb c q ≡ false → part_at all ≡ Some (p, rest) → parts_at n q rest ≡ Some x
    → parts_at (suc n) q all ≡ Some (p ∷ x.0, x.1)
parts_step n q c cs all p rest x is other found more =
    ap (λ (y : List ℕ). parts_at (suc n) q y) is
    ∙ ap (λ b. cond b (some ([], cs)) (part_at (c ∷ cs) >>= λ x. parts_at n q x.1 >>= λ y. Some (x.0 ∷ y.0, y.1))) other
    ∙ ap (λ (o : Found Part). o >>= λ x. parts_at n q x.1 >>= λ y. Some (x.0 ∷ y.0, y.1)) (ap part_at (sym is) ∙ found)
    ∙ ap (λ (o : Found (List Part)). o >>= λ y. some (p ∷ y.0, y.1)) more

pub parts_again : (n q : ℕ) (ps : List Part) (rest : List ℕ) → is_quote q ≡ true → list_all (is_within q) ps ≡ true → length ps < n
    → parts_at n q (flat_map spelled_part ps ++ (q ∷ rest)) ≡ Some (ps, rest)
parts_again zero q ps rest qu each lt = absurd (omega (arith, lt))
parts_again (suc n) q [] rest qu each lt = rw (itself q) refl
  where
    itself : (k : ℕ) → eqb k k ≡ true
    itself k = grind arith
parts_again (suc n) q (p ∷ ps) rest qu each lt =
    let w = and_parts (is_within q p) (list_all (is_within q) ps) each in
    let f = within_first q p qu w.0 in
    let tail = flat_map spelled_part ps ++ (q ∷ rest) in
    ap (λ (y : List ℕ). parts_at (suc n) q y) (append_assoc (spelled_part p) (flat_map spelled_part ps) (q ∷ rest))
    ∙ parts_step n q f.0 (f.1 ++ tail) (spelled_part p ++ tail) p tail (ps, rest) (ap (λ (y : List ℕ). y ++ tail) f.2) f.3
    (part_again p tail (within_part q p w.0)) (parts_again n q ps rest qu w.1 (omega (arith, lt)))

-- a part has a character
pub parts_len : (ps : List Part) → length ps ≤ length (flat_map spelled_part ps)
parts_len [] = omega arith
parts_len (p ∷ ps) = omega (arith, parts_len ps, length-append (spelled_part p) (flat_map spelled_part ps), one p)
  where
    one : (p : Part) → 1 ≤ length (spelled_part p)
    one (Literal c) = omega arith
    one (Reference body) = omega arith

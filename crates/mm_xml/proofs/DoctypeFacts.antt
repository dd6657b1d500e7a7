-- A document type declaration is read as it is spelled.
use Rattle.std.proofs.Common.{◌≡◌, ℕ, Bool, true, false, cond, ◌&&◌, not, List, [], ◌∷◌, ◌++◌, length, drop, Option, Some, None, eqb, refl, sym, ap, subst, ◌∙◌, append_assoc, arith, inl, inr}
use Rattle.std.specs.List.{list_all}
use Rattle.mm_tree.specs.Characters.{is_char, is_space, is_name_char, is_name_start, is_name}
use Rattle.mm_xml.specs.Letters.{starts, is_gap}
use Rattle.mm_xml.specs.Syntax.{Token, Doctype, Quoted, is_quote, is_quoted, spelled_quoted, is_public, External, Nowhere, System, Public, is_external, spelled_external, is_token}
use Rattle.mm_xml.specs.Inside.Lexing.{◌>>=◌, Found, span, after, quoted_char, quoted_at, spaced_quoted_at, system_word, public_word, system_at, public_at, external_at, doctype_end_at, doctype_at, two_dashes, section_start, doctype_start, comment_at, section_at, marked_at}
use Rattle.std.specs.Borrow.{Bor}
use Rattle.std.proofs.lemmas.Bool.{and_parts, and_from}
use Rattle.mm_xml.specs.Inside.Prefix.{stripped}
use Rattle.mm_xml.specs.Inside.Telling.{Sign, Doctyped, tell, rest_of, both_rest}
use Rattle.mm_xml.specs.Inside.Lexemes.{Rests}
use Rattle.mm_xml.proofs.Spans.{taken, chosen, some, no, some_is, bind_some, Stops, span_whole, span_all, span_again, after_takes, starts_takes}
use Rattle.mm_xml.specs.Facts.Characters.{start_is, name_chars}
use Rattle.mm_xml.proofs.Attributes.{quote_no_space, space_no_name, not_space_stops, name_char_no_space, gap_spaces}
use Rattle.mm_xml.proofs.Tags.{Takes}

-- ---- quoted text

pub record QuotedTakes (p : ℕ → Bool) (cs : List ℕ) (x : Quoted × List ℕ) : Type 0 where
  pub is : is_quoted p x.0 ≡ true
  pub parts : cs ≡ spelled_quoted x.0 ++ x.1

pub quoted_takes : (p : ℕ → Bool) (cs : List ℕ) (x : Quoted × List ℕ) → quoted_at p cs ≡ Some x → QuotedTakes p cs x
quoted_takes p [] x e = absurd cc
quoted_takes p (q ∷ cs) x e =
    let text = (span (quoted_char p q) cs).0 in
    let more = (span (quoted_char p q) cs).1 in
    let t = taken (is_quote q) (after q more >>= λ r. Some (record { quote = q; text = text }, r)) x e in
    let b = bind_some (after q more) (λ r. Some (record { quote = q; text = text }, r)) x t.1 in
    subst (λ (y : Quoted × List ℕ). QuotedTakes p (q ∷ cs) y) (some_is (record { quote = q; text = text }, b.0) x b.2) (record {
      is = and_from _ _ t.0 (span_all (quoted_char p q) cs);
      parts = ap (λ (y : List ℕ). q ∷ y) (sym (span_whole (quoted_char p q) cs) ∙ ap (λ (y : List ℕ). text ++ y) (after_takes q more b.0 b.1) ∙ sym (append_assoc text (q ∷ []) b.0));
    })

itself : (n : ℕ) → eqb n n ≡ true
itself n = grind arith

stops : (p : ℕ → Bool) (q : ℕ) → quoted_char p q q ≡ false
stops p q = elim (p q) as (λ b. (b && not (eqb q q)) ≡ false) [ true ↦ ap not (itself q) | false ↦ refl ]

pub quoted_again : (p : ℕ → Bool) (q : Quoted) (rest : List ℕ) → is_quoted p q ≡ true → quoted_at p (spelled_quoted q ++ rest) ≡ Some (q, rest)
quoted_again p q rest h =
    let w = and_parts (is_quote q.quote) (list_all (quoted_char p q.quote) q.text) h in
    ap (λ (y : List ℕ). quoted_at p (q.quote ∷ y)) (append_assoc q.text (q.quote ∷ []) rest)
    ∙ ap (λ b. cond b (after q.quote (span (quoted_char p q.quote) (q.text ++ (q.quote ∷ rest))).1 >>= λ r. some (record { quote = q.quote; text = (span (quoted_char p q.quote) (q.text ++ (q.quote ∷ rest))).0 }, r)) no) w.0
    ∙ ap (λ (y : List ℕ × List ℕ). after q.quote y.1 >>= λ r. some (record { quote = q.quote; text = y.0 }, r)) (span_again (quoted_char p q.quote) q.text (q.quote ∷ rest) w.1 (stops p q.quote))
    ∙ ap (λ b. cond b (some rest) None >>= λ r. some (q, r)) (itself q.quote)

-- ---- behind white space

record SpacedTakes (p : ℕ → Bool) (cs : List ℕ) (x : (List ℕ × Quoted) × List ℕ) : Type 0 where
  gap : is_gap x.0.0 ≡ true
  is : is_quoted p x.0.1 ≡ true
  parts : cs ≡ x.0.0 ++ (spelled_quoted x.0.1 ++ x.1)

spaced_takes : (p : ℕ → Bool) (cs : List ℕ) (x : (List ℕ × Quoted) × List ℕ) → spaced_quoted_at p cs ≡ Some x → SpacedTakes p cs x
spaced_takes p cs x e =
    let g = (span is_space cs).0 in
    let more = (span is_space cs).1 in
    let t = taken (is_gap g) (quoted_at p more >>= λ q. Some ((g, q.0), q.1)) x e in
    let b = bind_some (quoted_at p more) (λ q. Some ((g, q.0), q.1)) x t.1 in
    let q = quoted_takes p more b.0 b.1 in
    subst (λ (y : (List ℕ × Quoted) × List ℕ). SpacedTakes p cs y) (some_is ((g, b.0.0), b.0.1) x b.2) (record {
      gap = t.0;
      is = q.is;
      parts = sym (span_whole is_space cs) ∙ ap (λ (y : List ℕ). g ++ y) q.parts;
    })

abbrev spaced_rest : (ℕ → Bool) → List ℕ × List ℕ → Found (List ℕ × Quoted)
spaced_rest p y = cond (is_gap y.0) (quoted_at p y.1 >>= λ q. Some ((y.0, q.0), q.1)) None

spaced_again : (p : ℕ → Bool) (g : List ℕ) (q : Quoted) (rest : List ℕ) → is_gap g ≡ true → is_quoted p q ≡ true → spaced_quoted_at p (g ++ (spelled_quoted q ++ rest)) ≡ Some ((g, q), rest)
spaced_again p g q rest hg hq =
    let quote_is = (and_parts (is_quote q.quote) (list_all (quoted_char p q.quote) q.text) hq).0 in
    ap (λ (y : List ℕ × List ℕ). spaced_rest p y) (span_again is_space g (spelled_quoted q ++ rest) (gap_spaces g hg) (quote_no_space q.quote quote_is))
    ∙ ap (λ (b : Bool). cond b (quoted_at p (spelled_quoted q ++ rest) >>= λ x. some ((g, x.0), x.1)) no) hg
    ∙ ap (λ (o : Found Quoted). o >>= λ x. some ((g, x.0), x.1)) (quoted_again p q rest hq)

-- ---- the external identifier

record ExternalTakes (cs : List ℕ) (x : External × List ℕ) : Type 0 where
  is : is_external x.0 ≡ true
  parts : cs ≡ spelled_external x.0 ++ x.1

system_takes : (g cs all : List ℕ) (x : External × List ℕ) → is_gap g ≡ true → all ≡ g ++ (system_word ++ cs) → system_at g cs ≡ Some x → ExternalTakes all x
system_takes g cs all x hg parts e =
    let b = bind_some (spaced_quoted_at is_char cs) (λ y. Some (System g y.0.0 y.0.1, y.1)) x e in
    let t = spaced_takes is_char cs b.0 b.1 in
    subst (λ (y : External × List ℕ). ExternalTakes all y) (some_is (System g b.0.0.0 b.0.0.1, b.0.1) x b.2) (record {
      is = and_from _ _ hg (and_from _ _ t.gap t.is);
      parts = parts ∙ ap (λ (y : List ℕ). g ++ (system_word ++ y)) t.parts ∙ group g system_word b.0.0.0 (spelled_quoted b.0.0.1) b.0.1;
    })
  where
    group : (a b c d e : List ℕ) → a ++ (b ++ (c ++ (d ++ e))) ≡ (a ++ (b ++ (c ++ d))) ++ e
    group a b c d e = simp append_assoc

public_takes : (g cs all : List ℕ) (x : External × List ℕ) → is_gap g ≡ true → all ≡ g ++ (public_word ++ cs) → public_at g cs ≡ Some x → ExternalTakes all x
public_takes g cs all x hg parts e =
    let b = bind_some (spaced_quoted_at is_public cs) (λ y. spaced_quoted_at is_char y.1 >>= λ z. Some (Public g y.0.0 y.0.1 z.0.0 z.0.1, z.1)) x e in
    let d = bind_some (spaced_quoted_at is_char b.0.1) (λ z. Some (Public g b.0.0.0 b.0.0.1 z.0.0 z.0.1, z.1)) x b.2 in
    let t = spaced_takes is_public cs b.0 b.1 in
    let u = spaced_takes is_char b.0.1 d.0 d.1 in
    subst (λ (y : External × List ℕ). ExternalTakes all y) (some_is (Public g b.0.0.0 b.0.0.1 d.0.0.0 d.0.0.1, d.0.1) x d.2) (record {
      is = and_from _ _ hg (and_from _ _ t.gap (and_from _ _ t.is (and_from _ _ u.gap u.is)));
      parts = parts ∙ ap (λ (y : List ℕ). g ++ (public_word ++ y)) (t.parts ∙ ap (λ (y : List ℕ). b.0.0.0 ++ (spelled_quoted b.0.0.1 ++ y)) u.parts) ∙ group g public_word b.0.0.0 (spelled_quoted b.0.0.1) d.0.0.0 (spelled_quoted d.0.0.1) d.0.1;
    })
  where
    group : (a b c d e f r : List ℕ) → a ++ (b ++ (c ++ (d ++ (e ++ (f ++ r))))) ≡ (a ++ (b ++ (c ++ (d ++ (e ++ f))))) ++ r
    group a b c d e f r = simp append_assoc

external_takes : (cs : List ℕ) (x : External × List ℕ) → external_at cs ≡ Some x → ExternalTakes cs x
unfolding external_at
external_takes cs x e =
    let g = (span is_space cs).0 in
    let more = (span is_space cs).1 in
    let here : (word : List ℕ) → length word ≡ 6 → starts word more ≡ true → cs ≡ g ++ (word ++ drop 6 more) = λ word six h. sym (span_whole is_space cs) ∙ ap (λ (y : List ℕ). g ++ y) (starts_takes word more h ∙ ap (λ n. word ++ drop n more) six) in
    elim (chosen (starts system_word more) (cond (is_gap g) (system_at g (drop 6 more)) None) (cond (starts public_word more) (cond (is_gap g) (public_at g (drop 6 more)) None) (some (Nowhere, cs))) (Some x) e) [
      | inl w ↦ let t = taken (is_gap g) (system_at g (drop 6 more)) x w.1 in system_takes g (drop 6 more) cs x t.0 (here system_word refl w.0) t.1
      | inr w ↦ elim (chosen (starts public_word more) (cond (is_gap g) (public_at g (drop 6 more)) None) (some (Nowhere, cs)) (Some x) w.1) [
        | inl v ↦ let t = taken (is_gap g) (public_at g (drop 6 more)) x v.1 in public_takes g (drop 6 more) cs x t.0 (here public_word refl v.0) t.1
        | inr v ↦ subst (λ (y : External × List ℕ). ExternalTakes cs y) (some_is (Nowhere, cs) x v.1) (record { is = refl; parts = refl })
      ]
    ]

abbrev external_rest : List ℕ → List ℕ × List ℕ → Found External
external_rest cs y = cond (starts system_word y.1) (cond (is_gap y.0) (system_at y.0 (drop 6 y.1)) None) (cond (starts public_word y.1) (cond (is_gap y.0) (public_at y.0 (drop 6 y.1)) None) (Some (Nowhere, cs)))

-- behind the identifier stand white space and the end
external_again : (e : External) (s rest : List ℕ) → is_external e ≡ true → list_all is_space s ≡ true → external_at (spelled_external e ++ (s ++ 62 ∷ rest)) ≡ Some (e, s ++ 62 ∷ rest)
unfolding external_at
external_again Nowhere s rest h hs = ap (λ (y : List ℕ × List ℕ). external_rest (s ++ 62 ∷ rest) y) (span_again is_space s (62 ∷ rest) hs refl)
external_again (System g t q) s rest h hs =
    let w = and_parts (is_gap g) _ h in
    let v = and_parts (is_gap t) (is_quoted is_char q) w.1 in
    let tail = t ++ (spelled_quoted q ++ (s ++ 62 ∷ rest)) in
    ap (λ (y : List ℕ). external_at y) (group g system_word t (spelled_quoted q) (s ++ 62 ∷ rest))
    ∙ ap (λ (y : List ℕ × List ℕ). external_rest (g ++ (system_word ++ tail)) y) (span_again is_space g (system_word ++ tail) (gap_spaces g w.0) refl)
    ∙ ap (λ (b : Bool). cond b (system_at g tail) no) w.0
    ∙ ap (λ (o : Found (List ℕ × Quoted)). o >>= λ x. some (System g x.0.0 x.0.1, x.1)) (spaced_again is_char t q (s ++ 62 ∷ rest) v.0 v.1)
  where
    group : (a b c d e : List ℕ) → (a ++ (b ++ (c ++ d))) ++ e ≡ a ++ (b ++ (c ++ (d ++ e)))
    group a b c d e = simp append_assoc
external_again (Public g t q u r) s rest h hs =
    let w = and_parts (is_gap g) _ h in
    let v = and_parts (is_gap t) _ w.1 in
    let a = and_parts (is_quoted is_public q) _ v.1 in
    let b = and_parts (is_gap u) (is_quoted is_char r) a.1 in
    let tail = u ++ (spelled_quoted r ++ (s ++ 62 ∷ rest)) in
    let all = t ++ (spelled_quoted q ++ tail) in
    ap (λ (y : List ℕ). external_at y) (group g public_word t (spelled_quoted q) u (spelled_quoted r) (s ++ 62 ∷ rest))
    ∙ ap (λ (y : List ℕ × List ℕ). external_rest (g ++ (public_word ++ all)) y) (span_again is_space g (public_word ++ all) (gap_spaces g w.0) refl)
    ∙ ap (λ (b : Bool). cond b (public_at g all) no) w.0
    ∙ ap (λ (o : Found (List ℕ × Quoted)). o >>= λ x. spaced_quoted_at is_char x.1 >>= λ y. some (Public g x.0.0 x.0.1 y.0.0 y.0.1, y.1)) (spaced_again is_public t q tail v.0 a.0)
    ∙ ap (λ (o : Found (List ℕ × Quoted)). o >>= λ y. some (Public g t q y.0.0 y.0.1, y.1)) (spaced_again is_char u r (s ++ 62 ∷ rest) b.0 b.1)
  where
    group : (a b c d e f r : List ℕ) → (a ++ (b ++ (c ++ (d ++ (e ++ f))))) ++ r ≡ a ++ (b ++ (c ++ (d ++ (e ++ (f ++ r)))))
    group a b c d e f r = simp append_assoc

-- ---- the declaration

abbrev word : List ℕ
word = 68 ∷ 79 ∷ 67 ∷ 84 ∷ 89 ∷ 80 ∷ 69 ∷ []

pub doctype_takes : (cs : List ℕ) (x : Token × List ℕ) → doctype_at cs ≡ Some x → Takes (60 ∷ 33 ∷ (word ++ cs)) x
unfolding doctype_at
doctype_takes cs x e =
    let g = (span is_space cs).0 in
    let more = (span is_space cs).1 in
    let name = (span is_name_char more).0 in
    let rest = (span is_name_char more).1 in
    let t = taken (is_gap g) (cond (is_name name) (doctype_end_at g name rest) None) x e in
    let u = taken (is_name name) (doctype_end_at g name rest) x t.1 in
    let b = bind_some (external_at rest) (λ y. after 62 (span is_space y.1).1 >>= λ r. Some (Doctype g name y.0 (span is_space y.1).0, r)) x u.1 in
    let s = (span is_space b.0.1).0 in
    let d = bind_some (after 62 (span is_space b.0.1).1) (λ r. Some (Doctype g name b.0.0 s, r)) x b.2 in
    let f = external_takes rest b.0 b.1 in
    subst (λ (y : Token × List ℕ). Takes (60 ∷ 33 ∷ (word ++ cs)) y) (some_is (Doctype g name b.0.0 s, d.0) x d.2) (record {
      is = and_from _ _ t.0 (and_from _ _ u.0 (and_from _ _ f.is (span_all is_space b.0.1)));
      parts = ap (λ (y : List ℕ). 60 ∷ 33 ∷ (word ++ y)) (sym (span_whole is_space cs) ∙ ap (λ (y : List ℕ). g ++ y) (sym (span_whole is_name_char more) ∙ ap (λ (y : List ℕ). name ++ y) (f.parts ∙ ap (λ (y : List ℕ). spelled_external b.0.0 ++ y) (sym (span_whole is_space b.0.1) ∙ ap (λ (y : List ℕ). s ++ y) (after_takes 62 (span is_space b.0.1).1 d.0 d.1)))) ∙ group g name (spelled_external b.0.0) s (62 ∷ []) d.0);
    })
  where
    group : (a b c d e r : List ℕ) → a ++ (b ++ (c ++ (d ++ (e ++ r)))) ≡ (a ++ (b ++ (c ++ (d ++ e)))) ++ r
    group a b c d e r = simp append_assoc

abbrev name_rest : List ℕ → List ℕ × List ℕ → Found Token
name_rest g y = cond (is_name y.0) (doctype_end_at g y.0 y.1) None

abbrev gap_rest : List ℕ × List ℕ → Found Token
gap_rest y = cond (is_gap y.0) (name_rest y.0 (span is_name_char y.1)) None

name_no_space : (name rest : List ℕ) → is_name name ≡ true → Stops is_space (name ++ rest)
name_no_space [] rest h = absurd cc
name_no_space (c ∷ cs) rest h = name_char_no_space c (start_is c (and_parts (is_name_start c) (list_all is_name_char cs) h).0)

gap_stops : (g rest : List ℕ) → is_gap g ≡ true → Stops is_name_char (g ++ rest)
gap_stops [] rest h = absurd cc
gap_stops (c ∷ cs) rest h = space_no_name c (and_parts (is_space c) (list_all is_space cs) h).0

external_stops : (e : External) (s rest : List ℕ) → is_external e ≡ true → list_all is_space s ≡ true → Stops is_name_char (spelled_external e ++ (s ++ 62 ∷ rest))
external_stops Nowhere s rest h hs = not_space_stops is_name_char s 62 rest space_no_name hs refl
external_stops (System g t q) s rest h hs = subst (λ (y : List ℕ). Stops is_name_char y) (sym (append_assoc g _ (s ++ 62 ∷ rest))) (gap_stops g _ (and_parts (is_gap g) _ h).0)
external_stops (Public g t q u r) s rest h hs = subst (λ (y : List ℕ). Stops is_name_char y) (sym (append_assoc g _ (s ++ 62 ∷ rest))) (gap_stops g _ (and_parts (is_gap g) _ h).0)

pub doctype_again : (g name : List ℕ) (e : External) (s rest : List ℕ) → is_token (Doctype g name e s) ≡ true → doctype_at ((g ++ (name ++ (spelled_external e ++ (s ++ 62 ∷ [])))) ++ rest) ≡ Some (Doctype g name e s, rest)
unfolding doctype_at
doctype_again g name e s rest h =
    let w = and_parts (is_gap g) _ h in
    let n = and_parts (is_name name) _ w.1 in
    let x = and_parts (is_external e) (list_all is_space s) n.1 in
    let end = s ++ 62 ∷ rest in
    let tail = spelled_external e ++ end in
    ap (λ (y : List ℕ). doctype_at y) (group g name (spelled_external e) s (62 ∷ []) rest)
    ∙ ap (λ (y : List ℕ × List ℕ). gap_rest y) (span_again is_space g (name ++ tail) (gap_spaces g w.0) (name_no_space name tail n.0))
    ∙ ap (λ (b : Bool). cond b (name_rest g (span is_name_char (name ++ tail))) no) w.0
    ∙ ap (λ (y : List ℕ × List ℕ). name_rest g y) (span_again is_name_char name tail (name_chars name n.0) (external_stops e s rest x.0 x.1))
    ∙ ap (λ (b : Bool). cond b (doctype_end_at g name tail) no) n.0
    ∙ ap (λ (o : Found External). o >>= λ y. after 62 (span is_space y.1).1 >>= λ r. some (Doctype g name y.0 (span is_space y.1).0, r)) (external_again e s rest x.0 x.1)
    ∙ ap (λ (y : List ℕ × List ℕ). after 62 y.1 >>= λ r. some (Doctype g name e y.0, r)) (span_again is_space s (62 ∷ rest) x.1 refl)
  where
    group : (a b c d e r : List ℕ) → (a ++ (b ++ (c ++ (d ++ e)))) ++ r ≡ a ++ (b ++ (c ++ (d ++ (e ++ r))))
    group a b c d e r = simp append_assoc

-- ---- as the code reads it

strip_is : (word cs r : List ℕ) → stripped word cs ≡ Some r → (starts word cs ≡ true) × (drop (length word) cs ≡ r)
strip_is [] cs r e = (refl, some_is cs r e)
strip_is (p ∷ ps) [] r e = absurd cc
strip_is (p ∷ ps) (c ∷ cs) r e =
    let t = taken (eqb p c) (stripped ps cs) r e in
    let more = strip_is ps cs r t.1 in
    (and_from (eqb p c) (starts ps cs) t.0 more.0, more.1)

strip_none : (word cs : List ℕ) → stripped word cs ≡ None → starts word cs ≡ false
strip_none [] cs e = absurd cc
strip_none (p ∷ ps) [] e = refl
strip_none (p ∷ ps) (c ∷ cs) e = elim (eqb p c) as (λ b. cond b (stripped ps cs) None ≡ None → (b && starts ps cs) ≡ false) [ true ↦ λ h. strip_none ps cs h | false ↦ λ h. refl ] e

rest_system : (g : List ℕ) (o : Found (List ℕ × Quoted)) → rest_of (o >>= λ x. Some (System g x.0.0 x.0.1, x.1)) ≡ rest_of o
rest_system g None = refl
rest_system g (Some x) = refl

rest_public : (g : List ℕ) (o : Found (List ℕ × Quoted)) → rest_of (o >>= λ x. spaced_quoted_at is_char x.1 >>= λ y. Some (Public g x.0.0 x.0.1 y.0.0 y.0.1, y.1)) ≡ (rest_of o >>= λ r. rest_of (spaced_quoted_at is_char r))
rest_public g None = refl
rest_public g (Some x) = each (spaced_quoted_at is_char x.1)
  where
    each : (o : Found (List ℕ × Quoted)) → rest_of (o >>= λ y. Some (Public g x.0.0 x.0.1 y.0.0 y.0.1, y.1)) ≡ rest_of o
    each None = refl
    each (Some y) = refl

external_shape : (cs : List ℕ) → external_at cs ≡ external_rest cs (span is_space cs)
unfolding external_at
external_shape cs = refl

pub system_rest : (result : Option (Bor (List ℕ))) (cs g more r : List ℕ) (b : Bool) → g ≡ (span is_space cs).0 → more ≡ (span is_space cs).1 → stripped system_word more ≡ Some r → b ≡ is_gap g → b ≡ true
    → Rests result (rest_of (spaced_quoted_at is_char r)) → Rests result (rest_of (external_at cs))
system_rest result cs g more r b front back found is gap h =
    let s = strip_is system_word more r found in
    subst (λ (o : Option (List ℕ)). Rests result o) (sym (
    ap (λ (o : Found External). rest_of o) (external_shape cs ∙ (λ j. external_rest cs (sym front j, sym back j)))
    ∙ ap (λ t. rest_of (cond t (cond (is_gap g) (system_at g (drop 6 more)) no) (cond (starts public_word more) (cond (is_gap g) (public_at g (drop 6 more)) no) (some (Nowhere, cs))))) s.0
    ∙ ap (λ t. rest_of (cond t (system_at g (drop 6 more)) no)) (sym is ∙ gap)
    ∙ rest_system g (spaced_quoted_at is_char (drop 6 more))
    ∙ ap (λ (y : List ℕ). rest_of (spaced_quoted_at is_char y)) s.1)) h

pub public_rest : (result : Option (Bor (List ℕ))) (cs g more r : List ℕ) (b : Bool) → g ≡ (span is_space cs).0 → more ≡ (span is_space cs).1 → stripped system_word more ≡ None → stripped public_word more ≡ Some r → b ≡ is_gap g → b ≡ true
    → Rests result (both_rest r) → Rests result (rest_of (external_at cs))
public_rest result cs g more r b front back none found is gap h =
    let s = strip_is public_word more r found in
    subst (λ (o : Option (List ℕ)). Rests result o) (sym (
    ap (λ (o : Found External). rest_of o) (external_shape cs ∙ (λ j. external_rest cs (sym front j, sym back j)))
    ∙ ap (λ t. rest_of (cond t (cond (is_gap g) (system_at g (drop 6 more)) no) (cond (starts public_word more) (cond (is_gap g) (public_at g (drop 6 more)) no) (some (Nowhere, cs))))) (strip_none system_word more none)
    ∙ ap (λ t. rest_of (cond t (cond (is_gap g) (public_at g (drop 6 more)) no) (some (Nowhere, cs)))) s.0
    ∙ ap (λ t. rest_of (cond t (public_at g (drop 6 more)) no)) (sym is ∙ gap)
    ∙ rest_public g (spaced_quoted_at is_public (drop 6 more))
    ∙ ap (λ (y : List ℕ). both_rest y) s.1)) h

abbrev pub doctyped : Option (List ℕ) → Found Sign
doctyped o = o >>= λ r. Some (Doctyped, r)

told_after : (g name s : List ℕ) (e : External) (o : Option (List ℕ)) → tell (o >>= λ r. Some (Doctype g name e s, r)) ≡ doctyped (rest_of (o >>= λ r. some (Doctype g name e s, r)))
told_after g name s e None = refl
told_after g name s e (Some r) = refl

told_end : (g name : List ℕ) (o : Found External) → tell (o >>= λ e. after 62 (span is_space e.1).1 >>= λ r. Some (Doctype g name e.0 (span is_space e.1).0, r)) ≡ doctyped (rest_of (o >>= λ e. after 62 (span is_space e.1).1 >>= λ r. some (Doctype g name e.0 (span is_space e.1).0, r)))
told_end g name None = refl
told_end g name (Some e) = told_after g name (span is_space e.1).0 e.0 (after 62 (span is_space e.1).1)

told_if : (b : Bool) (o : Found Token) → tell o ≡ doctyped (rest_of o) → tell (cond b o no) ≡ doctyped (rest_of (cond b o no))
told_if true o e = e
told_if false o e = refl

doctype_told : (cs : List ℕ) → tell (doctype_at cs) ≡ doctyped (rest_of (doctype_at cs))
unfolding doctype_at
doctype_told cs =
    let g = (span is_space cs).0 in
    let more = (span is_space cs).1 in
    let name = (span is_name_char more).0 in
    let rest = (span is_name_char more).1 in
    told_if (is_gap g) (cond (is_name name) (doctype_end_at g name rest) no) (told_if (is_name name) (doctype_end_at g name rest) (told_end g name (external_at rest)))

pub marked_doctype : (cs r : List ℕ) → stripped two_dashes cs ≡ None → stripped section_start cs ≡ None → stripped doctype_start cs ≡ Some r → tell (marked_at cs) ≡ doctyped (rest_of (doctype_at r))
unfolding marked_at
marked_doctype cs r a b d =
    let s = strip_is doctype_start cs r d in
    ap (λ t. tell (cond t (comment_at (drop 2 cs)) (cond (starts section_start cs) (section_at (drop 7 cs)) (cond (starts doctype_start cs) (doctype_at (drop 7 cs)) no)))) (strip_none two_dashes cs a)
    ∙ ap (λ t. tell (cond t (section_at (drop 7 cs)) (cond (starts doctype_start cs) (doctype_at (drop 7 cs)) no))) (strip_none section_start cs b)
    ∙ ap (λ t. tell (cond t (doctype_at (drop 7 cs)) no)) s.0
    ∙ ap (λ (y : List ℕ). tell (doctype_at y)) s.1
    ∙ doctype_told r

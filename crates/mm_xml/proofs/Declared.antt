-- An XML declaration is read as it is spelled.
use Rattle.std.proofs.Common.{◌≡◌, ℕ, Bool, true, false, cond, List, [], ◌∷◌, ◌++◌, Option, Some, None, eqb, refl, sym, ap, subst, ◌∙◌, append_assoc, arith, inl, inr}
use Rattle.std.specs.List.{list_all, flat_map}
use Rattle.std.proofs.lemmas.Bool.{eqb-true, and_parts, and_from}
use Rattle.mm_tree.specs.Characters.{is_char, is_space, is_name_char}
use Rattle.mm_xml.specs.Letters.{is_gap, starts}
use Rattle.mm_xml.specs.Syntax.{Quoted, is_quote, is_quoted, spelled_quoted, Setting, spelled_setting, is_setting, is_version, is_encoding, is_standalone, declaration_start, version_word, encoding_word, standalone_word, declaration_end, Declaration, spelled_if, is_setting_if, spelled_declaration, is_declaration, Token, is_token, spelled}
use Rattle.mm_xml.specs.Inside.Lexing.{◌>>=◌, Found, span, after, quoted_at, equals_at, instruction_at, markup_at, token_at}
use Rattle.mm_xml.specs.Inside.Prefix.{stripped}
use Rattle.mm_xml.specs.Inside.Declaring.{quoted_text_at, setting_at, passed, after_version, after_if, after_encoding, after_standalone, after_declaration}
use Rattle.mm_xml.proofs.Spans.{taken, chosen, some, no, some_is, bind_some, Stops, span_whole, span_all, span_again, after_takes, starts_itself}
use Rattle.mm_xml.proofs.Attributes.{quote_no_space, space_no_name, gap_spaces}
use Rattle.mm_xml.proofs.Tags.{instruction_rest}
use Rattle.mm_xml.proofs.DoctypeFacts.{quoted_takes, quoted_again}
use Rattle.mm_xml.proofs.Content.{token_again}

-- ---- words

strip_takes : (word cs r : List ℕ) → stripped word cs ≡ Some r → cs ≡ word ++ r
strip_takes [] cs r e = some_is cs r e
strip_takes (p ∷ ps) [] r e = absurd cc
strip_takes (p ∷ ps) (c ∷ cs) r e =
    let t = taken (eqb p c) (stripped ps cs) r e in
    rw (eqb-true p c t.0) (ap (λ (y : List ℕ). c ∷ y) (strip_takes ps cs r t.1))

strip_again : (word r : List ℕ) → stripped word (word ++ r) ≡ Some r
strip_again [] r = refl
strip_again (p ∷ ps) r = ap (λ b. cond b (stripped ps (ps ++ r)) no) (itself p) ∙ strip_again ps r
  where
    itself : (n : ℕ) → eqb n n ≡ true
    itself n = grind arith

-- ---- settings

record SettingTakes (test : List ℕ → Bool) (word cs rest : List ℕ) : Type 0 where
  setting : Setting
  is : is_setting test setting ≡ true
  parts : cs ≡ spelled_setting word setting ++ rest

setting_takes : (test : List ℕ → Bool) (word cs rest : List ℕ) → passed test (setting_at word cs) ≡ Some rest → SettingTakes test word cs rest
setting_takes test word cs rest e =
    let g = (span is_space cs).0 in
    let more = (span is_space cs).1 in
    let p = bind_some (setting_at word cs) (λ x. cond (test x.0) (Some x.1) None) rest e in
    let t = taken (test p.0.0) (Some p.0.1) rest p.2 in
    let a = taken (is_gap g) (stripped word more >>= λ r. equals_at r >>= λ v. quoted_text_at v) p.0 p.1 in
    let b = bind_some (stripped word more) (λ r. equals_at r >>= λ v. quoted_text_at v) p.0 a.1 in
    let v = bind_some (equals_at b.0) (λ v. quoted_text_at v) p.0 b.2 in
    let d = bind_some (after 61 (span is_space b.0).1) (λ r. Some (span is_space r).1) v.0 v.1 in
    let q = bind_some (quoted_at is_char v.0) (λ q. Some (q.0.text, q.1)) p.0 v.2 in
    let u = quoted_takes is_char v.0 q.0 q.1 in
    let pair : (q.0.0.text, q.0.1) ≡ p.0 = some_is _ _ q.2 in
    let before = (span is_space b.0).0 in
    let behind = (span is_space d.0).0 in
    record {
      setting = record { gap = g; before = before; after = behind; value = q.0.0 };
      is = and_from _ _ a.0 (and_from _ _ (span_all is_space b.0) (and_from _ _ (span_all is_space d.0) (and_from _ _ u.is (ap (λ (x : List ℕ × List ℕ). test x.0) pair ∙ t.0))));
      parts =
          sym (span_whole is_space cs)
          ∙ ap (λ (y : List ℕ). g ++ y) (strip_takes word more b.0 b.1
          ∙ ap (λ (y : List ℕ). word ++ y) (sym (span_whole is_space b.0)
          ∙ ap (λ (y : List ℕ). before ++ y) (after_takes 61 (span is_space b.0).1 d.0 d.1
          ∙ ap (λ (y : List ℕ). 61 ∷ y) (sym (span_whole is_space d.0)
          ∙ ap (λ (y : List ℕ). behind ++ y) (some_is _ _ d.2 ∙ u.parts ∙ ap (λ (y : List ℕ). spelled_quoted q.0.0 ++ y) (ap (λ (x : List ℕ × List ℕ). x.1) pair ∙ some_is _ _ t.1))))))
          ∙ group g word before behind (spelled_quoted q.0.0) rest;
    }
  where
    group : (g w b a q r : List ℕ) → g ++ (w ++ (b ++ (61 ∷ (a ++ (q ++ r))))) ≡ (g ++ (w ++ (b ++ (61 ∷ (a ++ q))))) ++ r
    group g w b a q r = simp append_assoc

abbrev behind_gap : List ℕ → List ℕ × List ℕ → Found (List ℕ)
behind_gap word y = cond (is_gap y.0) (stripped word y.1 >>= λ r. equals_at r >>= λ v. quoted_text_at v) None

record SettingFacts (test : List ℕ → Bool) (s : Setting) : Type 0 where
  gap : is_gap s.gap ≡ true
  before : list_all is_space s.before ≡ true
  after : list_all is_space s.after ≡ true
  value : is_quoted is_char s.value ≡ true
  passes : test s.value.text ≡ true

setting_facts : (test : List ℕ → Bool) (s : Setting) → is_setting test s ≡ true → SettingFacts test s
setting_facts test s h =
    let g = and_parts (is_gap s.gap) _ h in
    let b = and_parts (list_all is_space s.before) _ g.1 in
    let a = and_parts (list_all is_space s.after) _ b.1 in
    let v = and_parts (is_quoted is_char s.value) (test s.value.text) a.1 in
    record { gap = g.0; before = b.0; after = a.0; value = v.0; passes = v.1 }

-- a setting and what comes after it, from its word on
abbrev from_word : List ℕ → Setting → List ℕ → List ℕ
from_word word s rest = word ++ (s.before ++ (61 ∷ (s.after ++ (spelled_quoted s.value ++ rest))))

setting_group : (word : List ℕ) (s : Setting) (rest : List ℕ) → spelled_setting word s ++ rest ≡ s.gap ++ from_word word s rest
setting_group word s rest = group s.gap word s.before s.after (spelled_quoted s.value) rest
  where
    group : (g w b a q r : List ℕ) → (g ++ (w ++ (b ++ (61 ∷ (a ++ q))))) ++ r ≡ g ++ (w ++ (b ++ (61 ∷ (a ++ (q ++ r)))))
    group g w b a q r = simp append_assoc

setting_again : (test : List ℕ → Bool) (word : List ℕ) (s : Setting) (rest : List ℕ) → ((r : List ℕ) → Stops is_space (word ++ r)) → is_setting test s ≡ true → passed test (setting_at word (spelled_setting word s ++ rest)) ≡ Some rest
setting_again test word s rest stop h =
    let f = setting_facts test s h in
    let quote_is = (and_parts (is_quote s.value.quote) _ f.value).0 in
    let last = spelled_quoted s.value ++ rest in
    let tail = s.before ++ (61 ∷ (s.after ++ last)) in
    ap (λ (x : List ℕ). passed test (setting_at word x)) (setting_group word s rest)
    ∙ ap (λ (y : List ℕ × List ℕ). passed test (behind_gap word y)) (span_again is_space s.gap (word ++ tail) (gap_spaces s.gap f.gap) (stop tail))
    ∙ ap (λ (b : Bool). passed test (cond b (stripped word (word ++ tail) >>= λ r. equals_at r >>= λ v. quoted_text_at v) no)) f.gap
    ∙ ap (λ (o : Option (List ℕ)). passed test (o >>= λ r. equals_at r >>= λ v. quoted_text_at v)) (strip_again word tail)
    ∙ ap (λ (y : List ℕ × List ℕ). passed test ((after 61 y.1 >>= λ r. some (span is_space r).1) >>= λ v. quoted_text_at v)) (span_again is_space s.before (61 ∷ (s.after ++ last)) f.before refl)
    ∙ ap (λ (y : List ℕ × List ℕ). passed test (quoted_text_at y.1)) (span_again is_space s.after last f.after (quote_no_space s.value.quote quote_is))
    ∙ ap (λ (o : Found Quoted). passed test (o >>= λ q. some (q.0.text, q.1))) (quoted_again is_char s.value rest f.value)
    ∙ ap (λ (b : Bool). cond b (some rest) no) f.passes

-- ---- settings that may be left out

record IfTakes (test : List ℕ → Bool) (word cs rest : List ℕ) : Type 0 where
  setting : Option Setting
  is : is_setting_if test setting ≡ true
  parts : cs ≡ spelled_if word setting ++ rest

if_takes : (test : List ℕ → Bool) (word cs rest : List ℕ) → after_if word test cs ≡ Some rest → IfTakes test word cs rest
if_takes test word cs rest e =
    elim (chosen (starts word (span is_space cs).1) (passed test (setting_at word cs)) (some cs) (Some rest) e) [
      | inl w ↦ let t = setting_takes test word cs rest w.1 in record { setting = Some t.setting; is = t.is; parts = t.parts }
      | inr w ↦ record { setting = None; is = refl; parts = some_is cs rest w.1 }
    ]

-- a word that doesn't stand there is left out
if_skips : (test : List ℕ → Bool) (word g more : List ℕ) → list_all is_space g ≡ true → Stops is_space more → starts word more ≡ false → after_if word test (g ++ more) ≡ Some (g ++ more)
if_skips test word g more h stop n =
    ap (λ (y : List ℕ × List ℕ). cond (starts word y.1) (passed test (setting_at word (g ++ more))) (some (g ++ more))) (span_again is_space g more h stop)
    ∙ ap (λ (b : Bool). cond b (passed test (setting_at word (g ++ more))) (some (g ++ more))) n

if_again : (test : List ℕ → Bool) (word : List ℕ) (s : Option Setting) (rest : List ℕ) → ((r : List ℕ) → Stops is_space (word ++ r)) → is_setting_if test s ≡ true → after_if word test rest ≡ Some rest → after_if word test (spelled_if word s ++ rest) ≡ Some rest
if_again test word None rest stop h skip = skip
if_again test word (Some s) rest stop h skip =
    let f = setting_facts test s h in
    let all = spelled_setting word s ++ rest in
    let tail = s.before ++ (61 ∷ (s.after ++ (spelled_quoted s.value ++ rest))) in
    let here : starts word (span is_space all).1 ≡ true =
    ap (λ (x : List ℕ). starts word (span is_space x).1) (setting_group word s rest) ∙ ap (λ (y : List ℕ × List ℕ). starts word y.1) (span_again is_space s.gap (word ++ tail) (gap_spaces s.gap f.gap) (stop tail)) ∙ starts_itself word tail in
    ap (λ (b : Bool). cond b (passed test (setting_at word all)) (some all)) here ∙ setting_again test word s rest stop h

-- ---- the declaration

pub declaration_takes : (cs rest : List ℕ) → after_declaration cs ≡ Some rest → (d : Declaration) × (is_declaration d ≡ true) × (cs ≡ spelled_declaration d ++ rest)
unfolding after_declaration
declaration_takes cs rest e =
    let a = bind_some (stripped declaration_start cs) (λ a. after_version a >>= λ b. after_encoding b >>= λ c. after_standalone c >>= λ d. stripped declaration_end (span is_space d).1) rest e in
    let b = bind_some (after_version a.0) (λ b. after_encoding b >>= λ c. after_standalone c >>= λ d. stripped declaration_end (span is_space d).1) rest a.2 in
    let c = bind_some (after_encoding b.0) (λ c. after_standalone c >>= λ d. stripped declaration_end (span is_space d).1) rest b.2 in
    let d = bind_some (after_standalone c.0) (λ d. stripped declaration_end (span is_space d).1) rest c.2 in
    let v = setting_takes is_version version_word a.0 b.0 b.1 in
    let n = if_takes is_encoding encoding_word b.0 c.0 c.1 in
    let s = if_takes is_standalone standalone_word c.0 d.0 d.1 in
    let gap = (span is_space d.0).0 in (
      record { version = v.setting; encoding = n.setting; standalone = s.setting; gap = gap },
      and_from _ _ v.is (and_from _ _ n.is (and_from _ _ s.is (span_all is_space d.0))),
      strip_takes declaration_start cs a.0 a.1
          ∙ ap (λ (y : List ℕ). declaration_start ++ y) (v.parts
          ∙ ap (λ (y : List ℕ). spelled_setting version_word v.setting ++ y) (n.parts
          ∙ ap (λ (y : List ℕ). spelled_if encoding_word n.setting ++ y) (s.parts
          ∙ ap (λ (y : List ℕ). spelled_if standalone_word s.setting ++ y) (sym (span_whole is_space d.0) ∙ ap (λ (y : List ℕ). gap ++ y) (strip_takes declaration_end (span is_space d.0).1 rest d.2)))))
          ∙ group (spelled_setting version_word v.setting) (spelled_if encoding_word n.setting) (spelled_if standalone_word s.setting) gap rest,
    )
  where
    group : (v n s g r : List ℕ) → declaration_start ++ (v ++ (n ++ (s ++ (g ++ (declaration_end ++ r))))) ≡ (declaration_start ++ (v ++ (n ++ (s ++ (g ++ declaration_end))))) ++ r
    group v n s g r = simp append_assoc

pub declaration_again : (d : Declaration) (rest : List ℕ) → is_declaration d ≡ true → after_declaration (spelled_declaration d ++ rest) ≡ Some rest
unfolding after_declaration
declaration_again d rest h =
    let v = and_parts (is_setting is_version d.version) _ h in
    let n = and_parts (is_setting_if is_encoding d.encoding) _ v.1 in
    let s = and_parts (is_setting_if is_standalone d.standalone) (list_all is_space d.gap) n.1 in
    let last = d.gap ++ (declaration_end ++ rest) in
    let behind = spelled_if standalone_word d.standalone ++ last in
    ap (λ (x : List ℕ). after_declaration x) (group (spelled_setting version_word d.version) (spelled_if encoding_word d.encoding) (spelled_if standalone_word d.standalone) d.gap rest)
    ∙ ap (λ (o : Option (List ℕ)). o >>= λ b. after_encoding b >>= λ c. after_standalone c >>= λ d. stripped declaration_end (span is_space d).1) (setting_again is_version version_word d.version (spelled_if encoding_word d.encoding ++ behind) (λ r. refl) v.0)
    ∙ ap (λ (o : Option (List ℕ)). o >>= λ c. after_standalone c >>= λ d. stripped declaration_end (span is_space d).1) (if_again is_encoding encoding_word d.encoding behind (λ r. refl) n.0 (skips d.standalone d.gap rest s.0 s.1))
    ∙ ap (λ (o : Option (List ℕ)). o >>= λ d. stripped declaration_end (span is_space d).1) (if_again is_standalone standalone_word d.standalone last (λ r. refl) s.0 (if_skips is_standalone standalone_word d.gap (declaration_end ++ rest) s.1 refl refl))
    ∙ ap (λ (y : List ℕ × List ℕ). stripped declaration_end y.1) (span_again is_space d.gap (declaration_end ++ rest) s.1 refl)
  where
    group : (v n s g r : List ℕ) → (declaration_start ++ (v ++ (n ++ (s ++ (g ++ declaration_end))))) ++ r ≡ declaration_start ++ (v ++ (n ++ (s ++ (g ++ (declaration_end ++ r)))))
    group v n s g r = simp append_assoc

    skips : (o : Option Setting) (g r : List ℕ) → is_setting_if is_standalone o ≡ true → list_all is_space g ≡ true → after_if encoding_word is_encoding (spelled_if standalone_word o ++ (g ++ (declaration_end ++ r))) ≡ Some (spelled_if standalone_word o ++ (g ++ (declaration_end ++ r)))
    skips None g r h hg = if_skips is_encoding encoding_word g (declaration_end ++ r) hg refl refl
    skips (Some s) g r h hg =
        let f = setting_facts is_standalone s h in
        let last = g ++ (declaration_end ++ r) in
        subst (λ (x : List ℕ). after_if encoding_word is_encoding x ≡ Some x) (sym (setting_group standalone_word s last)) (if_skips is_encoding encoding_word s.gap (from_word standalone_word s last) (gap_spaces s.gap f.gap) refl refl)

-- ---- a declaration is no token

no_instruction : (xs : List ℕ) → Stops is_name_char xs → instruction_at (120 ∷ 109 ∷ 108 ∷ xs) ≡ None
unfolding instruction_at
no_instruction xs stop = ap (λ (y : List ℕ × List ℕ). instruction_rest y) (span_again is_name_char (120 ∷ 109 ∷ 108 ∷ []) xs refl stop)

no_token : (xs : List ℕ) → Stops is_name_char xs → token_at (declaration_start ++ xs) ≡ None
unfolding token_at markup_at
no_token xs stop = no_instruction xs stop

gap_stops : (g x y z : List ℕ) → is_gap g ≡ true → Stops is_name_char (((g ++ x) ++ y) ++ z)
gap_stops [] x y z h = absurd cc
gap_stops (c ∷ cs) x y z h = space_no_name c (and_parts (is_space c) (list_all is_space cs) h).0

pub undeclared : (ts : List Token) → list_all is_token ts ≡ true → after_declaration (flat_map spelled ts) ≡ None
unfolding after_declaration
undeclared [] each = refl
undeclared (t ∷ ts) each =
    let cs = spelled t ++ flat_map spelled ts in
    elim (after_declaration cs) as (λ o. after_declaration cs ≡ o → o ≡ None) [
      | None ↦ λ e. refl
      | Some rest ↦ λ e. absurd (never t (flat_map spelled ts) rest (and_parts (is_token t) (list_all is_token ts) each).0 e)
    ] refl
  where
    none_is : (x : Token × List ℕ) (o : Found Token) → o ≡ Some x → o ≡ None → ⊥
    none_is x o a b = cc

    never : (t : Token) (more rest : List ℕ) → is_token t ≡ true → after_declaration (spelled t ++ more) ≡ Some rest → ⊥
    never t more rest is e =
        let d = declaration_takes (spelled t ++ more) rest e in
        let v = setting_facts is_version d.0.version (and_parts (is_setting is_version d.0.version) _ d.1).0 in
        none_is (t, more) (token_at (spelled t ++ more)) (token_again t more is) (ap (λ (x : List ℕ). token_at x) d.2 ∙ no_token _ (gap_stops d.0.version.gap _ _ rest v.gap))

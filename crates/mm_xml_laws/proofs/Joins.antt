-- Parts of a document behind one another.
use Rattle.std.proofs.Common.{◌≡◌, ℕ, suc, ◌+◌, Bool, true, false, cond, ◌&&◌, not, List, [], ◌∷◌, ◌++◌, eqb, leb, refl, sym, ap, subst, ◌∙◌, append_assoc, arith, ◌⊎◌, inl, inr}
use Rattle.std.specs.List.{flat_map, list_all}
use Rattle.std.specs.Str.{is_utf8, chars, encode_utf8_all}
use Rattle.std.proofs.lemmas.Bool.Decides.{nat_tests}
use Rattle.std.proofs.lemmas.List.{append-nil}
use Rattle.std.proofs.lemmas.List.Folds.{list_all-append}
use Rattle.std.proofs.lemmas.Str.{encodes-append, is_utf8-from_IsUtf8, IsUtf8-from_is_utf8, IsUtf8-append, encodes-chars, chars_from_encodes}
use Rattle.std.proofs.lemmas.Bool.{and_parts, and_from}
use Rattle.mm_tree.specs.Characters.{is_char, is_name_char, is_short_name}
use Rattle.mm_tree.specs.Validity.{are_chars}
use Rattle.mm_xml.specs.Syntax.{Literal, Reference, is_literal, Written, spelled_written, ending, Token, Data, Section, Comment, Instruction, Start, Close, Doctype, is_token, spelled}
use Rattle.mm_xml.specs.Grammar.{unbroken, normal, is_inside}
use Rattle.mm_xml.specs.Productions.{is_plain, with_line_feeds, PartBy, closes, is_end, fewer}
use Rattle.mm_xml.specs.Facts.Characters.{short_chars}
use Rattle.mm_xml.specs.Facts.Characters.{same_chars, encoded_chars}

-- ---- bytes and characters

chars_append : (a b : List ℕ) → is_utf8 a ≡ true → is_utf8 b ≡ true → chars (a ++ b) ≡ chars a ++ chars b
chars_append a b ha hb =
    let u = IsUtf8-from_is_utf8 a ha in
    let v = IsUtf8-from_is_utf8 b hb in
    sym (chars_from_encodes (chars a ++ chars b) (a ++ b) (IsUtf8-append a b u v) (encodes-append (chars a) (chars b) ∙ (λ i. encodes-chars a u i ++ encodes-chars b v i)))

pub record Together (a b : List ℕ) : Type 0 where
  pub encoded : are_chars (a ++ b) ≡ true
  pub chars_are : chars (a ++ b) ≡ chars a ++ chars b

pub together : (a b : List ℕ) → are_chars a ≡ true → are_chars b ≡ true → Together a b
together a b ha hb =
    let p = and_parts (is_utf8 a) (list_all is_char (chars a)) ha in
    let q = and_parts (is_utf8 b) (list_all is_char (chars b)) hb in
    let e = chars_append a b p.0 q.0 in
    record {
      encoded = and_from _ _ (is_utf8-from_IsUtf8 (a ++ b) (IsUtf8-append a b (IsUtf8-from_is_utf8 a p.0) (IsUtf8-from_is_utf8 b q.0))) (ap (λ (x : List ℕ). list_all is_char x) e ∙ list_all-append is_char (chars a) (chars b) ∙ and_from _ _ p.1 q.1);
      chars_are = e;
    }

-- ---- line ends

-- whether the last character is a carriage return
abbrev pub returned : Bool → List ℕ → Bool
returned after [] = after
returned after (c ∷ cs) = returned (eqb c 13) cs

pub normal_append : (after : Bool) (xs ys : List ℕ) → normal after (xs ++ ys) ≡ normal after xs ++ normal (returned after xs) ys
normal_append after [] ys = refl
normal_append after (c ∷ cs) ys =
    elim (eqb c 13) as (λ b. cond b (10 ∷ normal true (cs ++ ys)) (cond (after && eqb c 10) (normal false (cs ++ ys)) (c ∷ normal false (cs ++ ys))) ≡ cond b (10 ∷ normal true cs) (cond (after && eqb c 10) (normal false cs) (c ∷ normal false cs)) ++ normal (returned b cs) ys) [
      | true ↦ ap (λ (r : List ℕ). 10 ∷ r) (normal_append true cs ys)
      | false ↦ elim (after && eqb c 10) as (λ b. cond b (normal false (cs ++ ys)) (c ∷ normal false (cs ++ ys)) ≡ cond b (normal false cs) (c ∷ normal false cs) ++ normal (returned false cs) ys) [
        | true ↦ normal_append false cs ys
        | false ↦ ap (λ (r : List ℕ). c ∷ r) (normal_append false cs ys)
      ]
    ]

-- the last character, or d
abbrev pub last_or : ℕ → List ℕ → ℕ
last_or d [] = d
last_or d (c ∷ cs) = last_or c cs

pub last_append : (d : ℕ) (xs ys : List ℕ) → last_or d (xs ++ ys) ≡ last_or (last_or d xs) ys
last_append d [] ys = refl
last_append d (x ∷ xs) ys = last_append x xs ys

-- where a carriage return was last, the last character is a line feed
line_last : (after : Bool) (d : ℕ) (xs : List ℕ) → (after ≡ true → d ≡ 10) → returned after xs ≡ true → last_or d (normal after xs) ≡ 10
line_last after d [] h e = h e
line_last after d (c ∷ cs) h e =
    elim (eqb c 13) as (λ b. returned b cs ≡ true → last_or d (cond b (10 ∷ normal true cs) (cond (after && eqb c 10) (normal false cs) (c ∷ normal false cs))) ≡ 10) [
      | true ↦ λ r. line_last true 10 cs (λ t. refl) r
      | false ↦ λ r. elim (after && eqb c 10) as (λ b. last_or d (cond b (normal false cs) (c ∷ normal false cs)) ≡ 10) [
        | true ↦ line_last false d cs (λ t. absurd cc) r
        | false ↦ line_last false c cs (λ t. absurd cc) r
      ]
    ] e

-- bytes whose characters end with no line feed leave no line end open
pub no_return : (cs ds : List ℕ) → normal false cs ≡ ds → eqb (last_or 0 ds) 10 ≡ false → returned false cs ≡ false
no_return cs ds e last =
    elim (returned false cs) as (λ b. returned false cs ≡ b → b ≡ false) [
      | true ↦ λ r. let t : eqb (last_or 0 ds) 10 ≡ true = ap (λ n. eqb n 10) (ap (λ (x : List ℕ). last_or 0 x) (sym e) ∙ line_last false 0 cs (λ t. absurd cc) r) in absurd cc
      | false ↦ λ r. refl
    ] refl

-- characters that don't begin with a line feed
abbrev pub NoFeed : List ℕ → Type 0
NoFeed [] = Unit {0}
NoFeed (c ∷ cs) = eqb c 10 ≡ false

pub either_way : (after : Bool) (cs : List ℕ) → NoFeed cs → normal after cs ≡ normal false cs
either_way false cs h = refl
either_way true [] h = refl
either_way true (c ∷ cs) h = ap (λ b. cond (eqb c 13) (10 ∷ normal true cs) (cond b (normal false cs) (c ∷ normal false cs))) h

plain_is : (c : ℕ) → is_plain c ≡ true → (is_char c ≡ true) × (eqb c 13 ≡ false)
plain_is c h = let w = and_parts (is_char c) (not (eqb c 13)) h in (w.0, negated (eqb c 13) w.1)
  where
    negated : (b : Bool) → not b ≡ true → b ≡ false
    negated true e = absurd cc
    negated false e = refl

plain_chars : (cs : List ℕ) → list_all is_plain cs ≡ true → list_all is_char cs ≡ true
plain_chars [] h = refl
plain_chars (c ∷ cs) h = let w = and_parts (is_plain c) (list_all is_plain cs) h in and_from (is_char c) (list_all is_char cs) (plain_is c w.0).0 (plain_chars cs w.1)

plain_normal : (cs : List ℕ) → list_all is_plain cs ≡ true → normal false cs ≡ cs
plain_normal [] h = refl
plain_normal (c ∷ cs) h =
    let w = and_parts (is_plain c) (list_all is_plain cs) h in
    ap (λ b. cond b (10 ∷ normal true cs) (c ∷ normal false cs)) (plain_is c w.0).1 ∙ ap (λ (r : List ℕ). c ∷ r) (plain_normal cs w.1)

pub plain_lines : (cs : List ℕ) → list_all is_plain cs ≡ true → with_line_feeds (encode_utf8_all cs) ≡ cs
plain_lines cs h = ap (λ (x : List ℕ). normal false x) (same_chars cs (plain_chars cs h)) ∙ plain_normal cs h

pub plain_same : (cs : List ℕ) → list_all is_plain cs ≡ true → chars (encode_utf8_all cs) ≡ cs
plain_same cs h = same_chars cs (plain_chars cs h)

pub plain_encoded : (cs : List ℕ) → list_all is_plain cs ≡ true → are_chars (encode_utf8_all cs) ≡ true
plain_encoded cs h = encoded_chars cs (plain_chars cs h)

-- ---- tokens

pub all_append : (p : Token → Bool) (xs ys : List Token) → list_all p xs ≡ true → list_all p ys ≡ true → list_all p (xs ++ ys) ≡ true
all_append p xs ys h k = list_all-append p xs ys ∙ and_from _ _ h k

pub spelled_append : (xs ys : List Token) → flat_map spelled (xs ++ ys) ≡ flat_map spelled xs ++ flat_map spelled ys
spelled_append [] ys = refl
spelled_append (x ∷ xs) ys = ap (λ (r : List ℕ). spelled x ++ r) (spelled_append xs ys) ∙ sym (append_assoc (spelled x) (flat_map spelled xs) (flat_map spelled ys))

-- how many square brackets stand last
abbrev pub squares : ℕ → List Token → ℕ
squares n [] = n
squares n (Data (Literal c) ∷ ts) = squares (cond (eqb c 93) (n + 1) 0) ts
squares n (Data (Reference body) ∷ ts) = squares 0 ts
squares n (Section cs ∷ ts) = squares 0 ts
squares n (Comment cs ∷ ts) = squares 0 ts
squares n (Instruction name cs ∷ ts) = squares 0 ts
squares n (Start empty name attributes gap ∷ ts) = squares 0 ts
squares n (Close name gap ∷ ts) = squares 0 ts
squares n (Doctype gap name ext after ∷ ts) = squares 0 ts

pub unbroken_append : (n : ℕ) (xs ys : List Token) → unbroken n (xs ++ ys) ≡ (unbroken n xs && unbroken (squares n xs) ys)
unbroken_append n [] ys = refl
unbroken_append n (Data (Literal c) ∷ ts) ys =
    elim (eqb c 93) as (λ b. cond b (unbroken (n + 1) (ts ++ ys)) (not (eqb c 62 && leb 2 n) && unbroken 0 (ts ++ ys)) ≡ (cond b (unbroken (n + 1) ts) (not (eqb c 62 && leb 2 n) && unbroken 0 ts) && unbroken (squares (cond b (n + 1) 0) ts) ys)) [
      | true ↦ unbroken_append (n + 1) ts ys
      | false ↦ left_side (not (eqb c 62 && leb 2 n)) _ _ _ (unbroken_append 0 ts ys)
    ]
  where
    left_side : (a x p q : Bool) → x ≡ (p && q) → (a && x) ≡ ((a && p) && q)
    left_side true x p q e = e
    left_side false x p q e = refl
unbroken_append n (Data (Reference body) ∷ ts) ys = unbroken_append 0 ts ys
unbroken_append n (Section cs ∷ ts) ys = unbroken_append 0 ts ys
unbroken_append n (Comment cs ∷ ts) ys = unbroken_append 0 ts ys
unbroken_append n (Instruction name cs ∷ ts) ys = unbroken_append 0 ts ys
unbroken_append n (Start empty name attributes gap ∷ ts) ys = unbroken_append 0 ts ys
unbroken_append n (Close name gap ∷ ts) ys = unbroken_append 0 ts ys
unbroken_append n (Doctype gap name ext after ∷ ts) ys = unbroken_append 0 ts ys

-- a run of character data doesn't go on at these tokens
abbrev pub EndsRun : List Token → Type 0
EndsRun ys = (n : ℕ) → unbroken n ys ≡ unbroken 0 ys

-- the first token, where the first character is `<` or `&`
no_literal : (c : ℕ) → is_literal c ≡ true → (c ≡ 60) ⊎ (c ≡ 38) → ⊥
no_literal c h (inl e) = let k : is_literal 60 ≡ true = subst (λ (n : ℕ). is_literal n ≡ true) e h in cc
no_literal c h (inr e) = let k : is_literal 38 ≡ true = subst (λ (n : ℕ). is_literal n ≡ true) e h in cc

pub run_ends : (ys : List Token) (b : ℕ) (r : List ℕ) → list_all is_token ys ≡ true → (b ≡ 60) ⊎ (b ≡ 38) → flat_map spelled ys ≡ b ∷ r → EndsRun ys
run_ends [] b r each is e n = refl
run_ends (Data (Literal c) ∷ ts) b r each is e n = absurd (no_literal c (and_parts (is_literal c) (list_all is_token ts) each).0 (same is (first c b (flat_map spelled ts) r e)))
  where
    first : (c b : ℕ) (x y : List ℕ) → c ∷ x ≡ b ∷ y → c ≡ b
    first c b x y e = cc

    same : (b ≡ 60) ⊎ (b ≡ 38) → c ≡ b → (c ≡ 60) ⊎ (c ≡ 38)
    same (inl e) s = inl (s ∙ e)
    same (inr e) s = inr (s ∙ e)
run_ends (Data (Reference body) ∷ ts) b r each is e n = refl
run_ends (Section cs ∷ ts) b r each is e n = refl
run_ends (Comment cs ∷ ts) b r each is e n = refl
run_ends (Instruction name cs ∷ ts) b r each is e n = refl
run_ends (Start empty name attributes gap ∷ ts) b r each is e n = refl
run_ends (Close name gap ∷ ts) b r each is e n = refl
run_ends (Doctype gap name ext after ∷ ts) b r each is e n = refl

no_run : (ys : List Token) → flat_map spelled ys ≡ [] → EndsRun ys
no_run [] e n = refl
no_run (Data (Literal c) ∷ ts) e n = absurd (never c (flat_map spelled ts) e)
  where
    never : (c : ℕ) (x : List ℕ) → c ∷ x ≡ [] → ⊥
    never c x e = cc
no_run (Data (Reference body) ∷ ts) e n = refl
no_run (Section cs ∷ ts) e n = refl
no_run (Comment cs ∷ ts) e n = refl
no_run (Instruction name cs ∷ ts) e n = refl
no_run (Start empty name attributes gap ∷ ts) e n = refl
no_run (Close name gap ∷ ts) e n = refl
no_run (Doctype gap name ext after ∷ ts) e n = refl

-- ---- one part behind another

pub part_join : (a b : List ℕ) (xs ys : List Token) → PartBy a xs → PartBy b ys → normal (returned false (chars a)) (chars b) ≡ with_line_feeds b → unbroken (squares 0 xs) ys ≡ unbroken 0 ys → PartBy (a ++ b) (xs ++ ys)
part_join a b xs ys p q e u =
    let t = together a b p.encoded q.encoded in
    record {
      encoded = t.encoded;
      each = all_append is_token xs ys p.each q.each;
      spelled_so = ap (λ (x : List ℕ). normal false x) t.chars_are ∙ normal_append false (chars a) (chars b) ∙ (λ i. p.spelled_so i ++ (e ∙ q.spelled_so) i) ∙ sym (spelled_append xs ys);
      whole = unbroken_append 0 xs ys ∙ and_from _ _ p.whole (u ∙ q.whole);
    }

-- a part that ends with `>` and no square bracket
pub join_behind : (a b : List ℕ) (xs ys : List Token) → PartBy a xs → PartBy b ys → last_or 0 (flat_map spelled xs) ≡ 62 → squares 0 xs ≡ 0 → PartBy (a ++ b) (xs ++ ys)
join_behind a b xs ys p q last s = part_join a b xs ys p q (ap (λ r. normal r (chars b)) (no_return (chars a) (flat_map spelled xs) p.spelled_so (ap (λ n. eqb n 10) last))) (ap (λ n. unbroken n ys) s)

abbrev pub BeginsMarkup : List ℕ → Type 0
BeginsMarkup cs = (b : ℕ) × (r : List ℕ) × (cs ≡ b ∷ r) × ((b ≡ 60) ⊎ (b ≡ 38))

markup_feed : (cs : List ℕ) → BeginsMarkup cs → NoFeed cs
markup_feed cs m = subst NoFeed (sym m.2) (test m.0 m.3)
  where
    test : (b : ℕ) → (b ≡ 60) ⊎ (b ≡ 38) → eqb b 10 ≡ false
    test b (inl e) = ap (λ n. eqb n 10) e
    test b (inr e) = ap (λ n. eqb n 10) e

markup_lines : (cs : List ℕ) (m : BeginsMarkup cs) → normal false cs ≡ m.0 ∷ normal false m.1
markup_lines cs m = ap (λ (x : List ℕ). normal false x) m.2 ∙ first m.0 m.1 m.3
  where
    first : (b : ℕ) (r : List ℕ) → (b ≡ 60) ⊎ (b ≡ 38) → normal false (b ∷ r) ≡ b ∷ normal false r
    first b r (inl e) = ap (λ n. cond (eqb n 13) (10 ∷ normal true r) (n ∷ normal false r)) e ∙ ap (λ n. n ∷ normal false r) (sym e)
    first b r (inr e) = ap (λ n. cond (eqb n 13) (10 ∷ normal true r) (n ∷ normal false r)) e ∙ ap (λ n. n ∷ normal false r) (sym e)

-- a part that begins with `<` or `&`
pub join_markup : (a b : List ℕ) (xs ys : List Token) → PartBy a xs → PartBy b ys → BeginsMarkup (chars b) → PartBy (a ++ b) (xs ++ ys)
join_markup a b xs ys p q m =
    part_join a b xs ys p q (either_way (returned false (chars a)) (chars b) (markup_feed (chars b) m)) (run_ends ys m.0 (normal false m.1) q.each m.3 (sym q.spelled_so ∙ markup_lines (chars b) m) (squares 0 xs))

-- a part that has no characters
pub join_nothing : (a b : List ℕ) (xs ys : List Token) → PartBy a xs → PartBy b ys → chars b ≡ [] → PartBy (a ++ b) (xs ++ ys)
join_nothing a b xs ys p q e =
    part_join a b xs ys p q (ap (λ (x : List ℕ). normal (returned false (chars a)) x) e ∙ sym (ap (λ (x : List ℕ). normal false x) e)) (no_run ys (sym q.spelled_so ∙ ap (λ (x : List ℕ). normal false x) e) (squares 0 xs))

-- ---- the characters of tokens

pub part_of : (ts : List Token) → list_all is_token ts ≡ true → list_all is_plain (flat_map spelled ts) ≡ true → unbroken 0 ts ≡ true → PartBy (encode_utf8_all (flat_map spelled ts)) ts
part_of ts each plain whole = record { encoded = plain_encoded (flat_map spelled ts) plain; each = each; spelled_so = plain_lines (flat_map spelled ts) plain; whole = whole }

pub part_of_one : (t : Token) → is_token t ≡ true → list_all is_plain (spelled t) ≡ true → unbroken 0 (t ∷ []) ≡ true → PartBy (encode_utf8_all (spelled t)) (t ∷ [])
part_of_one t is plain whole =
    let e : spelled t ++ [] ≡ spelled t = append-nil (spelled t) in
    subst (λ (x : List ℕ). PartBy (encode_utf8_all x) (t ∷ [])) e (part_of (t ∷ []) (and_from (is_token t) true is refl) (ap (λ (x : List ℕ). list_all is_plain x) e ∙ plain) whole)

pub no_part : PartBy [] []
no_part = part_of [] refl refl refl

pub plain_append : (xs ys : List ℕ) → list_all is_plain xs ≡ true → list_all is_plain ys ≡ true → list_all is_plain (xs ++ ys) ≡ true
plain_append xs ys h k = list_all-append is_plain xs ys ∙ and_from _ _ h k

pub plain_split : (xs ys : List ℕ) → list_all is_plain (xs ++ ys) ≡ true → (list_all is_plain xs ≡ true) × (list_all is_plain ys ≡ true)
plain_split xs ys h = and_parts _ _ (sym (list_all-append is_plain xs ys) ∙ h)

name_char_plain : (c : ℕ) → is_name_char c ≡ true → is_plain c ≡ true
name_char_plain c h = grind (arith, nat_tests)

pub name_plain : (name : List ℕ) → list_all is_name_char name ≡ true → list_all is_plain name ≡ true
name_plain [] h = refl
name_plain (c ∷ cs) h = let w = and_parts (is_name_char c) (list_all is_name_char cs) h in and_from (is_plain c) (list_all is_plain cs) (name_char_plain c w.0) (name_plain cs w.1)

ending_plain : (e : Bool) → list_all is_plain (ending e) ≡ true
ending_plain true = refl
ending_plain false = refl

pub start_plain : (e : Bool) (name gap : List ℕ) (ws : List Written) → is_short_name name ≡ true → list_all is_plain (flat_map spelled_written ws ++ gap) ≡ true → list_all is_plain (spelled (Start e name ws gap)) ≡ true
start_plain e name gap ws n h =
    let w = plain_split (flat_map spelled_written ws) gap h in
    plain_append name _ (name_plain name (short_chars name n)) (plain_append (flat_map spelled_written ws) _ w.0 (plain_append gap (ending e) w.1 (ending_plain e)))

pub close_plain : (name gap : List ℕ) → is_short_name name ≡ true → list_all is_plain gap ≡ true → list_all is_plain (spelled (Close name gap)) ≡ true
close_plain name gap n h = plain_append name _ (name_plain name (short_chars name n)) (plain_append gap (62 ∷ []) h refl)

-- ---- tags end with `>`

start_last : (d : ℕ) (e : Bool) (name gap : List ℕ) (ws : List Written) → last_or d (spelled (Start e name ws gap)) ≡ 62
start_last d e name gap ws = last_append 60 name _ ∙ last_append (last_or 60 name) (flat_map spelled_written ws) _ ∙ last_append (last_or (last_or 60 name) (flat_map spelled_written ws)) gap (ending e) ∙ last (last_or (last_or (last_or 60 name) (flat_map spelled_written ws)) gap) e
  where
    last : (d : ℕ) (e : Bool) → last_or d (ending e) ≡ 62
    last d true = refl
    last d false = refl

close_last : (d : ℕ) (name gap : List ℕ) → last_or d (spelled (Close name gap)) ≡ 62
close_last d name gap = last_append 47 name _ ∙ last_append (last_or 47 name) gap (62 ∷ [])

pub start_ends : (e : Bool) (name gap : List ℕ) (ws : List Written) → last_or 0 (flat_map spelled (Start e name ws gap ∷ [])) ≡ 62
start_ends e name gap ws = ap (λ (x : List ℕ). last_or 0 x) (append-nil (spelled (Start e name ws gap))) ∙ start_last 0 e name gap ws

last_of : (d : ℕ) (t : Token) (ts : List Token) → is_end ts ≡ true → ((d : ℕ) → last_or d (spelled t) ≡ 62) → last_or d (flat_map spelled (t ∷ ts)) ≡ 62
last_of d t [] h e = ap (λ (x : List ℕ). last_or d x) (append-nil (spelled t)) ∙ e d
last_of d t (u ∷ ts) h e = absurd cc

pub record Closed (xs : List Token) (d n : ℕ) : Type 0 where
  pub last : last_or d (flat_map spelled xs) ≡ 62
  pub no_square : squares n xs ≡ 0

more : (t : Token) (ts : List Token) (d n : ℕ) → Closed ts (last_or d (spelled t)) (squares n (t ∷ [])) → squares n (t ∷ ts) ≡ squares (squares n (t ∷ [])) ts → Closed (t ∷ ts) d n
more t ts d n c e = record { last = last_append d (spelled t) (flat_map spelled ts) ∙ c.last; no_square = e ∙ c.no_square }

no_squares : (n : ℕ) (ts : List Token) → is_end ts ≡ true → squares 0 ts ≡ 0
no_squares n [] h = refl
no_squares n (t ∷ ts) h = absurd cc

pub closed : (xs : List Token) (depth d n : ℕ) → closes depth xs ≡ true → Closed xs d n
closed [] depth d n h = absurd cc
closed (Data (Literal c) ∷ ts) depth d n h = more (Data (Literal c)) ts d n (closed ts depth _ _ (and_parts (is_inside depth) _ h).1) refl
closed (Data (Reference body) ∷ ts) depth d n h = more (Data (Reference body)) ts d n (closed ts depth _ _ (and_parts (is_inside depth) _ h).1) refl
closed (Section cs ∷ ts) depth d n h = more (Section cs) ts d n (closed ts depth _ _ (and_parts (is_inside depth) _ h).1) refl
closed (Comment cs ∷ ts) depth d n h = more (Comment cs) ts d n (closed ts depth _ _ (and_parts (is_inside depth) _ h).1) refl
closed (Instruction name cs ∷ ts) depth d n h = more (Instruction name cs) ts d n (closed ts depth _ _ (and_parts (is_inside depth) _ h).1) refl
closed (Start false name ws gap ∷ ts) depth d n h = more (Start false name ws gap) ts d n (closed ts (suc depth) _ _ h) refl
closed (Start true name ws gap ∷ ts) depth d n h =
    elim (is_inside depth) as (λ b. cond b (closes depth ts) (is_end ts) ≡ true → Closed (Start true name ws gap ∷ ts) d n) [
      | true ↦ λ k. more (Start true name ws gap) ts d n (closed ts depth _ _ k) refl
      | false ↦ λ k. record { last = last_of d (Start true name ws gap) ts k (λ m. start_last m true name gap ws); no_square = no_squares n ts k }
    ] h
closed (Close name gap ∷ ts) depth d n h =
    elim (is_inside (fewer depth)) as (λ b. cond b (closes (fewer depth) ts) (is_end ts) ≡ true → Closed (Close name gap ∷ ts) d n) [
      | true ↦ λ k. more (Close name gap) ts d n (closed ts (fewer depth) _ _ k) refl
      | false ↦ λ k. record { last = last_of d (Close name gap) ts k (λ m. close_last m name gap); no_square = no_squares n ts k }
    ] (and_parts (is_inside depth) _ h).1
closed (Doctype gap name ext after ∷ ts) depth d n h = absurd cc

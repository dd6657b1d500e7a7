-- Bytes come apart where their characters do.
use Rattle.std.proofs.Common.{◌≡◌, ℕ, ◌+◌, ◌≤◌, Bool, true, false, cond, ◌&&◌, not, List, [], ◌∷◌, ◌++◌, eqb, leb, refl, sym, ap, ◌∙◌, arith, ◌⊎◌, inl, inr}
use Rattle.std.specs.List.{flat_map, list_all}
use Rattle.std.specs.Str.{is_utf8, chars, encode_utf8_all}
use Rattle.std.proofs.lemmas.Bool.Decides.{nat_tests}
use Rattle.std.proofs.lemmas.Bool.{and_parts, and_from}
use Rattle.std.proofs.lemmas.List.{append-nil}
use Rattle.std.proofs.lemmas.List.Folds.{list_all-append}
use Rattle.std.proofs.lemmas.Str.{encodes-append, IsUtf8-from_is_utf8, encodes-chars}
use Rattle.mm_tree.specs.Characters.{is_char}
use Rattle.mm_xml.specs.Syntax.{Literal, Reference, Token, Data, Section, Comment, Instruction, Start, Close, Doctype, is_token, spelled}
use Rattle.mm_xml.specs.Grammar.{unbroken, normal}
use Rattle.mm_xml.specs.Productions.{PartBy}
use Rattle.mm_xml.specs.Parts.{SpellsCharacters, SpellsToken}
use Rattle.mm_xml_laws.proofs.Joins.{spelled_append, squares, unbroken_append}
use Rattle.mm_xml.specs.Facts.Characters.{same_chars, encoded_chars}

-- ---- characters

-- characters in two, each with its line ends turned
record Halves (after : Bool) (cs xs ys : List ℕ) : Type 0 where
  left : List ℕ
  right : List ℕ
  whole : cs ≡ left ++ right
  left_is : normal after left ≡ xs
  right_is : normal false right ≡ ys

-- what the first character becomes, as it is a carriage return or the line feed after one
abbrev turned : Bool → Bool → ℕ → List ℕ → List ℕ
turned return feed c cs = cond return (10 ∷ normal true cs) (cond feed (normal false cs) (c ∷ normal false cs))

record Later (return feed : Bool) (c : ℕ) (cs xs ys : List ℕ) : Type 0 where
  left : List ℕ
  right : List ℕ
  whole : cs ≡ left ++ right
  left_is : turned return feed c left ≡ xs
  right_is : normal false right ≡ ys

heads : (a b : ℕ) (x y : List ℕ) → a ∷ x ≡ b ∷ y → a ≡ b
heads a b x y e = cc

tails : (a b : ℕ) (x y : List ℕ) → a ∷ x ≡ b ∷ y → x ≡ y
tails a b x y e = cc

first_half : (return feed : Bool) (c : ℕ) (cs xs ys : List ℕ) → ((after : Bool) (xs ys : List ℕ) → normal after cs ≡ xs ++ ys → Halves after cs xs ys) → turned return feed c cs ≡ xs ++ ys
    → ((xs ≡ []) × (turned return false c cs ≡ ys)) ⊎ Later return feed c cs xs ys
first_half true feed c cs [] ys more e = inl (refl, e)
first_half true feed c cs (x ∷ xs) ys more e =
    let h = more true xs ys (tails 10 x _ _ e) in
    inr (record { left = h.left; right = h.right; whole = h.whole; left_is = (λ i. heads 10 x _ _ e i ∷ h.left_is i); right_is = h.right_is })
first_half false true c cs xs ys more e =
    let h = more false xs ys e in
    inr (record { left = h.left; right = h.right; whole = h.whole; left_is = h.left_is; right_is = h.right_is })
first_half false false c cs [] ys more e = inl (refl, e)
first_half false false c cs (x ∷ xs) ys more e =
    let h = more false xs ys (tails c x _ _ e) in
    inr (record { left = h.left; right = h.right; whole = h.whole; left_is = (λ i. heads c x _ _ e i ∷ h.left_is i); right_is = h.right_is })

halves : (cs : List ℕ) (after : Bool) (xs ys : List ℕ) → normal after cs ≡ xs ++ ys → Halves after cs xs ys
halves [] after [] ys e = record { left = []; right = []; whole = refl; left_is = refl; right_is = e }
halves [] after (x ∷ xs) ys e = absurd (never x (xs ++ ys) e)
  where
    never : (x : ℕ) (r : List ℕ) → [] ≡ x ∷ r → ⊥
    never x r e = cc
halves (c ∷ cs) after xs ys e = elim (first_half (eqb c 13) (after && eqb c 10) c cs xs ys (λ b us vs k. halves cs b us vs k) e) [
  | inl w ↦ record { left = []; right = c ∷ cs; whole = refl; left_is = sym w.0; right_is = w.1 }
  | inr l ↦ record { left = c ∷ l.left; right = l.right; whole = ap (λ (x : List ℕ). c ∷ x) l.whole; left_is = l.left_is; right_is = l.right_is }
]

-- ---- bytes

pub record Apart (bytes xs ys : List ℕ) : Type 0 where
  pub left : List ℕ
  pub right : List ℕ
  pub whole : bytes ≡ left ++ right
  pub left_is : SpellsCharacters left xs
  pub right_is : SpellsCharacters right ys

encoded_half : (cs xs : List ℕ) → list_all is_char cs ≡ true → normal false cs ≡ xs → SpellsCharacters (encode_utf8_all cs) xs
encoded_half cs xs h e = record { encoded = encoded_chars cs h; spelled_so = ap (λ (x : List ℕ). normal false x) (same_chars cs h) ∙ e }

pub apart : (bytes xs ys : List ℕ) → SpellsCharacters bytes (xs ++ ys) → Apart bytes xs ys
apart bytes xs ys s =
    let u = and_parts (is_utf8 bytes) (list_all is_char (chars bytes)) s.encoded in
    let h = halves (chars bytes) false xs ys s.spelled_so in
    let w = and_parts _ _ (sym (list_all-append is_char h.left h.right) ∙ ap (λ (x : List ℕ). list_all is_char x) (sym h.whole) ∙ u.1) in
    record {
      left = encode_utf8_all h.left;
      right = encode_utf8_all h.right;
      whole = sym (encodes-chars bytes (IsUtf8-from_is_utf8 bytes u.0)) ∙ ap encode_utf8_all h.whole ∙ encodes-append h.left h.right;
      left_is = encoded_half h.left xs w.0 h.left_is;
      right_is = encoded_half h.right ys w.1 h.right_is;
    }

-- bytes without characters
pub nothing_spelled : (bytes : List ℕ) → SpellsCharacters bytes [] → bytes ≡ []
nothing_spelled bytes s =
    let u = and_parts (is_utf8 bytes) (list_all is_char (chars bytes)) s.encoded in
    sym (encodes-chars bytes (IsUtf8-from_is_utf8 bytes u.0)) ∙ ap encode_utf8_all (none_normal (chars bytes) s.spelled_so)
  where
    none_normal : (cs : List ℕ) → normal false cs ≡ [] → cs ≡ []
    none_normal [] e = refl
    none_normal (c ∷ cs) e = absurd (elim (eqb c 13) as (λ b. cond b (10 ∷ normal true cs) (c ∷ normal false cs) ≡ [] → ⊥) [ true ↦ λ k. never 10 _ k | false ↦ λ k. never c _ k ] e)
      where
        never : (x : ℕ) (r : List ℕ) → x ∷ r ≡ [] → ⊥
        never x r e = cc

-- ---- tokens

fewer_squares : (n m : ℕ) → m ≤ n → not (leb 2 n) ≡ true → not (leb 2 m) ≡ true
fewer_squares n m le h = grind (arith, nat_tests)

no_end : (b : Bool) (n m : ℕ) → m ≤ n → not (b && leb 2 n) ≡ true → not (b && leb 2 m) ≡ true
no_end false n m le h = refl
no_end true n m le h = fewer_squares n m le h

-- with fewer square brackets before it, character data still holds no `]]>`
pub unbroken_less : (ts : List Token) (n m : ℕ) → m ≤ n → unbroken n ts ≡ true → unbroken m ts ≡ true
unbroken_less [] n m le h = refl
unbroken_less (Data (Literal c) ∷ ts) n m le h =
    elim (eqb c 93) as (λ b. cond b (unbroken (n + 1) ts) (not (eqb c 62 && leb 2 n) && unbroken 0 ts) ≡ true → cond b (unbroken (m + 1) ts) (not (eqb c 62 && leb 2 m) && unbroken 0 ts) ≡ true) [
      | true ↦ λ k. unbroken_less ts (n + 1) (m + 1) (omega (arith, le)) k
      | false ↦ λ k. let w = and_parts (not (eqb c 62 && leb 2 n)) (unbroken 0 ts) k in and_from _ _ (no_end (eqb c 62) n m le w.0) w.1
    ] h
unbroken_less (Data (Reference body) ∷ ts) n m le h = h
unbroken_less (Section cs ∷ ts) n m le h = h
unbroken_less (Comment cs ∷ ts) n m le h = h
unbroken_less (Instruction name cs ∷ ts) n m le h = h
unbroken_less (Start empty name ws gap ∷ ts) n m le h = h
unbroken_less (Close name gap ∷ ts) n m le h = h
unbroken_less (Doctype gap name ext after ∷ ts) n m le h = h

pub record PartsApart (bytes : List ℕ) (xs ys : List Token) : Type 0 where
  pub left : List ℕ
  pub right : List ℕ
  pub whole : bytes ≡ left ++ right
  pub left_is : PartBy left xs
  pub right_is : PartBy right ys

pub part_apart : (bytes : List ℕ) (xs ys : List Token) → PartBy bytes (xs ++ ys) → PartsApart bytes xs ys
part_apart bytes xs ys p =
    let a = apart bytes (flat_map spelled xs) (flat_map spelled ys) (record { encoded = p.encoded; spelled_so = p.spelled_so ∙ spelled_append xs ys }) in
    let each = and_parts _ _ (sym (list_all-append is_token xs ys) ∙ p.each) in
    let whole = and_parts (unbroken 0 xs) (unbroken (squares 0 xs) ys) (sym (unbroken_append 0 xs ys) ∙ p.whole) in
    record {
      left = a.left;
      right = a.right;
      whole = a.whole;
      left_is = record { encoded = a.left_is.encoded; each = each.0; spelled_so = a.left_is.spelled_so; whole = whole.0 };
      right_is = record { encoded = a.right_is.encoded; each = each.1; spelled_so = a.right_is.spelled_so; whole = unbroken_less ys (squares 0 xs) 0 (omega arith) whole.1 };
    }

pub one_token : (bytes : List ℕ) (t : Token) → PartBy bytes (t ∷ []) → SpellsToken bytes t
one_token bytes t p = record {
  is = (and_parts (is_token t) true p.each).0;
  characters = record { encoded = p.encoded; spelled_so = p.spelled_so ∙ append-nil (spelled t) };
}

pub no_bytes : (bytes : List ℕ) → PartBy bytes [] → bytes ≡ []
no_bytes bytes p = nothing_spelled bytes (record { encoded = p.encoded; spelled_so = p.spelled_so })

pub token_part : (bytes : List ℕ) (t : Token) → SpellsToken bytes t → unbroken 0 (t ∷ []) ≡ true → PartBy bytes (t ∷ [])
token_part bytes t s whole = record {
  encoded = s.characters.encoded;
  each = and_from (is_token t) true s.is refl;
  spelled_so = s.characters.spelled_so ∙ sym (append-nil (spelled t));
  whole = whole;
}

-- the first character is this one, where it is once line ends are turned
pub first_char : (b : ℕ) (cs r : List ℕ) → eqb b 10 ≡ false → normal false cs ≡ b ∷ r → (more : List ℕ) × (cs ≡ b ∷ more) × (normal false more ≡ r)
first_char b [] r h e = absurd cc
first_char b (c ∷ cs) r h e = elim (eqb c 13) as (λ m. cond m (10 ∷ normal true cs) (c ∷ normal false cs) ≡ b ∷ r → (more : List ℕ) × (c ∷ cs ≡ b ∷ more) × (normal false more ≡ r)) [
  | true ↦ λ k. absurd (feed b h (heads 10 b _ _ k))
  | false ↦ λ k. (cs, ap (λ n. n ∷ cs) (heads c b _ _ k), tails c b _ _ k)
] e
  where
    heads : (a b : ℕ) (x y : List ℕ) → a ∷ x ≡ b ∷ y → a ≡ b
    heads a b x y e = cc

    tails : (a b : ℕ) (x y : List ℕ) → a ∷ x ≡ b ∷ y → x ≡ y
    tails a b x y e = cc

    feed : (b : ℕ) → eqb b 10 ≡ false → 10 ≡ b → ⊥
    feed b h e = let k : eqb 10 10 ≡ false = ap (λ n. eqb n 10) e ∙ h in cc

-- Characters of documents, and the bytes that they are.
use Rattle.std.proofs.Common.{◌≡◌, refl, ap, ◌∙◌, ℕ, zero, suc, ◌<◌, true, List, [], ◌∷◌, ◌++◌, get_or, leb, arith}
use Rattle.std.specs.List.{list_all}
use Rattle.std.specs.Str.{is_utf8, chars, encode_utf8_all}
use Rattle.std.proofs.Math.Utf8.{scalar, scalars}
use Rattle.std.proofs.lemmas.Bool.{and_parts, and_from}
use Rattle.std.proofs.lemmas.Bool.Decides.{nat_tests}
use Rattle.std.proofs.lemmas.Str.{is_utf8-from_IsUtf8, chars-encodes, encodes-append, encodes-IsAscii}
use Rattle.mm_tree.specs.Characters.{is_char, is_name_start, is_name_char, is_name, is_short_name}
use Rattle.mm_tree.specs.Validity.{are_chars}
use Rattle.mm_xml.specs.Letters.{is_ascii}

-- ---- characters of a document

scalar_of : (c : ℕ) → is_char c ≡ true → scalar c ≡ true
scalar_of c h = grind (arith, nat_tests)

scalars_of : (cs : List ℕ) → list_all is_char cs ≡ true → scalars cs ≡ true
scalars_of [] h = refl
scalars_of (c ∷ cs) h = let w = and_parts (is_char c) (list_all is_char cs) h in and_from (scalar c) (scalars cs) (scalar_of c w.0) (scalars_of cs w.1)

pub same_chars : (cs : List ℕ) → list_all is_char cs ≡ true → chars (encode_utf8_all cs) ≡ cs
same_chars cs h = chars-encodes cs (scalars_of cs h)

pub utf8_chars : (cs : List ℕ) → list_all is_char cs ≡ true → is_utf8 (encode_utf8_all cs) ≡ true
utf8_chars cs h = is_utf8-from_IsUtf8 (encode_utf8_all cs) (cs, (scalars_of cs h, refl))

pub encoded_chars : (cs : List ℕ) → list_all is_char cs ≡ true → are_chars (encode_utf8_all cs) ≡ true
encoded_chars cs h = and_from _ _ (utf8_chars cs h) (ap (λ (x : List ℕ). list_all is_char x) (same_chars cs h) ∙ h)

-- ---- ASCII

below : (b : ℕ) → (leb (suc b) 128) ≡ true → b < 128
below b h = grind (arith, nat_tests)

pub each_below : (bs : List ℕ) → is_ascii bs ≡ true → (i : ℕ) → get_or bs i 0 < 128
each_below [] h i = omega arith
each_below (b ∷ bs) h zero = below b (and_parts _ _ h).0
each_below (b ∷ bs) h (suc i) = each_below bs (and_parts _ _ h).1 i

pub spelled_ascii : (p : List ℕ) → is_ascii p ≡ true → encode_utf8_all p ≡ p
spelled_ascii p h = encodes-IsAscii p (each_below p h)

-- the bytes of characters behind which the pattern stands
pub spelled_front : (p xs : List ℕ) → is_ascii p ≡ true → encode_utf8_all (p ++ xs) ≡ p ++ encode_utf8_all xs
spelled_front p xs h = encodes-append p xs ∙ ap (λ (r : List ℕ). r ++ encode_utf8_all xs) (spelled_ascii p h)

-- ---- names

pub start_is : (c : ℕ) → is_name_start c ≡ true → is_name_char c ≡ true
start_is c h = rw h refl

pub name_chars : (name : List ℕ) → is_name name ≡ true → list_all is_name_char name ≡ true
name_chars [] h = absurd cc
name_chars (c ∷ cs) h =
    let w = and_parts (is_name_start c) (list_all is_name_char cs) h in
    and_from (is_name_char c) (list_all is_name_char cs) (start_is c w.0) w.1

pub short_chars : (name : List ℕ) → is_short_name name ≡ true → list_all is_name_char name ≡ true
short_chars name h = name_chars name (and_parts (is_name name) _ h).0

-- The characters of XML documents, after XML 1.0, fifth edition.
use Rattle.std.specs.Prelude.{ℕ, List, [], ◌∷◌, Bool, true, false, ◌&&◌, ◌||◌, ◌==◌, ◌≡◌, refl, nat_le, length}
use Rattle.std.specs.List.{list_all}
use Rattle.std.specs.Str.{encode_utf8_all}

-- the number is from low to high
abbrev pub is_from : ℕ → ℕ → ℕ → Bool
is_from low high c = nat_le low c && nat_le c high

-- Char, production 2
abbrev pub is_char : ℕ → Bool
is_char c = (c == 9) || (c == 10) || (c == 13) || is_from 32 55295 c || is_from 57344 65533 c || is_from 65536 1114111 c

-- one character of S, production 3
abbrev pub is_space : ℕ → Bool
is_space c = (c == 32) || (c == 9) || (c == 13) || (c == 10)

-- NameStartChar, production 4
abbrev pub is_name_start : ℕ → Bool
is_name_start c = (c == 58) || is_from 65 90 c || (c == 95) || is_from 97 122 c || is_from 192 214 c || is_from 216 246 c || is_from 248 767 c || is_from 880 893 c || is_from 895 8191 c || is_from 8204 8205 c || is_from 8304 8591 c || is_from 11264 12271 c || is_from 12289 55295 c || is_from 63744 64975 c || is_from 65008 65533 c || is_from 65536 983039 c

-- NameChar, production 4a
abbrev pub is_name_char : ℕ → Bool
is_name_char c = is_name_start c || (c == 45) || (c == 46) || is_from 48 57 c || (c == 183) || is_from 768 879 c || is_from 8255 8256 c

-- Name, production 5
abbrev pub is_name : List ℕ → Bool
is_name [] = false
is_name (c ∷ cs) = is_name_start c && list_all is_name_char cs

-- the most bytes of a name in UTF-8
abbrev pub name_limit : ℕ
name_limit = 512

-- the name of an element or of an attribute: a Name of no more bytes than the limit
abbrev pub is_short_name : List ℕ → Bool
is_short_name cs = is_name cs && nat_le (length (encode_utf8_all cs)) name_limit

a_name : is_name (100 ∷ 99 ∷ 58 ∷ 116 ∷ []) ≡ true
a_name = refl

no_name : is_name (49 ∷ 97 ∷ []) ≡ false
no_name = refl

-- White space and references of XML, and text up to a closing mark.
use Rattle.std.specs.Prelude.{ℕ, ◌+◌, ◌*◌, ◌-◌, List, [], ◌∷◌, ◌++◌, Bool, true, false, ◌&&◌, not, ◌==◌, nat_lt, Option, Some, None, if◌then◌else◌}
use Rattle.std.specs.List.{list_all}
use Rattle.std.specs.Str.{bytes_eq}
use Rattle.mm_tree.specs.Characters.{is_from, is_char, is_space}

-- S (3): one or more white spaces
abbrev pub is_gap : List ℕ → Bool
is_gap [] = false
is_gap (c ∷ cs) = list_all is_space (c ∷ cs)

-- the digit's number, and 16 where it's none
abbrev pub digit : ℕ → ℕ
digit c = if is_from 48 57 c then c - 48 else (if is_from 65 70 c then c - 55 else (if is_from 97 102 c then c - 87 else 16))

-- the number that these digits spell behind those that spell n
abbrev pub digits_value : ℕ → ℕ → List ℕ → ℕ
digits_value base n [] = n
digits_value base n (d ∷ ds) = digits_value base (base * n + digit d) ds

-- one or more digits below the base
abbrev pub is_digits : ℕ → List ℕ → Bool
is_digits base [] = false
is_digits base (d ∷ ds) = list_all (λ c. nat_lt (digit c) base) (d ∷ ds)

-- the character with that number, where it's a Char
abbrev pub numbered : ℕ → List ℕ → Option ℕ
numbered base ds = if is_digits base ds && is_char (digits_value base 0 ds) then Some (digits_value base 0 ds) else None

-- CharRef (66), by what stands behind its `#`: hexadecimal behind an `x`, else decimal
abbrev pub by_number : List ℕ → Option ℕ
by_number [] = None
by_number (c ∷ ds) = if c == 120 then numbered 16 ds else numbered 10 (c ∷ ds)

-- the five predefined entities: `lt`, `gt`, `amp`, `apos` and `quot`
abbrev pub by_name : List ℕ → Option ℕ
by_name body = if bytes_eq body (108 ∷ 116 ∷ []) then Some 60 else (if bytes_eq body (103 ∷ 116 ∷ []) then Some 62 else (if bytes_eq body (97 ∷ 109 ∷ 112 ∷ []) then Some 38 else (if bytes_eq body (97 ∷ 112 ∷ 111 ∷ 115 ∷ []) then Some 39 else (if bytes_eq body (113 ∷ 117 ∷ 111 ∷ 116 ∷ []) then Some 34 else None))))

-- the character that a reference names, by what stands between `&` and `;`
abbrev pub referred : List ℕ → Option ℕ
referred [] = None
referred (c ∷ cs) = if c == 35 then by_number cs else by_name (c ∷ cs)

-- each byte is a character of its own
abbrev pub is_ascii : List ℕ → Bool
is_ascii bs = list_all (λ b. nat_lt b 128) bs

-- the pattern stands at the front
abbrev pub starts : List ℕ → List ℕ → Bool
starts [] cs = true
starts (p ∷ ps) [] = false
starts (p ∷ ps) (c ∷ cs) = (p == c) && starts ps cs

-- the pattern stands nowhere in the characters and the pattern after them, but at the end
abbrev pub is_free : List ℕ → List ℕ → Bool
is_free pat [] = true
is_free pat (c ∷ cs) = not (starts pat (c ∷ (cs ++ pat))) && is_free pat cs

-- `A` to `Z` as `a` to `z`
abbrev pub lower : ℕ → ℕ
lower c = if is_from 65 90 c then c + 32 else c

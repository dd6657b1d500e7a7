-- Reading an XML declaration from left to right.
use Rattle.std.specs.Prelude.{List, ℕ, Bool, Option, Some, None, if◌then◌else◌}
use Rattle.mm_tree.specs.Characters.{is_char, is_space}
use Rattle.mm_xml.specs.Letters.{is_gap, starts}
use Rattle.mm_xml.specs.Syntax.{is_version, is_encoding, is_standalone, declaration_start, version_word, encoding_word, standalone_word, declaration_end}
use Rattle.mm_xml.specs.Inside.Lexing.{◌>>=◌, Found, span, quoted_at, equals_at}
use Rattle.mm_xml.specs.Inside.Prefix.{stripped}

-- the text in quotes, and what comes after the quotes
abbrev pub quoted_text_at : List ℕ → Found (List ℕ)
quoted_text_at cs = quoted_at is_char cs >>= λ q. Some (q.0.text, q.1)

-- what a setting of this word is set to, and what comes after it
abbrev pub setting_at : List ℕ → List ℕ → Found (List ℕ)
setting_at word cs = if is_gap (span is_space cs).0 then (stripped word (span is_space cs).1 >>= λ r. equals_at r >>= λ v. quoted_text_at v) else None

-- what comes after a text that passes
abbrev pub passed : (List ℕ → Bool) → Found (List ℕ) → Option (List ℕ)
passed test found = found >>= λ x. if test x.0 then Some x.1 else None

abbrev pub after_version : List ℕ → Option (List ℕ)
after_version cs = passed is_version (setting_at version_word cs)

-- what comes after a setting that may be left out
abbrev pub after_if : List ℕ → (List ℕ → Bool) → List ℕ → Option (List ℕ)
after_if word test cs = if starts word (span is_space cs).1 then passed test (setting_at word cs) else Some cs

abbrev pub after_encoding : List ℕ → Option (List ℕ)
after_encoding cs = after_if encoding_word is_encoding cs

abbrev pub after_standalone : List ℕ → Option (List ℕ)
after_standalone cs = after_if standalone_word is_standalone cs

-- what comes after a declaration
unfoldable pub after_declaration : List ℕ → Option (List ℕ)
after_declaration cs =
    stripped declaration_start cs >>= λ a. after_version a >>= λ b. after_encoding b >>= λ c. after_standalone c >>= λ d. stripped declaration_end (span is_space d).1

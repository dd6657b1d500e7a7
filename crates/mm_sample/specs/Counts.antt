-- What the replies to a script come to. They are read line by line, and what a line counts for is told by its first word.
use Rattle.std.specs.Prelude.{ℕ, ◌-◌, ◌^◌, ◌==◌, ◌&&◌, ◌||◌, not, Bool, if◌then◌else◌, nat_lt, min, List, [], ◌∷◌, length, filter, codes}
use Rattle.std.specs.declared.option.Option.{Option}
use Rattle.std.specs.declared.option.Option.TheVariants.{Some, None}
use Rattle.std.specs.List.{before_first, after_first, count_by, sum_by, last_or, list_any}
use Rattle.std.specs.Str.{bytes_eq, all_ascii_digits}
use Rattle.std.specs.Str.Lines.{lines}
use Rattle.std.specs.Str.Parse.{without_leading_plus, digits_value}
use Rattle.sha2.specs.Sha256.{sha256}
use Rattle.mm_sample.specs.declared.summary.Summary.{Summary}

-- ---- a line

abbrev pub is_space : ℕ → Bool
is_space b = b == 32

-- the line's first word is this one
abbrev pub begins_with : List ℕ → List ℕ → Bool
begins_with word line = bytes_eq (before_first is_space line) word

-- one decimal digit or more, of a number that 64 bits hold
abbrev pub is_number : List ℕ → Bool
is_number digits = not (length digits == 0) && (all_ascii_digits digits && nat_lt (digits_value 10 digits) (2 ^ 64))

-- the number that a text is, perhaps with a plus before it; 0 where it is none
abbrev pub number_in : List ℕ → ℕ
number_in text = let digits = without_leading_plus text in if is_number digits then digits_value 10 digits else 0

-- the number behind the line's first word
abbrev pub number_behind : List ℕ → ℕ
number_behind line = number_in (after_first is_space line)

-- each command is answered by one such line; what else its reply has are lines that begin with a label or with `fragment`
abbrev pub begins_reply : List ℕ → Bool
begins_reply line = list_any (λ word. begins_with word line)
    (codes "ok" ∷ codes "no" ∷ codes "hits" ∷ codes "fragments" ∷ codes "sound" ∷ codes "unsound" ∷ [])

-- the line tells how many answers a search found
abbrev pub tells_found : List ℕ → Bool
tells_found line = begins_with (codes "hits") line || begins_with (codes "fragments") line

abbrev pub found_in : List ℕ → ℕ
found_in line = if tells_found line then number_behind line else 0

-- ---- all lines

-- a number, as far as 64 bits hold it
abbrev pub held : ℕ → ℕ
held n = min n (2 ^ 64 - 1)

-- how many commands were answered, how many edits accepted, how many commands refused
abbrev pub commands_in : List (List ℕ) → ℕ
commands_in ls = held (count_by begins_reply ls)

abbrev pub accepted_in : List (List ℕ) → ℕ
accepted_in ls = held (count_by (begins_with (codes "ok")) ls)

abbrev pub refused_in : List (List ℕ) → ℕ
refused_in ls = held (count_by (begins_with (codes "no")) ls)

-- the answers of all searches
abbrev pub answers_in : List (List ℕ) → ℕ
answers_in ls = held (sum_by found_in ls)

abbrev pub number_behind_any : Option (List ℕ) → ℕ
number_behind_any None = 0
number_behind_any (Some line) = number_behind line

-- the number behind the last `sound`, 0 without one
abbrev pub nodes_in : List (List ℕ) → ℕ
nodes_in ls = number_behind_any (last_or None (filter (begins_with (codes "sound")) ls))

-- what the replies come to; the weight is given
unfoldable pub summary_of : List ℕ → ℕ → Summary
summary_of replies weight = record {
  commands = commands_in (lines replies);
  accepted = accepted_in (lines replies);
  refused = refused_in (lines replies);
  answers = answers_in (lines replies);
  nodes = nodes_in (lines replies);
  weight = weight;
  digest = sha256 replies;
}

-- The options of a run, and the command by whose definition in clap they are read from words.
use Rattle.std.specs.Prelude.{◌≡◌, ◌≤◌, ◌^◌, ◌-◌, ℕ, Bool, false, List, [], Option, Some, None, codes, option_map, unwrap_or}
use Rattle.std.specs.Option.{option_map_or}
use Rattle.std.specs.Str.{bytes_eq}
use Rattle.std.specs.Str.Parse.{digits_value, without_leading_plus}
use Rattle.clap.specs.Words.{App, Row, Rule, Text, fault_of, first_of, matches_of, new_app, new_rule, with_rule}
use Rattle.clap.specs.declared.builder.ArgAction.TheVariants.{SetTrue}
use Rattle.clap.specs.declared.builder.value_parser.ValueParser.{ValueParser}
use Rattle.clap.specs.declared.builder.value_parser.ValueParser.TheVariants.{Unsigned, Bool as Truth}
use Rattle.mm_options.specs.declared.options.Options.{Options}

-- the options of a run whose words name none
abbrev pub standard : Options
standard = record { slice = 8; limit = 2 ^ 30; read_only = false; sample = None }

-- ---- the command

-- a long option of this name, of which the parser takes the value
abbrev pub long_rule : Text → ValueParser → Rule
long_rule name parser = record (new_rule name) { long = Some name; parser = Some parser }

-- the command without subcommands that has the four options
abbrev pub kwstore : App
kwstore =
    with_rule (with_rule (with_rule (with_rule (new_app (codes "kwstore"))
    (long_rule (codes "slice") (Unsigned 0 1024)))
    (long_rule (codes "limit") (Unsigned 1024 (2 ^ 40))))
    (record (long_rule (codes "read-only") Truth) { action = Some SetTrue }))
    (long_rule (codes "sample") (Unsigned 0 (2 ^ 64 - 1)))

-- the command takes the words: no step of reading them finds fault
abbrev pub IsTaken : List Text → Type 0
IsTaken words = fault_of kwstore words ≡ []

-- ---- what the words ask for

-- the number that a text spells in decimal; a plus may stand before it
abbrev pub number_of : Text → ℕ
number_of text = digits_value 10 (without_leading_plus text)

abbrev pub number_in : Text → List Row → Option ℕ
number_in name rows = option_map number_of (first_of name rows)

abbrev pub flag_in : Text → List Row → Bool
flag_in name rows = option_map_or (bytes_eq (codes "true")) (first_of name rows) false

abbrev pub options_in : List Row → Options
options_in rows = record {
  slice = unwrap_or (number_in (codes "slice") rows) standard.slice;
  limit = unwrap_or (number_in (codes "limit") rows) standard.limit;
  read_only = flag_in (codes "read-only") rows;
  sample = number_in (codes "sample") rows;
}

-- the options that taken words ask for
abbrev pub options_of : List Text → Options
options_of words = options_in (matches_of kwstore words)

-- a slice of at most 1,024 pages, and a limit from 1,024 bytes to 2^40
pub record IsInRange (options : Options) : Type 0 where
  pub slice : options.slice ≤ 1024
  pub least_limit : 1024 ≤ options.limit
  pub most_limit : options.limit ≤ 2 ^ 40

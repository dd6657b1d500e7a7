-- Words that the command takes and what they ask for, and words that it doesn't take, computed from the definitions.
use Rattle.std.specs.Prelude.{◌≡◌, ◌∷◌, ◌-◌, ◌^◌, [], List, Some, true, codes, refl}
use Rattle.clap.proofs.OnLiterals.{clap_on_literals}
use Rattle.clap.specs.Words.{Text, fault_of}
use Rattle.clap.specs.declared.error.kind.ErrorKind.{ErrorKind}
use Rattle.clap.specs.declared.error.kind.ErrorKind.TheVariants as kind
use Rattle.mm_options.specs.Options.{IsTaken, kwstore, options_of, standard}
use Rattle.mm_options.specs.declared.options.Options.{Options}

-- the words of a call: the program's name, and what follows it
abbrev call : List Text → List Text
call words = codes "kwstore" ∷ words

abbrev Takes : List Text → Options → Type 0
Takes words options = IsTaken (call words) × (options_of (call words) ≡ options)

-- the command doesn't take the words, for a fault of this kind
abbrev FindsFault : List Text → ErrorKind → Type 0
FindsFault words fault = fault_of kwstore (call words) ≡ fault ∷ []

no_words : Takes [] standard
unfolding clap_on_literals
no_words = (refl, refl)

a_slice : Takes (codes "--slice" ∷ codes "5" ∷ []) (record standard { slice = 5 })
unfolding clap_on_literals
a_slice = (refl, refl)

joined_by_a_sign : Takes (codes "--slice=5" ∷ []) (record standard { slice = 5 })
unfolding clap_on_literals
joined_by_a_sign = (refl, refl)

zeros_in_front : Takes (codes "--slice" ∷ codes "007" ∷ []) (record standard { slice = 7 })
unfolding clap_on_literals
zeros_in_front = (refl, refl)

a_plus_in_front : Takes (codes "--slice" ∷ codes "+1024" ∷ []) (record standard { slice = 1024 })
unfolding clap_on_literals
a_plus_in_front = (refl, refl)

the_least_limit : Takes (codes "--limit" ∷ codes "1024" ∷ []) (record standard { limit = 1024 })
unfolding clap_on_literals
the_least_limit = (refl, refl)

the_most_limit : Takes (codes "--limit" ∷ codes "1099511627776" ∷ []) (record standard { limit = 2 ^ 40 })
unfolding clap_on_literals
the_most_limit = (refl, refl)

read_only : Takes (codes "--read-only" ∷ []) (record standard { read_only = true })
unfolding clap_on_literals
read_only = (refl, refl)

the_most_seed : Takes (codes "--sample" ∷ codes "18446744073709551615" ∷ []) (record standard { sample = Some (2 ^ 64 - 1) })
unfolding clap_on_literals
the_most_seed = (refl, refl)

all_four : Takes (codes "--sample=7" ∷ codes "--read-only" ∷ codes "--limit=2048" ∷ codes "--slice=0" ∷ []) (record { slice = 0; limit = 2048; read_only = true; sample = Some 7 })
unfolding clap_on_literals
all_four = (refl, refl)

-- ---- words that aren't taken

a_slice_too_large : FindsFault (codes "--slice" ∷ codes "1025" ∷ []) kind.ValueValidation
unfolding clap_on_literals
a_slice_too_large = refl

a_limit_too_small : FindsFault (codes "--limit" ∷ codes "1023" ∷ []) kind.ValueValidation
unfolding clap_on_literals
a_limit_too_small = refl

a_limit_too_large : FindsFault (codes "--limit" ∷ codes "1099511627777" ∷ []) kind.ValueValidation
unfolding clap_on_literals
a_limit_too_large = refl

no_number : FindsFault (codes "--sample" ∷ codes "seven" ∷ []) kind.ValueValidation
unfolding clap_on_literals
no_number = refl

a_number_below_zero : FindsFault (codes "--sample=-1" ∷ []) kind.ValueValidation
unfolding clap_on_literals
a_number_below_zero = refl

no_value : FindsFault (codes "--slice" ∷ []) kind.InvalidValue
unfolding clap_on_literals
no_value = refl

twice : FindsFault (codes "--slice" ∷ codes "5" ∷ codes "--slice" ∷ codes "5" ∷ []) kind.ArgumentConflict
unfolding clap_on_literals
twice = refl

a_flag_twice : FindsFault (codes "--read-only" ∷ codes "--read-only" ∷ []) kind.ArgumentConflict
unfolding clap_on_literals
a_flag_twice = refl

a_value_for_the_flag : FindsFault (codes "--read-only=true" ∷ []) kind.TooManyValues
unfolding clap_on_literals
a_value_for_the_flag = refl

the_front_of_a_name : FindsFault (codes "--sli" ∷ codes "5" ∷ []) kind.UnknownArgument
unfolding clap_on_literals
the_front_of_a_name = refl

a_short_form : FindsFault (codes "-s" ∷ codes "5" ∷ []) kind.UnknownArgument
unfolding clap_on_literals
a_short_form = refl

help : FindsFault (codes "--help" ∷ []) kind.DisplayHelp
unfolding clap_on_literals
help = refl

short_help : FindsFault (codes "-h" ∷ []) kind.DisplayHelp
unfolding clap_on_literals
short_help = refl

version : FindsFault (codes "--version" ∷ []) kind.UnknownArgument
unfolding clap_on_literals
version = refl

short_version : FindsFault (codes "-V" ∷ []) kind.UnknownArgument
unfolding clap_on_literals
short_version = refl

a_word : FindsFault (codes "help" ∷ []) kind.UnknownArgument
unfolding clap_on_literals
a_word = refl

the_empty_word : FindsFault (codes "" ∷ []) kind.UnknownArgument
unfolding clap_on_literals
the_empty_word = refl

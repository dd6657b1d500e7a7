use Rattle.std.specs.Str.Parse.{ExplainsUnsignedError, HasUnsignedDigitsIfOk, ParsesUnsigned}
use Rattle.clap.specs.Words.{found_of}
use Rattle.mm_options.proofs.Reading.{number_found}
use Rattle.mm_options.proofs.words.number.Goals as goal

pub returns : goal.returns
returns c =
    number_found (λ text r. ParsesUnsigned 64 10 text r × ExplainsUnsignedError 10 text r × HasUnsignedDigitsIfOk text r)
    (found_of c.args.matches.now) c.args.name.now _ (λ _ _ given. given.0) c.requires c.get_one.ensures.none c.get_one.ensures.value

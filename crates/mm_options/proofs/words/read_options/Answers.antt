use Rattle.mm_options.proofs.Values.{options_read}
use Rattle.mm_options.proofs.words.read_options.Goals as goal

-- src/words.rt:82:27
pub found_options-requires : goal.found_options-requires
found_options-requires c = options_read c.in-Ok.command c.in-Ok-try_get_matches_from.matches c.in-Ok.ensures c.in-Ok-try_get_matches_from.ensures.parsed

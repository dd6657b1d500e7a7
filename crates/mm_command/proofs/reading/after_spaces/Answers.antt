use Rattle.std.proofs.Common.{◌∙◌, sym}
use Rattle.mm_command.proofs.Spaces.{none-in-front}
use Rattle.mm_command.proofs.reading.after_spaces.Goals as goal

pub returns : goal.returns
returns c = sym (none-in-front _ c.in_default.ensures.cases) ∙ c.loop-more.invariant.1

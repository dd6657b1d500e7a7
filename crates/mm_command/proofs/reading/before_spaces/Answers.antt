use Rattle.std.proofs.Common.{◌∙◌, sym}
use Rattle.mm_command.proofs.Spaces.{none-behind}
use Rattle.mm_command.proofs.reading.before_spaces.Goals as goal

pub returns : goal.returns
returns c = sym (none-behind _ c.in_default.ensures.cases) ∙ c.loop-more.invariant.1

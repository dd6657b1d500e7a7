use Rattle.std.proofs.Common.{◌∙◌, sym}
use Rattle.mm_check.proofs.Paths.{ends_found}
use Rattle.mm_check.proofs.path.ends_above.Goals as goal

pub returns-in-Some : goal.returns-in-Some
returns-in-Some c = c.is_prefix.ensures.front ∙ sym (ends_found c.args.label.now c.args.path.now c.in-Some.last.now c.in-Some.ensures.value)

use Rattle.std.proofs.Common.{◌∙◌}
use Rattle.mm_xml.proofs.TextFacts.{counts_none}
use Rattle.mm_xml.proofs.text.is_empty.Goals as goal

pub returns : goal.returns
returns c = c.is_empty.ensures ∙ counts_none c.args.text.now c.utf8.text

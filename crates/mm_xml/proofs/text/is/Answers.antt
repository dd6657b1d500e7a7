use Rattle.std.proofs.Common.{◌∙◌}
use Rattle.mm_xml.proofs.TextFacts.{same_text}
use Rattle.mm_xml.proofs.text.is.Goals as goal

pub returns : goal.returns
returns c = c.eq.ensures ∙ same_text c.args.text.now c.args.pattern.now c.utf8.text c.requires.ascii

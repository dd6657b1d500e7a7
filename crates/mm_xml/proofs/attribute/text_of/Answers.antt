use Rattle.mm_xml.proofs.TextFacts.{as_text}
use Rattle.mm_xml.proofs.attribute.text_of.Goals as goal

pub returns : goal.returns
returns c = as_text c.from_str.result c.args.text.now c.utf8.text c.from_str.ensures

use Rattle.mm_xml.proofs.TextFacts.{has_line_feeds}
use Rattle.mm_xml.proofs.decode.has_line_feeds.Goals as goal

pub returns : goal.returns
returns c = has_line_feeds c.args.text.now c.contains.result c.utf8.text c.contains.ensures.cases

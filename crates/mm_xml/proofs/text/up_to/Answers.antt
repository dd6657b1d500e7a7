use Rattle.mm_xml.proofs.TextFacts.{splits}
use Rattle.mm_xml.proofs.text.up_to.Goals as goal

pub returns : goal.returns
returns c = splits c.args.pattern.now c.args.text.now c.split_once.result c.requires.ascii c.requires.filled c.utf8.text c.split_once.ensures.cases

use Rattle.mm_xml.proofs.TextFacts.{strips}
use Rattle.mm_xml.proofs.text.strip.Goals as goal

pub returns : goal.returns
returns c = strips c.args.pattern.now c.args.text.now c.strip_prefix.result c.requires.ascii c.utf8.text c.strip_prefix.ensures.cases

use Rattle.mm_xml_laws.proofs.Prologs as prologs
use Rattle.mm_xml_laws.proofs.productions.no_misc.Goals as goal

pub returns : goal.returns
returns c = prologs.no_misc

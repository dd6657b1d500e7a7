use Rattle.mm_xml_laws.proofs.Prologs as prologs
use Rattle.mm_xml_laws.proofs.productions.misc.Goals as goal

pub returns : goal.returns
returns c = λ t bytes m is plain s. prologs.misc t bytes m is plain s

use Rattle.mm_xml_laws.proofs.Prologs as prologs
use Rattle.mm_xml_laws.proofs.productions.misc_prolog.Goals as goal

pub returns : goal.returns
returns c = λ bytes s. prologs.misc_prolog bytes s

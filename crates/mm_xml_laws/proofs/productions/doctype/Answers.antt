use Rattle.mm_xml_laws.proofs.Prologs as prologs
use Rattle.mm_xml_laws.proofs.productions.doctype.Goals as goal

pub returns : goal.returns
returns c = λ before behind gap name after external p is plain q. prologs.doctype before behind gap name after external p is plain q

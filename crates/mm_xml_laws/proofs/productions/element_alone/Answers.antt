use Rattle.mm_xml_laws.proofs.Prologs as prologs
use Rattle.mm_xml_laws.proofs.productions.element_alone.Goals as goal

pub returns : goal.returns
returns c = λ bytes t s. prologs.element_alone bytes t s

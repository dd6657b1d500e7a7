use Rattle.mm_xml_laws.proofs.Instances as instances
use Rattle.mm_xml_laws.proofs.productions.empty_element_tag.Goals as goal

pub returns : goal.returns
returns c = λ name gap ws is plain. instances.empty_element name gap ws is plain

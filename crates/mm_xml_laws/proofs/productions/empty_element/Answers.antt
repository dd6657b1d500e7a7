use Rattle.mm_xml_laws.proofs.Elements as elements
use Rattle.mm_xml_laws.proofs.productions.empty_element.Goals as goal

pub returns : goal.returns
returns c = λ bytes name gap ws s. elements.empty_element bytes name gap ws s

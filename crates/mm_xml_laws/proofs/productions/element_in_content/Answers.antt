use Rattle.mm_xml_laws.proofs.Elements as elements
use Rattle.mm_xml_laws.proofs.productions.element_in_content.Goals as goal

pub returns : goal.returns
returns c = λ bytes content t children s more. elements.element_in_content bytes content t children s more

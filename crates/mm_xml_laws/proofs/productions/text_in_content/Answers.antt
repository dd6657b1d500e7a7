use Rattle.mm_xml_laws.proofs.Elements as elements
use Rattle.mm_xml_laws.proofs.productions.text_in_content.Goals as goal

pub returns : goal.returns
returns c = λ bytes text content children s h more. elements.text_in_content bytes text content children s h more

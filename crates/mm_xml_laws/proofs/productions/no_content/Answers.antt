use Rattle.mm_xml_laws.proofs.Elements as elements
use Rattle.mm_xml_laws.proofs.productions.no_content.Goals as goal

pub returns : goal.returns
returns c = elements.no_content

use Rattle.mm_xml_laws.proofs.ContentParts as content
use Rattle.mm_xml_laws.proofs.parts.element_parts.Goals as goal

pub returns : goal.returns
returns c = λ bytes t s. content.element_parts bytes t s

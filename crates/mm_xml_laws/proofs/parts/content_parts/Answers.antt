use Rattle.mm_xml_laws.proofs.ContentParts as content
use Rattle.mm_xml_laws.proofs.parts.content_parts.Goals as goal

pub returns : goal.returns
returns c = λ bytes children s. content.content_parts bytes children s

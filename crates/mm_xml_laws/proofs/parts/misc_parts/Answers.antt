use Rattle.mm_xml_laws.proofs.DocumentParts as documents
use Rattle.mm_xml_laws.proofs.parts.misc_parts.Goals as goal

pub returns : goal.returns
returns c = λ bytes s. documents.misc_parts bytes s

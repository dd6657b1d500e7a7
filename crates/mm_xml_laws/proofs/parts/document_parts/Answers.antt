use Rattle.mm_xml_laws.proofs.DocumentParts as documents
use Rattle.mm_xml_laws.proofs.parts.document_parts.Goals as goal

pub returns : goal.returns
returns c = λ bytes t s. documents.document_parts bytes t s

use Rattle.mm_xml_laws.proofs.DocumentParts as documents
use Rattle.mm_xml_laws.proofs.parts.prolog_parts.Goals as goal

pub returns : goal.returns
returns c = λ bytes s. documents.prolog_parts bytes s

use Rattle.mm_xml_laws.proofs.TokenParts as tokens
use Rattle.mm_xml_laws.proofs.parts.doctype_parts.Goals as goal

pub returns : goal.returns
returns c = λ bytes gap name after external s. tokens.doctype_parts bytes gap name external after s

use Rattle.mm_xml_laws.proofs.TokenParts as tokens
use Rattle.mm_xml_laws.proofs.parts.section_parts.Goals as goal

pub returns : goal.returns
returns c = λ bytes cs s. tokens.section_parts bytes cs s

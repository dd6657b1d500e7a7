use Rattle.mm_xml_laws.proofs.TokenParts as tokens
use Rattle.mm_xml_laws.proofs.parts.attribute_parts.Goals as goal

pub returns : goal.returns
returns c = λ bytes a is s. tokens.attribute_parts bytes a is s

use Rattle.mm_xml_laws.proofs.TokenParts as tokens
use Rattle.mm_xml_laws.proofs.parts.reference_parts.Goals as goal

pub returns : goal.returns
returns c = λ bytes body s. tokens.reference_parts bytes body s

use Rattle.mm_xml_laws.proofs.TokenParts as tokens
use Rattle.mm_xml_laws.proofs.parts.attributes_parts.Goals as goal

pub returns : goal.returns
returns c = λ bytes first others s. tokens.attributes_parts bytes first others s

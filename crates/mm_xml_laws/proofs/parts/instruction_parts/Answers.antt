use Rattle.mm_xml_laws.proofs.TokenParts as tokens
use Rattle.mm_xml_laws.proofs.parts.instruction_parts.Goals as goal

pub returns : goal.returns
returns c = λ bytes name cs s. tokens.instruction_parts bytes name cs s

use Rattle.mm_xml_laws.proofs.TokenParts as tokens
use Rattle.mm_xml_laws.proofs.parts.end_parts.Goals as goal

pub returns : goal.returns
returns c = λ bytes name gap s. tokens.end_parts bytes name gap s

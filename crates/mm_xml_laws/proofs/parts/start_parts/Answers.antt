use Rattle.mm_xml_laws.proofs.TokenParts as tokens
use Rattle.mm_xml_laws.proofs.parts.start_parts.Goals as goal

pub returns : goal.returns
returns c = λ bytes name gap empty ws s. tokens.start_parts bytes empty name ws gap s

use Rattle.mm_xml_laws.proofs.TokenParts as tokens
use Rattle.mm_xml_laws.proofs.parts.comment_parts.Goals as goal

pub returns : goal.returns
returns c = λ bytes cs s. tokens.comment_parts bytes cs s

use Rattle.mm_xml_laws.proofs.RunParts as runs
use Rattle.mm_xml_laws.proofs.parts.text_form_parts.Goals as goal

pub returns : goal.returns
returns c = λ bytes t s. runs.text_parts bytes t s

use Rattle.mm_xml_laws.proofs.RunParts as runs
use Rattle.mm_xml_laws.proofs.parts.text_parts.Goals as goal

pub returns : goal.returns
returns c = λ bytes text s. runs.run_parts bytes text s

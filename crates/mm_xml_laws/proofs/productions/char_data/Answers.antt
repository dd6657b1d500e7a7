use Rattle.mm_xml_laws.proofs.Runs as runs
use Rattle.mm_xml_laws.proofs.productions.char_data.Goals as goal

pub returns : goal.returns
returns c = λ bytes text s. runs.char_data bytes text s

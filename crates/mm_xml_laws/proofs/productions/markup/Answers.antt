use Rattle.mm_xml_laws.proofs.Runs as runs
use Rattle.mm_xml_laws.proofs.productions.markup.Goals as goal

pub returns : goal.returns
returns c = λ bytes text s. runs.markup bytes text s

use Rattle.mm_xml_laws.proofs.Runs as runs
use Rattle.mm_xml_laws.proofs.productions.joined_text.Goals as goal

pub returns : goal.returns
returns c = λ a b text more s u h. runs.joined_text a b text more s u h

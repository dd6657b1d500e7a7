use Rattle.mm_xml_laws.proofs.Runs as runs
use Rattle.mm_xml_laws.proofs.productions.no_text.Goals as goal

pub returns : goal.returns
returns c = runs.no_text

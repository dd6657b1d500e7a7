use Rattle.mm_xml_laws.proofs.Instances as instances
use Rattle.mm_xml_laws.proofs.productions.instruction.Goals as goal

pub returns : goal.returns
returns c = λ name cs is plain. instances.instruction name cs is plain

use Rattle.mm_xml_laws.proofs.Instances as instances
use Rattle.mm_xml_laws.proofs.productions.section.Goals as goal

pub returns : goal.returns
returns c = λ cs is plain. instances.section cs is plain

use Rattle.mm_xml_laws.proofs.Instances as instances
use Rattle.mm_xml_laws.proofs.productions.reference.Goals as goal

pub returns : goal.returns
returns goals = λ body c plain free e. instances.reference body c plain free e

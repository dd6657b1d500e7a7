use Rattle.mm_xml_laws.proofs.Instances as instances
use Rattle.mm_xml_laws.proofs.productions.tags_around_content.Goals as goal

pub returns : goal.returns
returns c = λ name gap close_gap content ws children is plain spaces plain_gap inner. instances.element name gap close_gap content ws children is plain spaces plain_gap inner

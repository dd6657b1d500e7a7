use Rattle.mm_xml_laws.proofs.Elements as elements
use Rattle.mm_xml_laws.proofs.productions.element.Goals as goal

pub returns : goal.returns
returns c = λ opening content closing name gap close_gap ws children s c e. elements.element opening content closing name gap close_gap ws children s c e

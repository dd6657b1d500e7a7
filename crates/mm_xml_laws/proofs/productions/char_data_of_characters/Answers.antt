use Rattle.mm_xml_laws.proofs.Instances as instances
use Rattle.mm_xml_laws.proofs.productions.char_data_of_characters.Goals as goal

pub returns : goal.returns
returns c = λ text plain each free. instances.char_data text plain each free

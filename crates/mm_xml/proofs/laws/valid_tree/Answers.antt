use Rattle.mm_xml.proofs.Valid as valid
use Rattle.mm_xml.proofs.laws.valid_tree.Goals as goal

pub returns : goal.returns
returns c = λ bytes t short s. valid.valid_tree bytes t short s

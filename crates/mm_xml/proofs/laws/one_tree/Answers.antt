use Rattle.mm_xml.proofs.Whole as whole
use Rattle.mm_xml.proofs.laws.one_tree.Goals as goal

pub returns : goal.returns
returns c = λ bytes t u a b. whole.one_tree bytes t u a b

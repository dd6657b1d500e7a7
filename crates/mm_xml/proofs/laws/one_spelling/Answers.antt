use Rattle.mm_xml.proofs.Whole as whole
use Rattle.mm_xml.proofs.laws.one_spelling.Goals as goal

pub returns : goal.returns
returns c = λ bytes t u first other tokens others a b. whole.one_spelling bytes t u first other tokens others a b

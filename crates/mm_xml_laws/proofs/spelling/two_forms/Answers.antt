use Rattle.mm_xml_laws.proofs.Forms as forms
use Rattle.mm_xml_laws.proofs.spelling.two_forms.Goals as goal

pub returns : goal.returns
returns c = λ bytes t s. forms.two_forms bytes t s

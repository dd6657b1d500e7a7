use Rattle.mm_xml_laws.proofs.Forms as forms
use Rattle.mm_xml_laws.proofs.spelling.marked.Goals as goal

pub returns : goal.returns
returns c = λ bytes t h s. forms.marked bytes t h s

use Rattle.mm_xml_laws.proofs.Forms as forms
use Rattle.mm_xml_laws.proofs.productions.document.Goals as goal

pub returns : goal.returns
returns c = λ first before bytes behind t is plain p s m. forms.document first before bytes behind t is plain p s m

use Rattle.mm_xml_laws.proofs.Forms as forms
use Rattle.mm_xml_laws.proofs.spelling.one_form.Goals as goal

pub returns : goal.returns
returns c = λ bytes t u a b. forms.one_form c.one_spelling.ensures bytes t u a b

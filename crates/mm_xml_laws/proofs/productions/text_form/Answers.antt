use Rattle.mm_xml_laws.proofs.Forms as forms
use Rattle.mm_xml_laws.proofs.productions.text_form.Goals as goal

pub returns : goal.returns
returns c = λ bytes text s ink plain. forms.text_form bytes text s ink plain

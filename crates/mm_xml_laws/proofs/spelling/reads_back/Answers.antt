use Rattle.mm_xml.specs.Writing.{without_labels}
use Rattle.mm_xml_laws.proofs.Written as writes
use Rattle.mm_xml_laws.proofs.spelling.reads_back.Goals as goal

pub returns : goal.returns
returns c = λ n valid apart mark. writes.reads_back (n.0.kind, without_labels n.1) valid apart mark

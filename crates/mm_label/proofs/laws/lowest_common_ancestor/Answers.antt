use Rattle.mm_label.proofs.Shared.{common_ancestors}
use Rattle.mm_label.proofs.laws.lowest_common_ancestor.Goals as goal

pub returns : goal.returns
returns c = λ a b z h. common_ancestors a b z h

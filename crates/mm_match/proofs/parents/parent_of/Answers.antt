use Rattle.std.proofs.lemmas.Result.{IfOk-weaker}
use Rattle.mm_match.proofs.ParentFacts.{found_is}
use Rattle.mm_match.proofs.parents.parent_of.Goals as goal

pub returns : goal.returns
returns c = IfOk-weaker c.parent.result _ _ (λ found h. found_is found c.args.label.now c.as_bytes.ensures.label h) c.parent.ensures

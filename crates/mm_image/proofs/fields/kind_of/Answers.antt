use Rattle.std.proofs.Common.{arith}
use Rattle.std.proofs.lemmas.Result.{IfOk-weaker}
use Rattle.mm_image.proofs.Contents.{kind_of}
use Rattle.mm_image.proofs.fields.kind_of.Goals as goal

pub returns-clause-whole : goal.returns-clause-whole
returns-clause-whole c = IfOk-weaker c.kind_in.result _ _ (λ k e. kind_of c.args.content.now k (λ i. let t = c.type_inv.content i in omega (arith, t)) e) c.kind_in.ensures

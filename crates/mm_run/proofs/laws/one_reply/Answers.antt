use Rattle.mm_run.proofs.OneReply.{replies-once}
use Rattle.mm_run.proofs.laws.one_reply.Goals as goal

pub returns : goal.returns
returns c = λ options forest commands r s f g first second. replies-once c.one_tree.ensures c.one_text.ensures options forest commands r s f g first second

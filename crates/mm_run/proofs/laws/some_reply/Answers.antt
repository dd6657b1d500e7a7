use Rattle.mm_run.proofs.SomeReply.{replied, never_without}
use Rattle.mm_run.proofs.laws.some_reply.Goals as goal

pub returns-clause-never_without : goal.returns-clause-never_without
returns-clause-never_without c = never_without

pub returns-clause-settled : goal.returns-clause-settled
returns-clause-settled c = replied

use Rattle.mm_run.proofs.Answered.{target_gone, target_there}
use Rattle.mm_run.proofs.editing.replace_target_refusal.Goals as goal

pub returns-in-Ok-clause-value : goal.returns-in-Ok-clause-value
returns-in-Ok-clause-value g c = λ f h. target_there c.args.target.now f _ (c.in-Ok.ensures.shown f h)

pub returns-in-Err-Refused-clause-value : goal.returns-in-Err-Refused-clause-value
returns-in-Err-Refused-clause-value g c = λ f h.
    let a = rw c.in-Err-Refused.field-0-is at (c.in-Err-Refused.ensures.absent f h) in
    target_gone c.args.target.now f _ a.0 a.1

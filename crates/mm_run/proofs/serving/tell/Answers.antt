use Rattle.std.proofs.Common.{◌∙◌}
use Rattle.mm_command.specs.Replies.{reply_text}
use Rattle.mm_run.proofs.Finishing.{told_all, told_front}
use Rattle.mm_run.proofs.serving.tell.Goals as goal

pub returns-in-Err-write_all-clause-told : goal.returns-in-Err-write_all-clause-told
returns-in-Err-write_all-clause-told g c = told_front _ _ c.as_slice.result.now (reply_text c.args.reply.now) _ (c.as_slice.ensures.value ∙ c.in-Ok.ensures) c.in-Err-write_all.ensures.bytes

pub returns-clause-told : goal.returns-clause-told
returns-clause-told g c = told_all _ _ c.as_slice.result.now (reply_text c.args.reply.now) tt (c.as_slice.ensures.value ∙ c.in-Ok.ensures) c.in-Ok-write_all.ensures.bytes

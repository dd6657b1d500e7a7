use Rattle.std.proofs.Common.{◌∙◌, arith}
use Rattle.mm_run.proofs.Kept.{take-within}
use Rattle.mm_run.proofs.buffer.append_within.Goals as goal

pub returns-clause-ok : goal.returns-clause-ok
returns-clause-ok c =
    c.in_ok-extend_from_slice.ensures.items ∙ take-within c.args.text.now.items c.args.more.now c.args.limit c.min-fits.result (omega arith) (omega arith)

use Rattle.std.proofs.Common.{◌∙◌}
use Rattle.mm_run.proofs.Telling.{line-written}
use Rattle.mm_run.proofs.top.end.Goals as goal

pub returns-clause-line : goal.returns-clause-line
returns-clause-line g c = line-written _ _ c.as_bytes.result.now _ _ _ c.write_all.result (c.as_bytes.ensures.value ∙ c.fault_line-line.ensures) c.write_all.ensures.bytes c.write_all.ensures.cause

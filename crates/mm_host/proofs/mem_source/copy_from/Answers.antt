use Rattle.mm_host.proofs.Parts.{reads-front}
use Rattle.mm_host.proofs.mem_source.copy_from.Goals as goal

pub returns-clause-bytes : goal.returns-clause-bytes
returns-clause-bytes c = reads-front c.args.bytes.now c.args.into.now c.copy_from_slice.new.self c.args.at c.min-count.result c.min-count.ensures c.copy_from_slice.ensures.after

use Rattle.std.proofs.Common.{arith}
use Rattle.mm_page.proofs.Blocks.{cell-written}
use Rattle.mm_page.proofs.bytes.write_cell.Goals as goal

pub returns-clause-bytes : goal.returns-clause-bytes
returns-clause-bytes c = cell-written c.args.bytes.now c.args.at c.args.key.now c.args.value.now (omega (arith, c.requires.room)) c.write_two.ensures.bytes c.write_two-2.ensures.bytes c.write_part.ensures.bytes c.write_part-2.ensures.bytes

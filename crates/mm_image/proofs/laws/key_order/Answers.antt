use Rattle.std.proofs.Common.{refl}
use Rattle.mm_image.specs.Facts.KeyOrder.{chunk_order, occurrence_order}
use Rattle.mm_image.proofs.laws.key_order.Goals as goal

pub returns : goal.returns
returns c = record {
  chunks = chunk_order c.byte_order.ensures c.ancestry.ensures;
  occurrences = occurrence_order c.byte_order.ensures;
  counts = λ v w. refl;
}

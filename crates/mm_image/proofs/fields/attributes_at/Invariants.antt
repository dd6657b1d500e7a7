use Rattle.mm_image.proofs.Getting.{Going}
use Rattle.mm_image.proofs.fields.attributes_at.Given as goal

abbrev pub invariant-loop : goal.invariant-loop
invariant-loop l = Going l.count l.counter l.bytes l.seen l.attributes l.rest

use Rattle.std.proofs.Common.{Some, None}
use Rattle.mm_image.specs.declared.parsed.Parsed.TheVariants.{Chunk, Count, Occurrence}
use Rattle.mm_check.proofs.Stepping.{parsed_place}
use Rattle.mm_check.proofs.place.place_of.Goals as goal

pub returns-in_default-clause-place : goal.returns-in_default-clause-place
returns-in_default-clause-place c = parsed_place c.reads_back.ensures c.args.key.now None (rw c.in_default.is at c.in_ok-parsed.ensures)

pub returns-in-Chunk-clause-place : goal.returns-in-Chunk-clause-place
returns-in-Chunk-clause-place c = parsed_place c.reads_back.ensures c.args.key.now (Some (Chunk c.in-Chunk.label c.in-Chunk.number)) (rw (c.in-Some.is, c.in-Chunk.is) at c.in_ok-parsed.ensures)

pub returns-in-Occurrence-clause-place : goal.returns-in-Occurrence-clause-place
returns-in-Occurrence-clause-place c = parsed_place c.reads_back.ensures c.args.key.now (Some (Occurrence c.in-Occurrence.word c.in-Occurrence.label)) (rw (c.in-Some.is, c.in-Occurrence.is) at c.in_ok-parsed.ensures)

pub returns-clause-place : goal.returns-clause-place
returns-clause-place c = parsed_place c.reads_back.ensures c.args.key.now (Some (Count c.in-Count.word)) (rw (c.in-Some.is, c.in-Count.is) at c.in_ok-parsed.ensures)

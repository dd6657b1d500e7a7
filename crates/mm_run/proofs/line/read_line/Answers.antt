use Rattle.std.proofs.Common.{◌∙◌, arith}
use Rattle.mm_run.proofs.Parts.{so_far-still, so_far-part, so_far-feed, taken-feed, taken-all}
use Rattle.mm_run.proofs.line.read_line.Goals as goal

pub returns-in-Ok-true-clause-line : goal.returns-in-Ok-true-clause-line
returns-in-Ok-true-clause-line g c =
    let held = rw c.in-Ok-Held.field-0-is at c.in-Ok-Held.ensures.bytes in
    let line = rw c.in-Ok-true.field-0-test at c.in-Ok-true.ensures.line in
    so_far-feed (so_far-still c.parts.invariant.so_far _ _ held.0) line.0 (taken-feed _ _ _ line.0 line.1 c.in-Ok-true.ensures.room) line.2 _ line.3

pub parts-preserved : goal.parts-preserved
parts-preserved g c =
    let held = rw c.in-Ok-Held.field-0-is at c.in-Ok-Held.ensures.bytes in
    let line = rw c.in-Ok-false.field-0-test at c.in-Ok-false.ensures.line in
    record {
      so_far = so_far-part (so_far-still c.parts.invariant.so_far _ _ held.0) _ (taken-all _ _ _ line.0 c.in-Ok-false.ensures.room) line.1 _ line.2;
      bound = c.in-Ok-false.ensures.bound;
      grows = omega (arith, c.parts.invariant.grows, c.in-Ok-false.ensures.grows);
      count = c.in-Ok-Held.ensures.cause.answered ∙ c.parts.invariant.count;
    }

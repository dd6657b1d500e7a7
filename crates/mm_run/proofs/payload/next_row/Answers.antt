use Rattle.std.proofs.Common.{◌≡◌, ◌∙◌, arith, true, false}
use Rattle.mm_run.specs.Payloads.{closes}
use Rattle.mm_run.proofs.Rows.{row-front, row-closes, row-ends, row-passes}
use Rattle.mm_run.proofs.payload.next_row.Goals as goal

pub returns-then-take_closing-2-clause-row : goal.returns-then-take_closing-2-clause-row
returns-then-take_closing-2-clause-row g c =
    let feed = rw c.in-Ok-Feed.field-0-is at c.in-Ok-Feed.ensures.line in
    let tells = row-closes c.args.payload.now.items feed.0 c.read_line.new.text.items c.args.limit c.len-start.result (omega arith) (omega arith) feed.2.kept in
    let closing : closes feed.0 ≡ true = cc in (
      record { row = feed.0; went = feed.1; part = feed.2.part; is_closing = closing },
      c.if-take_closing-2.ensures.items ∙ row-front c.args.payload.now.items feed.0 c.read_line.new.text.items c.args.limit c.len-start.result (omega arith) (omega arith) feed.2.kept,
    )

pub returns-then-take_closing-clause-row : goal.returns-then-take_closing-clause-row
returns-then-take_closing-clause-row g c =
    let last = rw c.in-Ok-Input.field-0-is at c.in-Ok-Input.ensures.line in
    let tells = row-closes c.args.payload.now.items last.0 c.read_line.new.text.items c.args.limit c.len-start.result (omega arith) (omega arith) last.2.kept in
    let closing : closes last.0 ≡ true = cc in (
      record { row = last.0; went = last.1; part = last.2.part; is_closing = closing; end = last.3; few = last.4 },
      c.if-take_closing.ensures.items ∙ row-front c.args.payload.now.items last.0 c.read_line.new.text.items c.args.limit c.len-start.result (omega arith) (omega arith) last.2.kept,
    )

pub returns-else-take_closing-clause-row : goal.returns-else-take_closing-clause-row
returns-else-take_closing-clause-row g c =
    let last = rw c.in-Ok-Input.field-0-is at c.in-Ok-Input.ensures.line in
    let tells = row-closes c.args.payload.now.items last.0 c.read_line.new.text.items c.args.limit c.len-start.result (omega arith) (omega arith) last.2.kept in
    let closing : closes last.0 ≡ false = cc in
    record { row = last.0; went = last.1; part = last.2.part; is_closing = closing; end = last.3; few = last.4 }

pub returns-in-Ok-true-clause-row : goal.returns-in-Ok-true-clause-row
returns-in-Ok-true-clause-row g c =
    let feed = rw c.in-Ok-Feed.field-0-is at c.in-Ok-Feed.ensures.line in
    let tells = row-closes c.args.payload.now.items feed.0 c.read_line.new.text.items c.args.limit c.len-start.result (omega arith) (omega arith) feed.2.kept in
    let other : closes feed.0 ≡ false = cc in
    let ends = row-ends c.args.payload.now.items feed.0 c.read_line.new.text.items c.args.limit c.len-start.result (omega arith) (omega arith) feed.2.kept c.take_closing-in-Ok-Feed.new.payload.items c.end_row.new.payload.items c.in-Ok-true.field-0 c.if-take_closing-2.ensures.items c.in-Ok-true.field-0-test c.in-Ok-true.ensures in
    (record { row = feed.0; went = feed.1; part = feed.2.part; is_closing = other }, ends.0, ends.1)

pub returns-in-Ok-false-clause-row : goal.returns-in-Ok-false-clause-row
returns-in-Ok-false-clause-row g c =
    let feed = rw c.in-Ok-Feed.field-0-is at c.in-Ok-Feed.ensures.line in
    let tells = row-closes c.args.payload.now.items feed.0 c.read_line.new.text.items c.args.limit c.len-start.result (omega arith) (omega arith) feed.2.kept in
    let other : closes feed.0 ≡ false = cc in
    let ends = row-passes c.args.payload.now.items feed.0 c.read_line.new.text.items c.args.limit c.len-start.result (omega arith) (omega arith) feed.2.kept c.take_closing-in-Ok-Feed.new.payload.items c.end_row.new.payload.items c.in-Ok-false.field-0 c.if-take_closing-2.ensures.items c.in-Ok-false.field-0-test c.in-Ok-false.ensures in
    (record { row = feed.0; went = feed.1; part = feed.2.part; is_closing = other }, ends)

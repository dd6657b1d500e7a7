use Rattle.std.proofs.Common.{sym, ◌∙◌}
use Rattle.mm_run.proofs.Cutting.{part-rest}
use Rattle.mm_run.proofs.Heads.{line-failed, read-form, last-given, head-quit, head-alone, head-payload}
use Rattle.mm_run.proofs.reading.next_command.Goals as goal

pub returns-in-Err-clause-next : goal.returns-in-Err-clause-next
returns-in-Err-clause-next g c = line-failed _ _ _ _ c.new-line.result.items c.read_line.new.text.items 65538 c.in-Err.error c.in-Err.ensures.line

pub returns-in-Ok-Full-clause-next : goal.returns-in-Ok-Full-clause-next
returns-in-Ok-Full-clause-next g c = let full = rw c.in-Ok-Full.field-0-is at c.in-Ok-Full.ensures.line in (part-rest full.0, full.1)

pub returns-in-Ok-Input-clause-next : goal.returns-in-Ok-Input-clause-next
returns-in-Ok-Input-clause-next g c =
    let last = rw c.in-Ok-Input.field-0-is at c.in-Ok-Input.ensures.line in
    last-given last.0 c.new-line.result.items c.read_line.new.text.items c.deref.result.now c.last_command.result last.1 last.2.part last.3 last.4
    c.last_command.ensures.last c.last_command.ensures.memory c.deref.ensures.value last.2.kept c.new-line.ensures.items

pub returns-then-quits-clause-next : goal.returns-then-quits-clause-next
returns-then-quits-clause-next g c =
    let feed = rw c.in-Ok-Feed.field-0-is at c.in-Ok-Feed.ensures.line in
    head-quit feed.0 c.in-Ok.form (read-form feed.0 c.new-line.result.items c.read_line.new.text.items c.deref-in-Ok-Feed.result.now c.in-Ok.form c.in-Ok.ensures c.deref-in-Ok-Feed.ensures.value feed.2.kept c.new-line.ensures.items) feed.1 feed.2.part (sym c.quits.ensures ∙ c.if-quits.true)

pub returns-then-takes_payload-clause-next : goal.returns-then-takes_payload-clause-next
returns-then-takes_payload-clause-next g c =
    let feed = rw c.in-Ok-Feed.field-0-is at c.in-Ok-Feed.ensures.line in
    head-payload feed.0 c.in-Ok.form (read-form feed.0 c.new-line.result.items c.read_line.new.text.items c.deref-in-Ok-Feed.result.now c.in-Ok.form c.in-Ok.ensures c.deref-in-Ok-Feed.ensures.value feed.2.kept c.new-line.ensures.items) feed.1 feed.2.part (sym c.quits.ensures ∙ c.if-quits.false) (sym c.takes_payload.ensures ∙ c.if-takes_payload.true) _ _ _ c.next_payload.ensures.next

pub returns-clause-next : goal.returns-clause-next
returns-clause-next g c =
    let feed = rw c.in-Ok-Feed.field-0-is at c.in-Ok-Feed.ensures.line in
    let other = sym c.quits.ensures ∙ c.if-quits.false in
    (head-alone feed.0 c.in-Ok.form (read-form feed.0 c.new-line.result.items c.read_line.new.text.items c.deref-in-Ok-Feed.result.now c.in-Ok.form c.in-Ok.ensures c.deref-in-Ok-Feed.ensures.value feed.2.kept c.new-line.ensures.items) feed.1 feed.2.part other (sym c.takes_payload.ensures ∙ c.if-takes_payload.false), other)

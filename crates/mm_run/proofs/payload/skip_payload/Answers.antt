use Rattle.std.proofs.Common.{◌∙◌}
use Rattle.mm_run.proofs.Gathering.{skips-more, skips-closed, skips-last, skips-cut, skips-full, skips-failed}
use Rattle.mm_run.proofs.payload.skip_payload.Goals as goal

pub returns-in-Err-clause-next : goal.returns-in-Err-clause-next
returns-in-Err-clause-next g c = λ rows over. skips-failed c.rows.invariant.skips _ _ rows over c.clear.new.self.items c.next_row.new.payload.items 0 c.in-Err.error c.in-Err.ensures.row

pub returns-in-Ok-Full-clause-next : goal.returns-in-Ok-Full-clause-next
returns-in-Ok-Full-clause-next g c = λ rows over.
    let full = rw c.in-Ok-Full.field-0-is at c.in-Ok-Full.ensures.row in
    skips-full c.rows.invariant.skips rows over full.0 full.1

pub returns-in-Ok-Cut-clause-next : goal.returns-in-Ok-Cut-clause-next
returns-in-Ok-Cut-clause-next g c = rw c.rows.invariant.same λ rows over. skips-cut c.rows.invariant.skips rows over (rw c.in-Ok-Cut.field-0-is at c.in-Ok-Cut.ensures.row)

pub returns-in-Ok-LastClosed-clause-next : goal.returns-in-Ok-LastClosed-clause-next
returns-in-Ok-LastClosed-clause-next g c = rw c.rows.invariant.same λ rows over.
    let last = rw c.in-Ok-LastClosed.field-0-is at c.in-Ok-LastClosed.ensures.row in
    skips-last c.rows.invariant.skips rows over last.0

pub returns-in-Ok-Closed-clause-next : goal.returns-in-Ok-Closed-clause-next
returns-in-Ok-Closed-clause-next g c = rw c.rows.invariant.same λ rows over.
    let closed = rw c.in-Ok-Closed.field-0-is at c.in-Ok-Closed.ensures.row in
    skips-closed c.rows.invariant.skips rows over closed.0 c.requires

pub rows-preserved-in-Ok-Over : goal.rows-preserved-in-Ok-Over
rows-preserved-in-Ok-Over g c =
    let over = rw c.in-Ok-Over.field-0-is at c.in-Ok-Over.ensures.row in
    record { skips = skips-more c.rows.invariant.skips over.0; same = c.rows.invariant.same; count = c.in-Ok-Over.ensures.faults ∙ c.rows.invariant.count }

pub rows-preserved : goal.rows-preserved
rows-preserved g c =
    let added = rw c.in-Ok-Added.field-0-is at c.in-Ok-Added.ensures.row in
    record { skips = skips-more c.rows.invariant.skips added.0; same = c.rows.invariant.same; count = c.in-Ok-Added.ensures.faults ∙ c.rows.invariant.count }

use Rattle.std.proofs.Common.{arith, ap, ◌∙◌}
use Rattle.mm_run.specs.Forms.{quits}
use Rattle.mm_run.specs.Payloads.{payload_limit}
use Rattle.mm_run.proofs.Gathering.{gathers-more, gathers-closed, gathers-last, gathers-cut, gathers-full, gathers-failed, gathers-over}
use Rattle.mm_run.proofs.payload.next_payload.Goals as goal

pub returns-in-Err-clause-next : goal.returns-in-Err-clause-next
returns-in-Err-clause-next g c = gathers-failed c.rows.invariant.gathers _ _ c.next_row.new.payload.items payload_limit c.in-Err.error c.in-Err.ensures.row

pub returns-in-Ok-Full-clause-next : goal.returns-in-Ok-Full-clause-next
returns-in-Ok-Full-clause-next g c =
    let full = rw c.in-Ok-Full.field-0-is at c.in-Ok-Full.ensures.row in
    gathers-full c.rows.invariant.gathers full.0 full.1

pub returns-in-Ok-Cut-clause-next : goal.returns-in-Ok-Cut-clause-next
returns-in-Ok-Cut-clause-next g c = rw c.rows.invariant.same
    let cut = rw c.in-Ok-Cut.field-0-is at c.in-Ok-Cut.ensures.row in
    gathers-cut c.rows.invariant.gathers cut

pub returns-in-Ok-LastClosed-clause-next : goal.returns-in-Ok-LastClosed-clause-next
returns-in-Ok-LastClosed-clause-next g c = rw c.rows.invariant.same
    let last = rw c.in-Ok-LastClosed.field-0-is at c.in-Ok-LastClosed.ensures.row in
    gathers-last c.rows.invariant.gathers last.0 _ (c.finished-payload.ensures c.rows.invariant.gathers.rows (last.1 ∙ c.rows.invariant.gathers.is))

pub returns-in-Ok-Closed-clause-next : goal.returns-in-Ok-Closed-clause-next
returns-in-Ok-Closed-clause-next g c = rw c.rows.invariant.same
    let closed = rw c.in-Ok-Closed.field-0-is at c.in-Ok-Closed.ensures.row in
    gathers-closed c.rows.invariant.gathers closed.0 c.requires _ (c.finished-payload-in-Ok-Closed.ensures c.rows.invariant.gathers.rows (closed.1 ∙ c.rows.invariant.gathers.is))

pub returns-in-Ok-Over-clause-next : goal.returns-in-Ok-Over-clause-next
returns-in-Ok-Over-clause-next g c =
    let over = rw c.in-Ok-Over.field-0-is at c.in-Ok-Over.ensures.row in
    let skipped = rw c.rows.invariant.same at c.skip_payload.ensures.next in
    gathers-over c.rows.invariant.gathers over.0 over.1 _ _ _ skipped

pub skip_payload-requires : goal.skip_payload-requires
skip_payload-requires g c = ap quits c.rows.invariant.same ∙ c.requires

pub rows-preserved : goal.rows-preserved
rows-preserved g c =
    let added = rw c.in-Ok-Added.field-0-is at c.in-Ok-Added.ensures.row in
    record {
      gathers = gathers-more c.rows.invariant.gathers added.0 _ added.1;
      few = omega arith;
      same = c.rows.invariant.same;
      count = c.in-Ok-Added.ensures.faults ∙ c.rows.invariant.count;
    }

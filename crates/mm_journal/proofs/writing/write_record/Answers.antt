use Rattle.std.proofs.Common.{length}
use Rattle.mm_host.specs.Disk.{TornLeaves}
use Rattle.mm_host.specs.declared.area.Area.TheVariants.{Journal}
use Rattle.mm_host.specs.Facts.Moments.{weakened, joined}
use Rattle.mm_journal.specs.Settled.{placed}
use Rattle.mm_journal.specs.Inside.Bodies.{AddsOrNot}
use Rattle.mm_journal.proofs.Steps.{append-first, append-second, append-settles, on-ok}
use Rattle.mm_journal.proofs.writing.write_record.Goals as goal

pub returns-clause-any_moment : goal.returns-clause-any_moment
returns-clause-any_moment g c = λ told ps r q h.
    let s = g.D.Disk.state c.args.disk.now in
    let s1 = g.D.Disk.state c.write_synced.new.disk in
    let P = AddsOrNot s ps (placed c.args.gate r) in
    joined g.D.Disk.moment g.D.Disk.left_since c.args.disk.now c.write_synced.new.disk c.write_synced-2.new.disk P (TornLeaves s1 Journal c.args.gate 1)
    (weakened g.D.Disk.moment g.D.Disk.left_since c.args.disk.now c.write_synced.new.disk _ P (c.in_ok-write_synced.ensures.any_moment told)
    (λ i left. append-first c.args.gate (length c.args.sealed.now) s ps (placed c.args.gate r) i q left))
    (c.write_synced-2.ensures.any_moment told)
    (λ i left. append-second c.args.gate s s1 ps c.args.sealed.now r i q h (c.in_ok-write_synced.ensures.ok told) (c.in_ok-write_synced.ensures.pages told) left)

pub returns-clause-settled : goal.returns-clause-settled
returns-clause-settled g c = λ told ps r q h.
    let s = g.D.Disk.state c.args.disk.now in
    let s1 = g.D.Disk.state c.write_synced.new.disk in
    let s2 = g.D.Disk.state c.write_synced-2.new.disk in
    on-ok c.write_synced-2.result (λ e. append-settles c.args.gate s.journal s1.journal s2.journal ps c.args.sealed.now r q h (c.in_ok-write_synced.ensures.ok told) e) (c.write_synced-2.ensures.ok told)

pub returns-in_err-write_synced-clause-any_moment : goal.returns-in_err-write_synced-clause-any_moment
returns-in_err-write_synced-clause-any_moment g c = λ told ps r q h.
    let s = g.D.Disk.state c.args.disk.now in
    weakened g.D.Disk.moment g.D.Disk.left_since c.args.disk.now c.write_synced.new.disk _ (AddsOrNot s ps (placed c.args.gate r)) (c.in_err-write_synced.ensures.any_moment told)
    (λ i left. append-first c.args.gate (length c.args.sealed.now) s ps (placed c.args.gate r) i q left)

use Rattle.std.proofs.Common.{subst, length}
use Rattle.mm_host.specs.Disk.{MayLeave, TornLeaves}
use Rattle.mm_host.specs.declared.area.Area.TheVariants.{Journal}
use Rattle.mm_host.specs.Facts.Moments.{started, goes_on}
use Rattle.mm_host.specs.Facts.Torn.{leaves-before, leaves-part, leaves-written, leaves-synced}
use Rattle.mm_journal.proofs.Calls.{over-write}
use Rattle.mm_journal.proofs.writing.write_synced.Goals as goal

pub returns-in-Err-clause-any_moment : goal.returns-in-Err-clause-any_moment
returns-in-Err-clause-any_moment g c = λ told.
    let s = g.D.Disk.state c.args.disk.now in
    let s1 = g.D.Disk.state c.write_at.new.self in
    let n = length c.args.bytes.now in
    let P = TornLeaves s Journal c.args.at n in
    goes_on g.D.Disk.moment g.D.Disk.left_since c.args.disk.now c.args.disk.now c.write_at.new.self P (MayLeave s1)
    (started g.D.Disk.moment g.D.Disk.left_since c.args.disk.now P (λ i left. leaves-before s Journal c.args.at n i (g.met.D.Disk.only_now c.args.disk.now i told left)))
    (c.in-Err.ensures.time told) (λ i may. leaves-part s s1 Journal c.args.at n i (c.in-Err.ensures.in_part told) may)

pub returns-in-Ok-sync-clause-any_moment : goal.returns-in-Ok-sync-clause-any_moment
returns-in-Ok-sync-clause-any_moment g c = λ told.
    let s = g.D.Disk.state c.args.disk.now in
    let s1 = g.D.Disk.state c.write_at.new.self in
    let s2 = g.D.Disk.state c.sync.new.self in
    let bytes = c.args.bytes.now in
    goes_on g.D.Disk.moment g.D.Disk.left_since c.args.disk.now c.write_at.new.self c.sync.new.self (TornLeaves s Journal c.args.at (length bytes)) (MayLeave s2)
    (over-write g.D.Disk.moment g.D.Disk.left_since c.args.disk.now c.write_at.new.self s s1 c.args.at bytes (λ i left. g.met.D.Disk.only_now c.args.disk.now i told left) (c.in-Ok.ensures.time told) (c.in-Ok.ensures.written told))
    (c.in-Ok-sync.ensures.time told)
    (λ i may. leaves-written s s1 Journal c.args.at bytes i (c.in-Ok.ensures.written told) (leaves-synced s1 s2 Journal i (c.in-Ok-sync.ensures.durable told) (g.met.D.Disk.now_counts c.write_at.new.self told) may))

pub returns-in-Err-sync-clause-any_moment : goal.returns-in-Err-sync-clause-any_moment
returns-in-Err-sync-clause-any_moment g c = λ told.
    let s = g.D.Disk.state c.args.disk.now in
    let s1 = g.D.Disk.state c.write_at.new.self in
    let s2 = g.D.Disk.state c.sync.new.self in
    let bytes = c.args.bytes.now in
    goes_on g.D.Disk.moment g.D.Disk.left_since c.args.disk.now c.write_at.new.self c.sync.new.self (TornLeaves s Journal c.args.at (length bytes)) (MayLeave s2)
    (over-write g.D.Disk.moment g.D.Disk.left_since c.args.disk.now c.write_at.new.self s s1 c.args.at bytes (λ i left. g.met.D.Disk.only_now c.args.disk.now i told left) (c.in-Ok.ensures.time told) (c.in-Ok.ensures.written told))
    (c.in-Err-sync.ensures.time told)
    (λ i may. leaves-written s s1 Journal c.args.at bytes i (c.in-Ok.ensures.written told) (subst (λ d. MayLeave d i) (c.in-Err-sync.ensures.state told) may))

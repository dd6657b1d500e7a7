use Rattle.std.proofs.Common.{subst}
use Rattle.mm_host.specs.declared.area.Area.TheVariants.{Journal}
use Rattle.mm_host.specs.Disk.{MayLeave}
use Rattle.mm_host.specs.Facts.Moments.{goes_on}
use Rattle.mm_host.specs.Facts.Torn.{leaves-synced, leaves-read}
use Rattle.mm_journal.proofs.Calls.{over-sync}
use Rattle.mm_journal.proofs.opening.read_area.Goals as goal

pub returns-in-Err-read-clause-any_moment : goal.returns-in-Err-read-clause-any_moment
returns-in-Err-read-clause-any_moment g c = λ told.
    let d = c.args.disk.now in
    let s = g.D.Disk.state d in
    let s1 = g.D.Disk.state c.sync.new.self in
    let s2 = g.D.Disk.state c.len.new.self in
    let s3 = g.D.Disk.state c.read.new.self in
    let here = g.met.D.Disk.now_counts d told in
    goes_on g.D.Disk.moment g.D.Disk.left_since d c.len.new.self c.read.new.self (MayLeave s) (MayLeave s3)
    (over-sync g.D.Disk.moment g.D.Disk.left_since d c.sync.new.self c.len.new.self s s1 s2 (λ i left. g.met.D.Disk.only_now d i told left) here
    (c.in-Ok.ensures.time told) (c.in-Ok.ensures.durable told) (c.in-Ok-len.ensures.time told) (c.in-Ok-len.ensures.state told))
    (c.in-Err-read.ensures.time told)
    (λ i may. leaves-synced s s1 Journal i (c.in-Ok.ensures.durable told) here (subst (λ d. MayLeave d i) (c.in-Ok-len.ensures.state told) (subst (λ d. MayLeave d i) (c.in-Err-read.ensures.state told) may)))

pub returns-in-Ok-read-clause-any_moment : goal.returns-in-Ok-read-clause-any_moment
returns-in-Ok-read-clause-any_moment g c = λ told.
    let d = c.args.disk.now in
    let s = g.D.Disk.state d in
    let s1 = g.D.Disk.state c.sync.new.self in
    let s2 = g.D.Disk.state c.len.new.self in
    let s3 = g.D.Disk.state c.read.new.self in
    let here = g.met.D.Disk.now_counts d told in
    goes_on g.D.Disk.moment g.D.Disk.left_since d c.len.new.self c.read.new.self (MayLeave s) (MayLeave s3)
    (over-sync g.D.Disk.moment g.D.Disk.left_since d c.sync.new.self c.len.new.self s s1 s2 (λ i left. g.met.D.Disk.only_now d i told left) here
    (c.in-Ok.ensures.time told) (c.in-Ok.ensures.durable told) (c.in-Ok-len.ensures.time told) (c.in-Ok-len.ensures.state told))
    (c.in-Ok-read.ensures.time told)
    (λ i may. leaves-synced s s1 Journal i (c.in-Ok.ensures.durable told) here (subst (λ d. MayLeave d i) (c.in-Ok-len.ensures.state told) (leaves-read s2 s3 i (c.in-Ok-read.ensures.counted told) may)))

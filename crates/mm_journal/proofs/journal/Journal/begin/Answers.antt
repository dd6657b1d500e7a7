use Rattle.std.proofs.Common.{[], true, false, refl}
use Rattle.mm_host.specs.Facts.Moments.{weakened}
use Rattle.mm_journal.specs.Settled.{NoneLeft}
use Rattle.mm_journal.proofs.Steps.{gate-shut, settled-at, settled-leaves, none-leaves}
use Rattle.mm_journal.proofs.journal.Journal.begin.Goals as goal

pub returns-in_err-write_synced-clause-any_moment : goal.returns-in_err-write_synced-clause-any_moment
returns-in_err-write_synced-clause-any_moment g c = λ told.
    let s = g.D.Disk.state c.args.disk.now in
    let place = c.requires.place told in
    weakened g.D.Disk.moment g.D.Disk.left_since c.args.disk.now c.write_synced.new.disk _ (NoneLeft s) (c.in_err-write_synced.ensures.any_moment told)
    (λ i left. none-leaves s i (place.blank c.requires.unbegun) place.synced left)

pub returns-clause-any_moment : goal.returns-clause-any_moment
returns-clause-any_moment g c = λ told.
    let s = g.D.Disk.state c.args.disk.now in
    let place = c.requires.place told in
    weakened g.D.Disk.moment g.D.Disk.left_since c.args.disk.now c.write_synced.new.disk _ (NoneLeft s) (c.in_ok-write_synced.ensures.any_moment told)
    (λ i left. none-leaves s i (place.blank c.requires.unbegun) place.synced left)

pub returns-clause-at : goal.returns-clause-at
returns-clause-at g c = λ told.
    let s = g.D.Disk.state c.args.disk.now in
    let s1 = g.D.Disk.state c.write_synced.new.disk in
    settled-at (record { gate = 0; is_begun = true; has_failed = false }) s1.journal [] refl (gate-shut s.journal s1.journal (c.in_ok-write_synced.ensures.ok told))

pub returns-clause-none : goal.returns-clause-none
returns-clause-none g c = λ told i may.
    let s = g.D.Disk.state c.args.disk.now in
    let s1 = g.D.Disk.state c.write_synced.new.disk in
    settled-leaves 0 s1 [] i (gate-shut s.journal s1.journal (c.in_ok-write_synced.ensures.ok told)) may

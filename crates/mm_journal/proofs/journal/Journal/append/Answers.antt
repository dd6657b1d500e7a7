use Rattle.std.proofs.Common.{◌≡◌, ◌+◌, ◌++◌, [], ◌∷◌, ℕ, Bool, length, true, false, sym, ap, ◌∙◌, arith}
use Rattle.mm_journal.specs.Records.{records, with_record}
use Rattle.mm_journal.specs.Settled.{JournalState, placed}
use Rattle.mm_journal.proofs.Steps.{settled-here, settled-at, settled-leaves, sealed-length}
use Rattle.mm_journal.proofs.Calls.{over-append}
use Rattle.mm_journal.proofs.journal.Journal.append.Goals as goal

pub returns-in_err-write_record-clause-any_moment : goal.returns-in_err-write_record-clause-any_moment
returns-in_err-write_record-clause-any_moment g c = λ told.
    let s = g.D.Disk.state c.args.disk.now in
    let j = c.args.self.now in
    let r = c.args.sealed.now in
    let place = c.requires.place told in
    let gate : c.self.inside.gate ≡ j.gate = ap (λ (j : JournalState). j.gate) c.self.view_is in
    over-append g.D.Disk.moment g.D.Disk.left_since c.args.disk.now c.write_record.new.disk s j c.self.inside.gate r place gate
    (c.in_err-write_record.ensures.any_moment told place.found r (settled-here j c.self.inside.gate s.journal place gate c.requires.begun) c.bytes-bytes.ensures)

pub returns-clause-any_moment : goal.returns-clause-any_moment
returns-clause-any_moment g c = λ told.
    let s = g.D.Disk.state c.args.disk.now in
    let j = c.args.self.now in
    let r = c.args.sealed.now in
    let place = c.requires.place told in
    let gate : c.self.inside.gate ≡ j.gate = ap (λ (j : JournalState). j.gate) c.self.view_is in
    over-append g.D.Disk.moment g.D.Disk.left_since c.args.disk.now c.write_record.new.disk s j c.self.inside.gate r place gate
    (c.in_ok-write_record.ensures.any_moment told place.found r (settled-here j c.self.inside.gate s.journal place gate c.requires.begun) c.bytes-bytes.ensures)

pub returns-clause-at : goal.returns-clause-at
returns-clause-at g c = λ told.
    let s = g.D.Disk.state c.args.disk.now in
    let s1 = g.D.Disk.state c.write_record.new.disk in
    let j = c.args.self.now in
    let r = c.args.sealed.now in
    let old = c.self.inside in
    let place = c.requires.place told in
    let gate : old.gate ≡ j.gate = ap (λ (j : JournalState). j.gate) c.self.view_is in
    let begun : old.is_begun ≡ true = ap (λ (j : JournalState). j.is_begun) c.self.view_is ∙ c.requires.begun in
    settled-at (record { gate = old.gate + length c.bytes-bytes.result.now; is_begun = old.is_begun; has_failed = false }) s1.journal (place.found ++ placed old.gate r ∷ []) begun
    (c.in_ok-write_record.ensures.settled told place.found r (settled-here j old.gate s.journal place gate c.requires.begun) c.bytes-bytes.ensures)

pub returns-clause-acknowledged : goal.returns-clause-acknowledged
returns-clause-acknowledged g c = λ told i may.
    let s = g.D.Disk.state c.args.disk.now in
    let s1 = g.D.Disk.state c.write_record.new.disk in
    let j = c.args.self.now in
    let r = c.args.sealed.now in
    let old = c.self.inside in
    let place = c.requires.place told in
    let gate : old.gate ≡ j.gate = ap (λ (j : JournalState). j.gate) c.self.view_is in
    settled-leaves (old.gate + length c.bytes-bytes.result.now) s1 (place.found ++ placed old.gate r ∷ []) i
    (c.in_ok-write_record.ensures.settled told place.found r (settled-here j old.gate s.journal place gate c.requires.begun) c.bytes-bytes.ensures) may
    ∙ ap (λ x. with_record x (placed old.gate r)) (sym place.whole) ∙ ap (λ (k : ℕ). with_record (records s.journal.now) (placed k r)) gate

pub returns-in_err-write_record-clause-counted : goal.returns-in_err-write_record-clause-counted
returns-in_err-write_record-clause-counted g c = λ told.
    omega (arith, c.in_err-write_record.ensures.counted told, sealed-length c.bytes-bytes.result.now c.args.sealed.now c.bytes-bytes.ensures)

pub returns-clause-counted : goal.returns-clause-counted
returns-clause-counted g c = λ told.
    omega (arith, c.in_ok-write_record.ensures.counted told, sealed-length c.bytes-bytes.result.now c.args.sealed.now c.bytes-bytes.ensures)

pub returns-clause-ok : goal.returns-clause-ok
returns-clause-ok g c =
    let j = c.args.self.now in
    let old = c.self.inside in
    let same : old.gate ≡ j.gate = ap (λ (j : JournalState). j.gate) c.self.view_is in
    let gate : old.gate + length c.bytes-bytes.result.now ≡ j.gate + (42 + length c.args.sealed.now.bytes) = omega (arith, same, sealed-length c.bytes-bytes.result.now c.args.sealed.now c.bytes-bytes.ensures) in
    let begun : old.is_begun ≡ true = ap (λ (j : JournalState). j.is_begun) c.self.view_is ∙ c.requires.begun in
    ap {B = JournalState} (λ (n : ℕ). record { gate = n; is_begun = old.is_begun; has_failed = false }) gate
    ∙ ap {B = JournalState} (λ (b : Bool). record { gate = j.gate + (42 + length c.args.sealed.now.bytes); is_begun = b; has_failed = false }) begun

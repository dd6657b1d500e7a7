use Rattle.std.proofs.Common.{rules, ◌≡◌, ◌≤◌, ℕ, List, length, true, false, refl, sym, ap, subst, ◌∙◌, arith}
use Rattle.std.specs.Prelude.{vec_len}
use Rattle.mm_host.specs.Disk.{Image}
use Rattle.mm_journal.specs.Records.{records}
use Rattle.mm_journal.specs.Records.Read.{Whole}
use Rattle.mm_journal.specs.Settled.{IsClosedAt}
use Rattle.mm_journal.specs.declared.payload.Payload.{Payload}
use Rattle.mm_journal.proofs.Walking.{closed-read}
use Rattle.mm_journal.proofs.Steps.{blank-records, blank-at, settled-at}
use Rattle.mm_journal.proofs.journal.Journal.from_disk.Goals as goal

pub returns-then-len-le1-clause-records : goal.returns-then-len-le1-clause-records
returns-then-len-le1-clause-records g c = λ told.
    let s = g.D.Disk.state c.args.disk.now in
    let bytes = c.in_ok-bytes.bytes in
    let long : vec_len bytes ≡ length bytes.items = search rules in
    let short : length bytes.items ≤ 1 = omega (arith, long, c.len.ensures, c.if-len-le1.true) in
    blank-records s.journal.now (subst (λ (l : List ℕ). length l ≤ 1) (c.in_ok-bytes.ensures.bytes told) short) ∙ ap (λ (l : List Payload). Whole l) (sym c.new.ensures.items)

pub returns-then-len-le1-clause-at : goal.returns-then-len-le1-clause-at
returns-then-len-le1-clause-at g c = λ told.
    let s1 = g.D.Disk.state c.read_area.new.disk in
    let bytes = c.in_ok-bytes.bytes in
    let long : vec_len bytes ≡ length bytes.items = search rules in
    let short : length bytes.items ≤ 1 = omega (arith, long, c.len.ensures, c.if-len-le1.true) in
    let same : bytes.items ≡ s1.journal.now = c.in_ok-bytes.ensures.bytes told ∙ sym (ap (λ (i : Image). i.journal) (c.in_ok-bytes.ensures.same told)) in
    blank-at (record { gate = 0; is_begun = false; has_failed = false }) s1.journal refl (subst (λ (l : List ℕ). length l ≤ 1) same short) (c.in_ok-bytes.ensures.synced told)

pub returns-clause-records : goal.returns-clause-records
returns-clause-records g c = λ told.
    let s = g.D.Disk.state c.args.disk.now in
    let found = c.in_ok-gate.found.items in
    let same : c.deref.result.now ≡ s.journal.now = c.deref.ensures.value ∙ c.in_ok-bytes.ensures.bytes told in
    subst (λ (l : List ℕ). records l ≡ Whole found) same (closed-read c.in_ok-gate.gate c.deref.result.now found c.in_ok-gate.ensures.closed)

pub returns-clause-at : goal.returns-clause-at
returns-clause-at g c = λ told.
    let s1 = g.D.Disk.state c.read_area.new.disk in
    let gate = c.in_ok-gate.gate in
    let found = c.in_ok-gate.found.items in
    let same : c.deref.result.now ≡ s1.journal.now = c.deref.ensures.value ∙ c.in_ok-bytes.ensures.bytes told ∙ sym (ap (λ (i : Image). i.journal) (c.in_ok-bytes.ensures.same told)) in
    settled-at (record { gate = gate; is_begun = true; has_failed = false }) s1.journal found refl
    (record { closed = subst (λ (l : List ℕ). IsClosedAt gate l found) same c.in_ok-gate.ensures.closed; synced = c.in_ok-bytes.ensures.synced told })

use Rattle.std.proofs.Common.{◌-◌, ◌≤◌, ◌+◌, take, drop, ap, sym, ◌∙◌, arith}
use Rattle.std.proofs.lemmas.List.{length-take}
use Rattle.mm_run.specs.Inside.Buffer.{Buffered}
use Rattle.mm_run.proofs.Kept.{window-split}
use Rattle.mm_run.proofs.buffer.Buffer.take_line.Goals as goal

pub returns-in_ok-append_within-in-Some-clause-line :
    goal.returns-in_ok-append_within-in-Some-clause-line
returns-in_ok-append_within-in-Some-clause-line c =
    let s = c.self.inside in
    let found = rw c.deref.ensures.value at c.in-Some.ensures.found in
    let room : c.in-Some.size + 1 ≤ s.end - s.at = omega (arith, found.1, length-take (s.end - s.at) (drop s.at s.piece.items)) in (
      take c.in-Some.size (take (s.end - s.at) (drop s.at s.piece.items)),
      ap (λ (b : Buffered). b.held) (sym c.self.view_is) ∙ window-split s.piece.items s.at s.end c.in-Some.size 10 found.1 found.2 room,
      found.0,
      rw c.deref.ensures.value at c.in_ok-append_within-in-Some.ensures.ok,
    )

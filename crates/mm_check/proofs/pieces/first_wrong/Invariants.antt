use Rattle.std.specs.Prelude.{◌≡◌, ◌-◌, ◌+◌}
use Rattle.mm_check.specs.Inside.Reader.{as_open, wrong_from, wrong_in}
use Rattle.mm_check.proofs.pieces.first_wrong.Given as goal

abbrev pub invariant-loop-number : goal.invariant-loop-number
invariant-loop-number l = wrong_from l.started.label l.started.content.items l.number (l.started.number + 1 - l.number) ≡ wrong_in (as_open l.started)

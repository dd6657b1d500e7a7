use Rattle.std.specs.Prelude.{◌≡◌, filter, length}
use Rattle.mm_label.specs.Fronts.{is_front}
use Rattle.mm_check.specs.Inside.Path.{AreNested}
use Rattle.mm_check.proofs.path.leave.Given as goal

abbrev pub invariant-loop-path : goal.invariant-loop-path
invariant-loop-path l = AreNested l.fn.path → AreNested l.path × (filter (λ y. is_front y l.label) l.path ≡ filter (λ y. is_front y l.label) l.fn.path)

abbrev pub decreases-loop-path : goal.decreases-loop-path
decreases-loop-path l = length l.path

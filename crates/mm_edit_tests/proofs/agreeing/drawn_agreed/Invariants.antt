use Rattle.mm_keeper.specs.Blocks.{joined}
use Rattle.mm_keeper.specs.Entries.{IsSorted}
use Rattle.mm_keeper.specs.Failing.{FailsAsListed}
use Rattle.mm_edit_tests.proofs.agreeing.drawn_agreed.Given as goal

abbrev pub invariant-loop-i : goal.invariant-loop-i
invariant-loop-i g l = record { sound : IsSorted (joined l.keeper.map) × FailsAsListed l.keeper.failing.items l.keeper.faults }

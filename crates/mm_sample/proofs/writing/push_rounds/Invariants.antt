use Rattle.std.proofs.Common.{◌≡◌, ◌-◌, ◌++◌}
use Rattle.std.specs.List.{concat}
use Rattle.mm_sample.specs.Script.{rounds}
use Rattle.mm_sample.proofs.writing.push_rounds.Given as goal

-- what is written and the rounds that are left are the whole
abbrev pub invariant-loop-round : goal.invariant-loop-round
invariant-loop-round l = l.script.items ++ concat (rounds (300 - l.round) l.draws.number) ≡ l.initial.script.items ++ concat (rounds 300 l.initial.draws.number)

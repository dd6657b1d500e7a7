use Rattle.std.proofs.Common.{◌≡◌, ◌*◌, ◌-◌, ◌++◌}
use Rattle.std.specs.Prelude.{string_bytes}
use Rattle.mm_sample.specs.Draws.{after}
use Rattle.mm_sample.specs.Script.{sections}
use Rattle.mm_sample.proofs.commands.sections_text.Given as goal

-- what is written and the sections that are left are the whole
abbrev pub invariant-loop-done : goal.invariant-loop-done
invariant-loop-done l = record {
  left : string_bytes l.text ++ sections (8 - l.done) l.draws.number ≡ sections 8 l.initial.draws.number;
  drawn : l.draws.number ≡ after (4 * l.done) l.initial.draws.number;
}

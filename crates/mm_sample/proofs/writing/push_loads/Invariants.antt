use Rattle.std.proofs.Common.{◌≡◌, ◌*◌, ◌-◌, ◌++◌}
use Rattle.std.specs.List.{concat}
use Rattle.mm_sample.specs.Draws.{after}
use Rattle.mm_sample.specs.Script.{loads}
use Rattle.mm_sample.proofs.writing.push_loads.Given as goal

-- what is written and the loads that are left are the whole
abbrev pub invariant-loop-document : goal.invariant-loop-document
invariant-loop-document l = record {
  left : l.script.items ++ concat (loads (200 - l.document) l.document l.draws.number) ≡ l.initial.script.items ++ concat (loads 200 0 l.initial.draws.number);
  drawn : l.draws.number ≡ after (32 * l.document) l.initial.draws.number;
}

use Rattle.std.proofs.Common.{◌≡◌, ◌++◌}
use Rattle.mm_match.specs.Inside.Passing.{marks_of}
use Rattle.mm_match.proofs.paths.listed.Given as goal

-- the marks so far, with those of the entries to come, are those of all
abbrev pub invariant-loop-label : goal.invariant-loop-label
invariant-loop-label l = l.marks ++ marks_of l.label-iterator ≡ marks_of l.fn.masks.entries

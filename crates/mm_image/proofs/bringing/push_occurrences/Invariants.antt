use Rattle.std.proofs.Common.{◌≡◌, ◌++◌}
use Rattle.std.specs.Prelude.{flat_map}
use Rattle.mm_image.specs.Inside.Cutting.{listed}
use Rattle.mm_image.specs.Keyed.{keyed}
use Rattle.mm_image.proofs.bringing.push_occurrences.Given as goal

abbrev pub invariant-loop-word : goal.invariant-loop-word
invariant-loop-word l = keyed l.entries ++ flat_map listed l.word-iterator ≡ keyed l.fn.entries ++ flat_map listed l.lists.entries

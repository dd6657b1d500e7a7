use Rattle.std.proofs.Common.{◌≡◌, ◌++◌, take}
use Rattle.mm_image.specs.Inside.Cutting.{listed}
use Rattle.mm_image.specs.Keyed.{keyed}
use Rattle.mm_image.proofs.bringing.push_word.Given as goal

abbrev pub invariant-loop-label : goal.invariant-loop-label
invariant-loop-label l = keyed l.entries ≡ keyed l.fn.entries ++ listed (l.word, take l.label-index l.labels)

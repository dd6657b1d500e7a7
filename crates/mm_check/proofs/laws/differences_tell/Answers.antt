use Rattle.std.proofs.Common.{◌∙◌, ap}
use Rattle.mm_keeper.specs.Entries.{Entries}
use Rattle.mm_check.specs.Blame.{first_difference}
use Rattle.mm_check.proofs.Differences.{no_difference, same_same}
use Rattle.mm_check.proofs.laws.differences_tell.Goals as goal

pub returns : goal.returns
returns c = λ s d. (no_difference s d, λ e. ap (λ (z : Entries). first_difference z d) e ∙ same_same d)

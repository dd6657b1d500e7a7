use Rattle.mm_image.proofs.Telling.{counts_told, names_told}
use Rattle.mm_image.proofs.laws.values_tell.Goals as goal

pub returns : goal.returns
returns c = record { names = names_told; counts = counts_told }

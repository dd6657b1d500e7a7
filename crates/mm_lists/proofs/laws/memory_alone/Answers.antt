use Rattle.mm_lists.proofs.Refusing.{memory_alone}
use Rattle.mm_lists.proofs.laws.memory_alone.Goals as goal

pub returns : goal.returns
returns c = memory_alone

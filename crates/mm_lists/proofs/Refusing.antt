-- Lists that can't fail want memory alone.
use Rattle.std.proofs.Common.{◌≡◌, refl, false, arith}
use Rattle.mm_host.specs.declared.damage.Fault.{Fault}
use Rattle.mm_host.specs.declared.damage.Fault.TheVariants.{DiskFault, Damaged, Spent, Memory}
use Rattle.mm_lists.specs.Causes.{CauseOf, IsSound}

pub memory_alone : (e : Fault) → CauseOf 0 0 false e → IsSound e → e ≡ Memory
memory_alone DiskFault c s = absurd (omega arith)
memory_alone (Damaged d) c s = absurd s
memory_alone Spent c s = absurd cc
memory_alone Memory c s = refl

-- Faults that a reader of bytes makes by itself.
use Rattle.mm_host.specs.declared.damage.Fault.{Fault}
use Rattle.mm_host.specs.declared.damage.Fault.TheVariants.{DiskFault, Damaged, Spent, Memory}

abbrev pub IsOwn : Fault → Type 0
IsOwn DiskFault = ⊥
IsOwn (Damaged d) = Unit {0}
IsOwn Spent = ⊥
IsOwn Memory = Unit {0}

-- A lending call's error as a fault.
use Rattle.std.specs.Prelude.{Option, Some, None, Result, Ok, Err}
use Rattle.mm_host.specs.declared.damage.Damage.TheVariants as damage
use Rattle.mm_host.specs.declared.damage.Fault.{Fault}
use Rattle.mm_host.specs.declared.damage.Fault.TheVariants as fault
use Rattle.mm_keeper.specs.declared.lend_error.LendError.{LendError}
use Rattle.mm_keeper.specs.declared.lend_error.LendError.TheVariants as lend

abbrev pub fault_from : LendError → Fault
fault_from lend.DiskFault = fault.DiskFault
fault_from (lend.Cut place at needed held) = fault.Damaged (damage.Cut place at needed held)
fault_from (lend.Page page why stored due) = fault.Damaged (damage.Page page why stored due)
fault_from lend.Spent = fault.Spent
fault_from lend.Memory = fault.Memory

-- the fault that a lending call answers
abbrev pub lend_fault_of : {T : Type 0} → Result T LendError → Option Fault
lend_fault_of (Ok x) = None
lend_fault_of (Err e) = Some (fault_from e)

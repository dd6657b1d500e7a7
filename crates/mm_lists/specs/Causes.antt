-- Why a call on lists was refused.
use Rattle.std.specs.Prelude.{ℕ, ◌≤◌, ◌≡◌, Bool, true, Result, OnOk, IfErr}
use Rattle.mm_host.specs.Causes.{Rose}
use Rattle.mm_host.specs.declared.damage.Damage.{Damage}
use Rattle.mm_host.specs.declared.damage.Fault.{Fault}
use Rattle.mm_host.specs.declared.damage.Fault.TheVariants.{DiskFault, Damaged, Spent, Memory}

-- the disk failed only where the count of faults rose, and the lists were of no further use only where they were spent before
abbrev pub CauseOf : ℕ → ℕ → Bool → Fault → Type 0
CauseOf before now spent DiskFault = Rose before now
CauseOf before now spent (Damaged d) = Unit {0}
CauseOf before now spent Spent = spent ≡ true
CauseOf before now spent Memory = Unit {0}

-- the count of faults never falls, what wasn't spent isn't after an answer, and a refusal has its cause
pub record Caused {T : Type 0} (before now : ℕ) (spent spent_now : Bool) (result : Result T Fault) : Type 0 where
  pub later : before ≤ now
  pub ok : OnOk result (spent_now ≡ true → spent ≡ true)
  pub err : IfErr result (CauseOf before now spent)

-- nothing was found wrong
abbrev pub IsSound : Fault → Type 0
IsSound DiskFault = Unit {0}
IsSound (Damaged d) = ⊥
IsSound Spent = Unit {0}
IsSound Memory = Unit {0}

-- damage is told only where this is damaged
abbrev pub BlamesOnly : (Damage → Type 0) → Fault → Type 0
BlamesOnly damaged DiskFault = Unit {0}
BlamesOnly damaged (Damaged d) = damaged d
BlamesOnly damaged Spent = Unit {0}
BlamesOnly damaged Memory = Unit {0}

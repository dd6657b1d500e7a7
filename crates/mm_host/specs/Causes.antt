-- When a device may answer that it failed.
use Rattle.std.specs.Prelude.{ℕ, ◌+◌, ◌-◌, ◌^◌, ◌≤◌, ◌≡◌, min, ◌⊎◌, Result, OnOk, OnErr, IfErr}
use Rattle.mm_host.specs.declared.damage.Fault.{Fault}
use Rattle.mm_host.specs.declared.damage.Fault.TheVariants.{DiskFault, Damaged, Spent, Memory}

-- a count that rises by one, and stands still at its type's end
abbrev pub next_count : ℕ → ℕ
next_count n = min (n + 1) (2 ^ 64 - 1)

-- A count rose. It stands still at its type's end, and is said to rise there too.
abbrev pub Rose : ℕ → ℕ → Type 0
Rose before now = next_count before ≤ now

-- A count of faults never falls. An answer leaves it as it was, and a failure counts once.
pub record HasCause {T E : Type 0} (before now : ℕ) (result : Result T E) : Type 0 where
  pub later : before ≤ now
  pub answered : OnOk result (now ≡ before)
  pub failed : OnErr result (now ≡ next_count before)

-- Neither a disk's count of faults nor its count of wants falls. An answer leaves both as they were, and a failure has raised one of them.
pub record HasDiskCause {T E : Type 0} (faults faults' wants wants' : ℕ) (result : Result T E) : Type 0 where
  pub faults_later : faults ≤ faults'
  pub wants_later : wants ≤ wants'
  pub answered : OnOk result ((faults' ≡ faults) × (wants' ≡ wants))
  pub failed : OnErr result (Rose faults faults' ⊎ Rose wants wants')

-- The count that rose where a call over a disk answers this fault. It answers no other.
abbrev pub RoseFor : ℕ → ℕ → ℕ → ℕ → Fault → Type 0
RoseFor faults faults' wants wants' DiskFault = Rose faults faults'
RoseFor faults faults' wants wants' Memory = Rose wants wants'
RoseFor faults faults' wants wants' (Damaged damage) = ⊥
RoseFor faults faults' wants wants' Spent = ⊥

-- In a call over a disk neither count falls, and the count of its fault rose.
pub record HasFaultCause {T : Type 0} (faults faults' wants wants' : ℕ) (result : Result T Fault) : Type 0 where
  pub faults_later : faults ≤ faults'
  pub wants_later : wants ≤ wants'
  pub failed : IfErr result (RoseFor faults faults' wants wants')

-- What a keeper shows, and what each of its calls keeps.
use Rattle.std.specs.Prelude.{◌≡◌, ◌≤◌, ◌+◌, ◌↔◌, ℕ, Bool, true, Option, Some, None, Result, Ok, Err, if◌then◌else◌}
use Rattle.mm_host.specs.Causes.{Rose}
use Rattle.mm_host.specs.declared.damage.Damage.{Damage}
use Rattle.mm_host.specs.declared.damage.Fault.{Fault}
use Rattle.mm_host.specs.declared.damage.Fault.TheVariants as fault
use Rattle.mm_keeper.specs.Entries.{Entries}

-- what a keeper shows: its two maps, and the place for which a spot stands
pub record Seen (S : Type 0) : Type 0 where
  pub now : Entries
  pub kept : Entries
  pub place : S → ℕ

-- how many bytes were written to each area of the disk below
pub record Written : Type 0 where
  pub pages : ℕ
  pub journal : ℕ

-- the fault that a call answers
abbrev pub fault_of : {T : Type 0} → Result T Fault → Option Fault
fault_of (Ok x) = None
fault_of (Err f) = Some f

-- Whether a keeper is spent after a call: by the disk's fault always, by want of memory where that call leaves changes undone.
abbrev pub spent_after : Bool → Bool → Option Fault → Bool
spent_after by_memory was None = was
spent_after by_memory was (Some fault.DiskFault) = true
spent_after by_memory was (Some (fault.Damaged d)) = was
spent_after by_memory was (Some fault.Spent) = was
spent_after by_memory was (Some fault.Memory) = if by_memory then true else was

-- Each call leaves the keeper over the same disk, sound, and with maps exactly where it had them. No count falls, a disk's fault comes only
-- where its count rose, no damage where there are maps, and `Spent` exactly where the keeper was spent.
pub record Keeps {K D : Type 0} (over : K → D) (has_maps is_sound : K → Type 0) (is_spent : K → Bool) (faults wants : K → ℕ) (by_memory : Bool) (old new : K) (answer : Option Fault) : Type 0 where
  pub device : over new ≡ over old
  pub sound : is_sound new
  pub maps : has_maps old ↔ has_maps new
  pub faults_later : faults old ≤ faults new
  pub wants_later : wants old ≤ wants new
  pub disk_fault : answer ≡ Some fault.DiskFault → Rose (faults old) (faults new)
  pub no_damage : has_maps old → (damage : Damage) → answer ≡ Some (fault.Damaged damage) → ⊥
  pub spent : (answer ≡ Some fault.Spent) ↔ (is_spent old ≡ true)
  pub then_spent : is_spent new ≡ spent_after by_memory (is_spent old) answer

-- No byte was written, and so many changes more are to be committed at most.
pub record WritesNothing {K : Type 0} (written : K → Written) (changes : K → ℕ) (more : ℕ) (old new : K) : Type 0 where
  pub bytes : written new ≡ written old
  pub count : changes new ≤ changes old + more

-- What a call through a keeper answers, as calls on lists say it.
use Rattle.std.proofs.Common.{ℕ, Bool, refl, sym, ◌∙◌, Some, Result, Ok, Err}
use Rattle.mm_host.specs.declared.damage.Fault.{Fault}
use Rattle.mm_host.specs.declared.damage.Fault.TheVariants.{DiskFault, Damaged, Spent, Memory}
use Rattle.mm_keeper.specs.Keeping.{fault_of}
use Rattle.mm_image.specs.Ground.{Accounts}
use Rattle.mm_lists.specs.Causes.{CauseOf, Caused}

module _ {K : Type 0} (is_sound : K → Type 0) (is_spent : K → Bool) (faults wants : K → ℕ) where
  cause_of : (old new : K) (f : Fault) → Accounts is_sound is_spent faults wants old new (Some f) → CauseOf (faults old) (faults new) (is_spent old) f
  cause_of old new DiskFault c = c.disk_fault refl
  cause_of old new (Damaged d) c = tt
  cause_of old new Spent c = c.spent refl
  cause_of old new Memory c = tt

  pub caused_of : {T : Type 0} (old new : K) (r : Result T Fault) → Accounts is_sound is_spent faults wants old new (fault_of r) → Caused (faults old) (faults new) (is_spent old) (is_spent new) r
  caused_of old new (Ok a) c = record { later = c.faults_later; ok = λ e. sym c.then_spent ∙ e; err = tt }
  caused_of old new (Err f) c = record { later = c.faults_later; ok = tt; err = cause_of old new f c }

-- What calls that read through a keeper leave and answer, one after the other.
use Rattle.std.proofs.Common.{◌∙◌, refl, sym, ap, ℕ, ◌≤◌, Bool, false, Option, Some, None, arith}
use Rattle.mm_host.specs.Facts.Moments.{started, as_before_along}
use Rattle.mm_keeper.specs.Entries.{Entries}
use Rattle.mm_host.specs.Causes.{Rose}
use Rattle.mm_host.specs.declared.damage.Damage.{Damage}
use Rattle.mm_host.specs.declared.damage.Fault.{Fault}
use Rattle.mm_host.specs.declared.damage.Fault.TheVariants as fault
use Rattle.mm_keeper.specs.Keeping.{Keeps, Seen, Written, spent_after}
use Rattle.mm_image.specs.Ground.{Accounts, SameGround}

module _ {K D S : Type 0} (over : K → D) (has_maps : K → Type 0) (tells : Type 0) (seen : K → Seen S) (written : K → Written) (changes : K → ℕ) (moment : K → ℕ) (left_since : K → ℕ → Option Entries → Type 0) where
  abbrev Same : K → K → Type 0
  Same = SameGround over has_maps tells seen written changes moment left_since

  pub ground_itself : (k : K) → Same k k
  ground_itself k = record {
    device = refl;
    maps = (λ h. h, λ h. h);
    same = λ h. refl;
    quiet = λ t. record { bytes = refl; count = omega arith };
    any_moment = λ h. started moment left_since k (left_since k (moment k)) (λ i l. l);
  }

  pub ground_along : (k l m : K) → ((x : K) (t : ℕ) (i : Option Entries) → has_maps x → t ≤ moment x → left_since x (moment x) i → left_since x t i) → Same k l → Same l m → Same k m
  ground_along k l m counts p q = record {
    device = q.device ∙ p.device;
    maps = (λ h. q.maps.0 (p.maps.0 h), λ h. p.maps.1 (q.maps.1 h));
    same = λ h. q.same (p.maps.0 h) ∙ p.same h;
    quiet = λ t. let a = p.quiet t in let b = q.quiet t in record { bytes = b.bytes ∙ a.bytes; count = omega (arith, a.count, b.count) };
    any_moment = λ h. as_before_along moment left_since k l m (λ t i le left. counts l t i (p.maps.0 h) le left) (p.any_moment h) (q.any_moment (p.maps.0 h));
  }

rose_later : (a b c d : ℕ) → a ≤ b → c ≤ d → Rose b c → Rose a d
rose_later a b c d h k r = omega (arith, h, k, r)

module _ {K D : Type 0} (over : K → D) (has_maps is_sound : K → Type 0) (is_spent : K → Bool) (faults wants : K → ℕ) where
  pub accounts_itself : (k : K) → is_sound k → Accounts is_sound is_spent faults wants k k None
  accounts_itself k s = record {
    sound = s;
    faults_later = omega arith;
    wants_later = omega arith;
    disk_fault = λ e. absurd cc;
    spent = λ e. absurd cc;
    then_spent = refl;
  }

  pub accounts_one : (k l : K) (a : Option Fault) → Keeps over has_maps is_sound is_spent faults wants false k l a → Accounts is_sound is_spent faults wants k l a
  accounts_one k l a c = record {
    sound = c.sound;
    faults_later = c.faults_later;
    wants_later = c.wants_later;
    disk_fault = c.disk_fault;
    spent = c.spent.0;
    then_spent = c.then_spent;
  }

  pub accounts_along : (k l m : K) (a : Option Fault) → Accounts is_sound is_spent faults wants k l None → Accounts is_sound is_spent faults wants l m a → Accounts is_sound is_spent faults wants k m a
  accounts_along k l m a p q = record {
    sound = q.sound;
    faults_later = omega (arith, p.faults_later, q.faults_later);
    wants_later = omega (arith, p.wants_later, q.wants_later);
    disk_fault = λ e. rose_later (faults k) (faults l) (faults m) (faults m) p.faults_later (omega arith) (q.disk_fault e);
    spent = λ e. sym p.then_spent ∙ q.spent e;
    then_spent = q.then_spent ∙ ap (λ (b : Bool). spent_after false b a) p.then_spent;
  }

  -- want of memory and damage are no faults of the keeper's
  pub accounts_memory : (k l : K) → Accounts is_sound is_spent faults wants k l None → Accounts is_sound is_spent faults wants k l (Some fault.Memory)
  accounts_memory k l p = record {
    sound = p.sound;
    faults_later = p.faults_later;
    wants_later = p.wants_later;
    disk_fault = λ e. absurd cc;
    spent = λ e. absurd cc;
    then_spent = p.then_spent;
  }

  pub accounts_damage : (k l : K) (d : Damage) → Accounts is_sound is_spent faults wants k l None → Accounts is_sound is_spent faults wants k l (Some (fault.Damaged d))
  accounts_damage k l d p = record {
    sound = p.sound;
    faults_later = p.faults_later;
    wants_later = p.wants_later;
    disk_fault = λ e. absurd cc;
    spent = λ e. absurd cc;
    then_spent = p.then_spent;
  }

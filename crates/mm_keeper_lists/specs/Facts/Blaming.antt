-- What is damaged in a keeper's map is the same before and after a call that reads.
use Rattle.std.specs.Prelude.{ℕ, ◌↔◌, Option, Result, Ok, Err, IfErr}
use Rattle.std.proofs.Common.{sym, subst}
use Rattle.mm_host.specs.declared.damage.Damage.{Damage}
use Rattle.mm_host.specs.declared.damage.Fault.{Fault}
use Rattle.mm_host.specs.declared.damage.Fault.TheVariants.{DiskFault, Damaged, Spent, Memory}
use Rattle.mm_keeper.specs.Entries.{Entries}
use Rattle.mm_keeper.specs.Keeping.{Seen, Written}
use Rattle.mm_image.specs.Ground.{SameGround}
use Rattle.mm_lists.specs.Causes.{BlamesOnly}
use Rattle.mm_keeper_lists.specs.Found.{IsDamageOf}

module _ {K D S : Type 0} (over : K → D) (has_maps : K → Type 0) (tells : Type 0) (seen : K → Seen S) (written : K → Written) (changes : K → ℕ) (moment : K → ℕ) (left_since : K → ℕ → Option Entries → Type 0) where
  abbrev Same : K → K → Type 0
  Same = SameGround over has_maps tells seen written changes moment left_since

  -- where the keeper has its maps, this is damaged in the one now
  abbrev Has : K → Damage → Type 0
  Has k d = has_maps k → IsDamageOf (seen k).now d

  pub same_damage : (old new : K) → Same old new → (d : Damage) → Has old d ↔ Has new d
  same_damage old new g d = (
    λ h m. let o = g.maps.1 m in subst (λ (z : Seen S). IsDamageOf z.now d) (sym (g.same o)) (h o),
    λ h m. subst (λ (z : Seen S). IsDamageOf z.now d) (g.same m) (h (g.maps.0 m)),
  )

  pub blamed_after : {T : Type 0} (old new : K) → Same old new → (r : Result T Fault) → (has_maps old → IfErr r (BlamesOnly (IsDamageOf (seen old).now))) → IfErr r (BlamesOnly (Has new))
  blamed_after old new g (Ok a) h = tt
  blamed_after old new g (Err DiskFault) h = tt
  blamed_after old new g (Err Spent) h = tt
  blamed_after old new g (Err Memory) h = tt
  blamed_after old new g (Err (Damaged d)) h = (same_damage old new g d).0 h

  pub blamed_before : {T : Type 0} (old new : K) → Same old new → (r : Result T Fault) → IfErr r (BlamesOnly (Has new)) → has_maps old → IfErr r (BlamesOnly (IsDamageOf (seen old).now))
  blamed_before old new g (Ok a) h = λ m. tt
  blamed_before old new g (Err DiskFault) h = λ m. tt
  blamed_before old new g (Err Spent) h = λ m. tt
  blamed_before old new g (Err Memory) h = λ m. tt
  blamed_before old new g (Err (Damaged d)) h = (same_damage old new g d).1 h

-- What holds of a log keeper between two calls.
use Rattle.std.proofs.Common.{◌≡◌, ℕ, List, [], ◌∷◌, Bool, Option, Some, refl, ap, ◌∙◌}
use Rattle.std.specs.Option.{unwrap_or}
use Rattle.std.proofs.Math.Logic.{∥∥₁_elim, ∥∥₁_prop}
use Rattle.std.specs.Coded.{×_prop, Π_prop, Unit-prop, coded_ℕ, coded_list, coded_option, coded×}
use native.Mathlib.Bridge.{le_prop}
use base.Stored.{Coded-set}
use mathlib.Core.Bool.{Bool-set}
use Rattle.mm_host.specs.Disk.{AreaState, DiskState, Image, MayLeave}
use Rattle.mm_keeper.specs.Entries.{Entries}
use Rattle.mm_keeper.specs.Facts.Sorting.{IsSorted-prop}
use Rattle.mm_journal.specs.Records.{Read, and_then}
use Rattle.mm_journal.specs.Records.Read.{Whole, Wrong}
use Rattle.mm_journal.specs.Settled.{JournalState}
use Rattle.mm_journal.specs.Facts.Between.{quiet-at}
use Rattle.mm_logmap.specs.Log.{log, map_of_records, kept_in, whole_of, MapsSince}
use Rattle.mm_logmap.specs.Inside.Spelled.{HasFitKeys}
use Rattle.mm_logmap.specs.Inside.Sound.{IsCurrent, IsSoundAt}

HasFitKeys-prop : (m : Entries) → IsProp (HasFitKeys m)
HasFitKeys-prop [] = Unit-prop
HasFitKeys-prop (e ∷ m) = ×_prop (×_prop le_prop le_prop) (HasFitKeys-prop m)

pub IsSoundAt-prop : (told : Type 0) (spent : Bool) (j : JournalState) (a : AreaState) (staged : List ℕ) (now : Entries) → IsProp (IsSoundAt told spent j a staged now)
IsSoundAt-prop told spent j a staged now =
    ×_prop (×_prop (IsSorted-prop now) (HasFitKeys-prop now)) (×_prop (Π_prop λ _. Bool-set _ _) (Π_prop λ _. Π_prop λ _. ∥∥₁_prop))

pub maps_same : {A : Type 0} (x y : Option Entries) → ∥ A ∥₁ → (A → x ≡ y) → x ≡ y
maps_same x y t f = ∥∥₁_elim t (Coded-set (coded_option (coded_list (coded× (coded_list coded_ℕ) (coded_list coded_ℕ)))) x y) f

pub entries_same : {A : Type 0} (x y : Entries) → ∥ A ∥₁ → (A → x ≡ y) → x ≡ y
entries_same x y t f = ∥∥₁_elim t (Coded-set (coded_list (coded× (coded_list coded_ℕ) (coded_list coded_ℕ))) x y) f

-- a journal that stands for a map
pub kept-is : (journal : List ℕ) (m : Entries) → log journal ≡ Whole m → whole_of (log journal) ≡ Some (kept_in journal)
kept-is journal m e = by (log journal) e
  where
    by : (r : Read Entries) → r ≡ Whole m → whole_of r ≡ Some (unwrap_or (whole_of r) [])
    by (Whole x) e = refl
    by (Wrong d) e = absurd cc

module _ {D : Type 0} (moment : D → ℕ) (left_since : D → ℕ → Image → Type 0) (d : D) (s : DiskState) where
  -- between two calls a crash leaves what was kept
  pub only-kept : (j : JournalState) (staged : List ℕ) (now : Entries) (m : Option Entries) → ((i : Image) → left_since d (moment d) i → MayLeave s i)
      → ∥ IsCurrent j s.journal staged now ∥₁ → MapsSince left_since d (moment d) m → m ≡ Some (kept_in s.journal.now)
  only-kept j staged now m only t left = maps_same m (Some (kept_in s.journal.now)) t (λ h.
      left.2 ∙ ap (λ found. whole_of (and_then found map_of_records)) (quiet-at j s.journal left.0.journal h.0 (only left.0 left.1).journal) ∙ kept-is s.journal.now h.1.kept h.1.whole)

  pub counts-now : (t : ℕ) (m : Option Entries) → ((i : Image) → left_since d (moment d) i → MayLeave s i) → ((i : Image) → MayLeave s i → left_since d t i)
      → MapsSince left_since d (moment d) m → MapsSince left_since d t m
  counts-now t m only counts left = (left.0, counts left.0 (only left.0 left.1), left.2)

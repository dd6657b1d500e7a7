-- What crashes leave over the calls of the disk.
use Rattle.std.proofs.Common.{◌≡◌, ℕ, List, length, subst}
use Rattle.mm_host.specs.declared.area.Area.TheVariants.{Journal}
use Rattle.mm_host.specs.Disk.{DiskState, Image, MayLeave, TornLeaves, with_area, image_now, after_write, after_sync}
use Rattle.mm_host.specs.Moments.{Elapses, LeavesOnly}
use Rattle.mm_host.specs.Facts.Moments.{started, goes_on, weakened}
use Rattle.mm_host.specs.Facts.Torn.{leaves-before, leaves-written, leaves-synced}
use Rattle.mm_journal.specs.Settled.{Content, JournalState, IsAt, AppendLeaves, placed}
use Rattle.mm_journal.specs.Inside.Bodies.{AddsOrNot}
use Rattle.mm_journal.proofs.Steps.{append-leaves}

module _ {D : Type 0} (moment : D → ℕ) (left_since : D → ℕ → Image → Type 0) where
  -- a good write
  pub over-write : (old new : D) (s s' : DiskState) (at : ℕ) (bytes : List ℕ) → ((i : Image) → left_since old (moment old) i → MayLeave s i)
      → Elapses (moment old) (moment new) (left_since old) (left_since new) (MayLeave s') → s' ≡ with_area s Journal (after_write s.journal at bytes)
      → LeavesOnly moment left_since old new (TornLeaves s Journal at (length bytes))
  over-write old new s s' at bytes only time is =
      goes_on moment left_since old old new (TornLeaves s Journal at (length bytes)) (MayLeave s')
      (started moment left_since old (TornLeaves s Journal at (length bytes)) (λ i left. leaves-before s Journal at (length bytes) i (only i left)))
      time (λ i may. leaves-written s s' Journal at bytes i is may)

  -- a good sync, and a call that changes nothing
  pub over-sync : (old mid new : D) (s s1 s2 : DiskState) → ((i : Image) → left_since old (moment old) i → MayLeave s i) → MayLeave s (image_now s)
      → Elapses (moment old) (moment mid) (left_since old) (left_since mid) (MayLeave s1) → s1 ≡ with_area s Journal (after_sync s.journal)
      → Elapses (moment mid) (moment new) (left_since mid) (left_since new) (MayLeave s2) → s2 ≡ s1 → LeavesOnly moment left_since old new (MayLeave s)
  over-sync old mid new s s1 s2 only here time is time' same =
      goes_on moment left_since old mid new (MayLeave s) (MayLeave s2)
      (goes_on moment left_since old old mid (MayLeave s) (MayLeave s1) (started moment left_since old (MayLeave s) only) time (λ i may. leaves-synced s s1 Journal i is here may))
      time' (λ i may. leaves-synced s s1 Journal i is here (subst (λ d. MayLeave d i) same may))

  -- an append, in the words of a journal
  pub over-append : (old new : D) (s : DiskState) (j : JournalState) (gate : ℕ) (c : Content) (q : IsAt j s.journal) → gate ≡ j.gate
      → LeavesOnly moment left_since old new (AddsOrNot s q.found (placed gate c)) → LeavesOnly moment left_since old new (AppendLeaves s (placed j.gate c))
  over-append old new s j gate c q same first =
      subst (λ (k : ℕ). LeavesOnly moment left_since old new (AppendLeaves s (placed k c))) same
      (weakened moment left_since old new (AddsOrNot s q.found (placed gate c)) (AppendLeaves s (placed gate c)) first (λ i left. append-leaves s q.found (placed gate c) i q.whole left))

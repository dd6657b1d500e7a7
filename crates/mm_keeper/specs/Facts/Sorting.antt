-- That a map is sorted has one proof at most, and so has that a keeper fails as listed.
use Rattle.std.specs.Prelude.{ℕ, List, [], ◌∷◌}
use Rattle.std.specs.Coded.{×_prop, Unit-prop}
use mathlib.Core.Bool.{Bool-set}
use native.Mathlib.Nat.{ℕ_set}
use Rattle.mm_keeper.specs.Failing.{FailsAsListed}
use Rattle.mm_keeper.specs.Entries.{Entries, IsBelow, Rises, IsSorted}

pub IsBelow-prop : (k : List ℕ) (m : Entries) → IsProp (IsBelow k m)
IsBelow-prop k [] = Unit-prop
IsBelow-prop k (e ∷ m) = ×_prop (Bool-set _ _) (IsBelow-prop k m)

pub Rises-prop : (m : Entries) → IsProp (Rises m)
Rises-prop [] = Unit-prop
Rises-prop (e ∷ m) = ×_prop (IsBelow-prop e.0 m) (Rises-prop m)

pub IsSorted-prop : (m : Entries) → IsProp (IsSorted m)
IsSorted-prop m x y = λ i. record { rises = Rises-prop m x.rises y.rises i }

pub FailsAsListed-prop : (calls : List ℕ) (faults : ℕ) → IsProp (FailsAsListed calls faults)
FailsAsListed-prop [] faults = ℕ_set faults 0
FailsAsListed-prop (call ∷ calls) faults = Unit-prop

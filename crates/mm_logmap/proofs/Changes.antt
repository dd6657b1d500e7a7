-- What the changes of a batch make of a map, change by change.
use Rattle.std.proofs.Common.{◌≡◌, ◌≤◌, ◌<◌, ℕ, zero, suc, List, [], ◌∷◌, length, refl, arith}
use Rattle.mm_keeper.specs.Entries.{Entries}
use Rattle.mm_journal.specs.Records.Read.{Whole}
use Rattle.mm_logmap.specs.Batches.{changes, change_at}

-- no bytes, no change
pub changes-none : (n at : ℕ) (rest : List ℕ) (map : Entries) → length rest ≤ 0 → changes n at rest map ≡ Whole map
unfolding changes
changes-none zero at rest map none = refl
changes-none (suc n) at [] map none = refl
changes-none (suc n) at (b ∷ rest) map none = absurd (omega (arith, none))

-- one change is taken
pub changes-next : (n at : ℕ) (rest : List ℕ) (map : Entries) → 0 < length rest → length rest ≤ n
    → (m : ℕ) × (n ≡ suc m) × (changes n at rest map ≡ change_at (changes m) at rest map)
unfolding changes
changes-next zero at rest map some fits = absurd (omega (arith, some, fits))
changes-next (suc n) at [] map some fits = absurd (omega (arith, some))
changes-next (suc n) at (b ∷ rest) map some fits = (n, refl, refl)

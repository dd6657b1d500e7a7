-- Batches and what they make of the empty map.
use Rattle.std.specs.Prelude.{◌≡◌, [], ◌∷◌, refl}
use Rattle.mm_host.specs.declared.area.Area.TheVariants.{Journal}
use Rattle.mm_host.specs.declared.damage.Damage.TheVariants.{Cut, Size}
use Rattle.mm_journal.specs.Records.Read.{Whole, Wrong}
use Rattle.mm_logmap.specs.Batches.{batch, changes, change_at, change_of, change_of_size}

a_put : batch 10 (0 ∷ 1 ∷ 0 ∷ 2 ∷ 97 ∷ 5 ∷ 6 ∷ []) [] ≡ Whole ((97 ∷ [], 5 ∷ 6 ∷ []) ∷ [])
unfolding changes change_at change_of change_of_size
a_put = refl

a_put_that_is_removed : batch 10 (0 ∷ 1 ∷ 0 ∷ 0 ∷ 97 ∷ 0 ∷ 1 ∷ 255 ∷ 255 ∷ 97 ∷ []) [] ≡ Whole []
unfolding changes change_at change_of change_of_size
a_put_that_is_removed = refl

three_bytes : batch 10 (0 ∷ 1 ∷ 0 ∷ []) [] ≡ Wrong (Cut Journal 10 4 3)
unfolding changes change_at change_of change_of_size
three_bytes = refl

no_key : batch 10 (0 ∷ 0 ∷ 0 ∷ 0 ∷ []) [] ≡ Wrong (Size 10 0 1 800)
unfolding changes change_at change_of change_of_size
no_key = refl

a_long_value_of_a_cut_change : batch 10 (0 ∷ 1 ∷ 4 ∷ 1 ∷ []) [] ≡ Wrong (Size 12 1025 0 1024)
unfolding changes change_at change_of change_of_size
a_long_value_of_a_cut_change = refl

a_cut_change : batch 10 (0 ∷ 1 ∷ 0 ∷ 2 ∷ 97 ∷ 5 ∷ []) [] ≡ Wrong (Cut Journal 10 7 6)
unfolding changes change_at change_of change_of_size
a_cut_change = refl

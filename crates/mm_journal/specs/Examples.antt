-- Journals and their records.
use Rattle.std.specs.Prelude.{◌≡◌, [], ◌∷◌, refl}
use Rattle.mm_host.specs.declared.area.Area.TheVariants.{Journal}
use Rattle.mm_host.specs.declared.damage.Damage.TheVariants.{Cut}
use Rattle.mm_journal.specs.Records.{record_of_size, record_at, walk, records}
use Rattle.mm_journal.specs.Records.Read.{Whole, Wrong}

no_bytes : records [] ≡ Whole []
unfolding records
no_bytes = refl

one_byte : records (165 ∷ []) ≡ Whole []
unfolding records
one_byte = refl

behind_a_closed_gate : records (0 ∷ 165 ∷ 165 ∷ 255 ∷ []) ≡ Whole []
unfolding records walk
behind_a_closed_gate = refl

cut : records (165 ∷ 0 ∷ 0 ∷ 0 ∷ 0 ∷ 0 ∷ 0 ∷ 0 ∷ 5 ∷ 2 ∷ 97 ∷ []) ≡ Wrong (Cut Journal 0 43 11)
unfolding records walk record_at record_of_size
cut = refl

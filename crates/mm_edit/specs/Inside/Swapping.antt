-- A part of a map, given by its keys, gives place to another.
use Rattle.std.specs.Prelude.{Bool, not, filter, ◌≡◌}
use Rattle.mm_keeper.specs.Entries.{Entries}
use Rattle.mm_edit.specs.Difference.{Key}

abbrev pub within_keys : (Key → Bool) → Entries → Entries
within_keys inside m = filter (λ e. inside e.0) m

abbrev pub outside_keys : (Key → Bool) → Entries → Entries
outside_keys inside m = filter (λ e. not (inside e.0)) m

-- at the keys inside, `old` has `taken` and `new` has `given`; at all others they are the same
pub record Swaps (inside : Key → Bool) (old new taken given : Entries) : Type 0 where
  pub taken_is : within_keys inside old ≡ taken
  pub given_is : within_keys inside new ≡ given
  pub others : outside_keys inside old ≡ outside_keys inside new

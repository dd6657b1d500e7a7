-- What stands at the place that a look-up finds.
use Rattle.std.specs.Prelude.{ℕ, Option, Some, None, slice_get}
use Rattle.mm_keeper.specs.Entries.{Entry, Entries}

-- the entry at a place, if there is one
abbrev pub entry_at : Entries → Option ℕ → Option Entry
entry_at m None = None
entry_at m (Some i) = slice_get m i

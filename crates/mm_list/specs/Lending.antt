-- What a list ends as, once a borrow of one of its items is over.
use Rattle.std.specs.Prelude.{ℕ, List, slice_set}
use Rattle.std.specs.Borrow.{Lends, MutBor, Fml, RattleType}
use Rattle.mm_list.specs.contracts.items.Items.{the_row}

module _ (T : RattleType) where
  -- the list with the lent item as the borrow left it
  abbrev pub LendsItem : MutBor (List T.Denot) → ℕ → MutBor T.Denot → Fml
  LendsItem items at lent = Lends (the_row T) T items lent (slice_set items.now at)

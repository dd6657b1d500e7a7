-- Spots of a sorted map in memory.
use Rattle.std.specs.Prelude.{ℕ}
use Rattle.mm_keeper.specs.Blocks.{Blocks, place_in}
use Rattle.mm_keeper.specs.declared.spot.Spot.{Spot}

-- the place for which a spot stands
abbrev pub place_of : Blocks → Spot → ℕ
place_of bs s = place_in bs s.block s.index

use Rattle.std.specs.Prelude.{◌≡◌, ◌≤◌, ◌<◌, ◌+◌, ◌++◌, drop, length, option_map, IfSome, None}
use Rattle.mm_keeper.specs.Entries.{Entries}
use Rattle.mm_image.specs.Ground.{Accounts, SameGround}
use Rattle.mm_check.specs.Blame.{first_difference}
use Rattle.mm_check.specs.Inside.Stopping.{from, listed}
use Rattle.mm_check.proofs.behind.expect_word.Given as goal

abbrev pub invariant-loop-label : goal.invariant-loop-label
invariant-loop-label g l = record {
  ground : SameGround g.K.Keeper.over g.K.Keeper.has_maps g.K.Keeper.tells g.K.Keeper.seen g.K.Keeper.written g.K.Keeper.changes g.K.Keeper.moment g.K.Keeper.left_since l.fn.keeper l.keeper;
  accounts : Accounts g.K.Keeper.is_sound g.K.Keeper.is_spent g.K.Keeper.fault_count g.K.Keeper.want_count l.fn.keeper l.keeper None;
  differs : g.K.Keeper.has_maps l.fn.keeper → (due : Entries) → first_difference (from (g.K.Keeper.seen l.fn.keeper).now (option_map (g.K.Keeper.seen l.fn.keeper).place l.fn.at)) (listed (l.word, l.labels) ++ due)
      ≡ first_difference (from (g.K.Keeper.seen l.fn.keeper).now (option_map (g.K.Keeper.seen l.fn.keeper).place l.at)) (listed (l.word, drop l.label-index l.labels) ++ due);
  stands : g.K.Keeper.has_maps l.fn.keeper → IfSome l.at (λ s. (g.K.Keeper.seen l.fn.keeper).place s < length (g.K.Keeper.seen l.fn.keeper).now);
  left : g.K.Keeper.has_maps l.fn.keeper → l.steps + length (from (g.K.Keeper.seen l.fn.keeper).now (option_map (g.K.Keeper.seen l.fn.keeper).place l.at)) ≤ l.fn.steps + length (from (g.K.Keeper.seen l.fn.keeper).now (option_map (g.K.Keeper.seen l.fn.keeper).place l.fn.at));
}

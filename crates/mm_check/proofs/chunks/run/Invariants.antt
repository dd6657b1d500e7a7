use Rattle.std.specs.Prelude.{◌≤◌, ◌<◌, ◌+◌, length, option_map, IfSome, None}
use Rattle.mm_keeper.specs.Entries.{weight_of}
use Rattle.mm_image.specs.Ground.{Accounts, SameGround}
use Rattle.mm_check.specs.Inside.Chunks.{Reached}
use Rattle.mm_check.specs.Inside.Stopping.{from}
use Rattle.mm_check.proofs.chunks.run.Given as goal

abbrev pub invariant-loop : goal.invariant-loop
invariant-loop g l = record {
  ground : SameGround g.K.Keeper.over g.K.Keeper.has_maps g.K.Keeper.tells g.K.Keeper.seen g.K.Keeper.written g.K.Keeper.changes g.K.Keeper.moment g.K.Keeper.left_since l.fn.keeper l.keeper;
  accounts : Accounts g.K.Keeper.is_sound g.K.Keeper.is_spent g.K.Keeper.fault_count g.K.Keeper.want_count l.fn.keeper l.keeper None;
  reached : g.K.Keeper.has_maps l.fn.keeper → Reached (g.K.Keeper.seen l.fn.keeper).now l.fn.reader (option_map (g.K.Keeper.seen l.fn.keeper).place l.fn.first) → Reached (g.K.Keeper.seen l.fn.keeper).now l.reader (option_map (g.K.Keeper.seen l.fn.keeper).place l.at);
  stands : g.K.Keeper.has_maps l.fn.keeper → IfSome l.at (λ s. (g.K.Keeper.seen l.fn.keeper).place s < length (g.K.Keeper.seen l.fn.keeper).now);
  left : g.K.Keeper.has_maps l.fn.keeper → l.steps + length (from (g.K.Keeper.seen l.fn.keeper).now (option_map (g.K.Keeper.seen l.fn.keeper).place l.at)) ≤ l.fn.steps + length (from (g.K.Keeper.seen l.fn.keeper).now (option_map (g.K.Keeper.seen l.fn.keeper).place l.fn.first));
  weight : g.K.Keeper.has_maps l.fn.keeper → l.counter + weight_of (from (g.K.Keeper.seen l.fn.keeper).now (option_map (g.K.Keeper.seen l.fn.keeper).place l.at)) ≤ l.weight;
  nodes : l.reader.nodes ≤ l.counter;
}

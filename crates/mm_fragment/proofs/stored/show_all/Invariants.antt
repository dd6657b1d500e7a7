use Rattle.std.proofs.Common.{◌≡◌, ◌+◌, ◌≤◌, true, length}
use Rattle.mm_image.specs.Ground.{SameGround}
use Rattle.mm_label.specs.Fronts.{Ordered, Within}
use Rattle.mm_match.specs.declared.mark.Mark.{Mark}
use Rattle.mm_fragment.specs.Inside.Owning.{Precedes}
use Rattle.mm_fragment.specs.Inside.Stored.{stored_shown}
use Rattle.mm_fragment.proofs.ShowAll.{Showing}
use Rattle.mm_fragment.proofs.stored.show_all.Given as goal

abbrev pub invariant-loop-label : goal.invariant-loop-label
invariant-loop-label g l = record {
  sound : g.K.Keeper.is_sound l.keeper;
  ground : SameGround g.K.Keeper.over g.K.Keeper.has_maps g.K.Keeper.tells g.K.Keeper.seen g.K.Keeper.written g.K.Keeper.changes g.K.Keeper.moment g.K.Keeper.left_since l.fn.keeper l.keeper;
  later : g.K.Keeper.fault_count l.fn.keeper ≤ g.K.Keeper.fault_count l.keeper;
  unspent : g.K.Keeper.is_spent l.keeper ≡ true → g.K.Keeper.is_spent l.fn.keeper ≡ true;
  shown : g.K.Keeper.has_maps l.fn.keeper → Ordered Precedes l.marks → Showing (λ m. stored_shown (g.K.Keeper.seen l.fn.keeper).now l.words l.marks m.label) l.fn.nodes l.left l.shown;
  steps : l.steps + length l.left ≤ l.fn.steps + length l.fn.nodes;
  among : (m : Mark) → Within m l.left → Within m l.fn.nodes;
}

abbrev pub decreases-loop-label : goal.decreases-loop-label
decreases-loop-label g l = length l.left

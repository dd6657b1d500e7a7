use Rattle.std.proofs.Common.{◌≡◌, length, take}
use Rattle.mm_label.specs.Label.{whole}
use Rattle.mm_elca.specs.Inside.Children.{AreBelow, AreChildrenTo}
use Rattle.mm_elca.proofs.children.children_to.Given as goal

abbrev pub invariant-loop-t : goal.invariant-loop-t
invariant-loop-t l = record {
  value : whole l.x ≡ l.x → AreBelow l.x l.under → AreChildrenTo l.x (take l.t-index l.under) l.kids;
  count : length l.kids ≡ l.t-index;
}

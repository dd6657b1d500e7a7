use Rattle.std.proofs.Common.{true, ◌≡◌, ◌+◌, ◌≤◌, take}
use Rattle.std.specs.Prelude.{◌↔◌}
use Rattle.mm_tree.specs.Trees.{Trees}
use Rattle.mm_tree.specs.Numbering.{Labelled}
use Rattle.mm_tree.specs.Search.{list_of, worded}
use Rattle.mm_elca.specs.Inside.Children.{AreChildren}
use Rattle.mm_elca.specs.Inside.Clear.{IsFirstClear}
use Rattle.mm_elca.proofs.test.own_match.Given as goal

abbrev pub invariant-loop-kid : goal.invariant-loop-kid
invariant-loop-kid g l = record {
  kept : (f : Trees Labelled) → g.X.Lists.stands l.fn.lists f ↔ g.X.Lists.stands l.lists f;
  ground : g.X.Lists.same_ground l.fn.lists l.lists;
  later : g.X.Lists.fault_count l.fn.lists ≤ g.X.Lists.fault_count l.lists;
  unspent : g.X.Lists.spent l.lists ≡ true → g.X.Lists.spent l.fn.lists ≡ true;
  cost : l.steps ≤ l.fn.steps + 1 + l.kid-index;
  value : (f : Trees Labelled) → g.X.Lists.stands l.fn.lists f → AreChildren l.x l.kids → IsFirstClear (list_of l.word (worded f)) l.x (take l.kid-index l.kids) l.found;
}

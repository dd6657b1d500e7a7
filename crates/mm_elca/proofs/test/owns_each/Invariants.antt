use Rattle.std.proofs.Common.{true, ◌≡◌, ◌+◌, ◌*◌, ◌≤◌, take, length}
use Rattle.std.specs.Prelude.{◌↔◌}
use Rattle.mm_tree.specs.Trees.{Trees}
use Rattle.mm_tree.specs.Numbering.{Labelled}
use Rattle.mm_tree.specs.Search.{lists_of, worded}
use Rattle.mm_elca.specs.Inside.Children.{AreChildren}
use Rattle.mm_elca.specs.Inside.Clear.{HaveClear}
use Rattle.mm_elca.proofs.test.owns_each.Given as goal

abbrev pub invariant-loop-word : goal.invariant-loop-word
invariant-loop-word g l = record {
  kept : (f : Trees Labelled) → g.X.Lists.stands l.fn.lists f ↔ g.X.Lists.stands l.lists f;
  ground : g.X.Lists.same_ground l.fn.lists l.lists;
  later : g.X.Lists.fault_count l.fn.lists ≤ g.X.Lists.fault_count l.lists;
  unspent : g.X.Lists.spent l.lists ≡ true → g.X.Lists.spent l.fn.lists ≡ true;
  cost : l.steps ≤ l.fn.steps + l.word-index * (1 + length l.kids);
  value : (f : Trees Labelled) → g.X.Lists.stands l.fn.lists f → AreChildren l.x l.kids → HaveClear (lists_of (take l.word-index l.words) (worded f)) l.x l.kids l.so_far;
}

use Rattle.std.proofs.Common.{true, ◌≡◌, ◌+◌, ◌≤◌, ◌<◌, ℕ, [], length, get_or}
use Rattle.std.specs.Prelude.{◌↔◌}
use Rattle.mm_tree.specs.Trees.{Trees}
use Rattle.mm_tree.specs.Numbering.{Labelled}
use Rattle.mm_tree.specs.Search.{list_of, worded}
use Rattle.mm_lists.proofs.shortest.find_shortest.Given as goal

abbrev pub invariant-loop-i : goal.invariant-loop-i
invariant-loop-i g l = record {
  kept : (f : Trees Labelled) → g.X.Lists.stands l.initial.lists f ↔ g.X.Lists.stands l.lists f;
  ground : g.X.Lists.same_ground l.fn.lists l.lists;
  later : g.X.Lists.fault_count l.fn.lists ≤ g.X.Lists.fault_count l.lists;
  unspent : g.X.Lists.spent l.lists ≡ true → g.X.Lists.spent l.fn.lists ≡ true;
  cost : l.steps ≤ l.initial.steps + l.i;
  within : l.best.at < length l.words;
  value : (f : Trees Labelled) → g.X.Lists.stands l.initial.lists f → 0 < l.i →
      (length (list_of (get_or l.words l.best.at []) (worded f)) ≡ l.best.size) × ((j : ℕ) → j < l.i → l.best.size ≤ length (list_of (get_or l.words j []) (worded f)));
}

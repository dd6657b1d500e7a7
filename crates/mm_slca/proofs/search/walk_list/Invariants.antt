use Rattle.std.proofs.Common.{true, ◌≡◌, ◌+◌, ◌*◌, ◌≤◌, [], length, get_or}
use Rattle.std.specs.Prelude.{◌↔◌, IsTrue}
use Rattle.mm_tree.specs.Trees.{Trees}
use Rattle.mm_tree.specs.Numbering.{Labelled}
use Rattle.mm_tree.specs.Forests.{is_well_formed}
use Rattle.mm_tree.specs.Search.{list_of, lists_of, worded}
use Rattle.mm_lists.specs.Full.{MeetsAll}
use Rattle.mm_slca.specs.Inside.Walk.{Stands}
use Rattle.mm_slca.proofs.search.walk_list.Given as goal
use Rattle.mm_label.specs.Fronts.{or_empty}

abbrev pub invariant-loop-i : goal.invariant-loop-i
invariant-loop-i g l = record {
  kept : (f : Trees Labelled) → g.X.Lists.stands l.fn.lists f ↔ g.X.Lists.stands l.lists f;
  ground : g.X.Lists.same_ground l.fn.lists l.lists;
  later : g.X.Lists.fault_count l.fn.lists ≤ g.X.Lists.fault_count l.lists;
  unspent : g.X.Lists.spent l.lists ≡ true → g.X.Lists.spent l.fn.lists ≡ true;
  cost : l.steps + l.i ≤ l.initial.steps + 2 * length l.words * l.i;
  value : (f : Trees Labelled) → IsTrue (is_well_formed f) → g.X.Lists.stands l.fn.lists f → MeetsAll [] (lists_of l.words (worded f))
      → Stands (lists_of l.words (worded f)) (list_of (get_or l.words l.own []) (worded f)) l.i l.walk.done (or_empty l.walk.held) l.at;
}

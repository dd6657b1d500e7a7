use Rattle.std.proofs.Common.{true, ◌≡◌, ◌+◌, ◌*◌, ◌≤◌, ◌<◌, [], get_or, take}
use Rattle.std.specs.Prelude.{◌↔◌, IsTrue}
use Rattle.mm_tree.specs.Trees.{Trees}
use Rattle.mm_tree.specs.Numbering.{Labelled}
use Rattle.mm_tree.specs.Forests.{is_well_formed}
use Rattle.mm_tree.specs.Search.{list_of, lists_of, worded}
use Rattle.mm_label.specs.Fronts.{Within, or_empty}
use Rattle.mm_lists.specs.Full.{MeetsAll, IsCandidate}
use Rattle.mm_lists.proofs.matches.candidate.Given as goal

abbrev pub invariant-loop-i : goal.invariant-loop-i
invariant-loop-i g l = record {
  kept : (f : Trees Labelled) → g.X.Lists.stands l.initial.lists f ↔ g.X.Lists.stands l.lists f;
  ground : g.X.Lists.same_ground l.fn.lists l.lists;
  later : g.X.Lists.fault_count l.fn.lists ≤ g.X.Lists.fault_count l.lists;
  unspent : g.X.Lists.spent l.lists ≡ true → g.X.Lists.spent l.fn.lists ≡ true;
  before : l.i ≤ l.own → l.steps ≤ l.initial.steps + 2 * l.i;
  past : l.own < l.i → l.steps + 2 ≤ l.initial.steps + 2 * l.i;
  value : (f : Trees Labelled) → IsTrue (is_well_formed f) → g.X.Lists.stands l.initial.lists f → MeetsAll [] (lists_of l.words (worded f)) → Within l.v (list_of (get_or l.words l.own []) (worded f))
      → IsCandidate (lists_of (take l.i l.words) (worded f)) l.v (or_empty l.x);
}

use Rattle.std.proofs.Common.{true, ◌≡◌, ◌+◌, ◌*◌, ◌≤◌, List, ◌++◌, length}
use Rattle.std.specs.Prelude.{◌↔◌}
use Rattle.mm_tree.specs.Trees.{Trees}
use Rattle.mm_tree.specs.Numbering.{Labelled}
use Rattle.mm_tree.specs.Search.{lists_of, worded}
use Rattle.mm_label.specs.Fronts.{Label}
use Rattle.mm_elca.specs.Inside.Stack.{Stacked, Judged}
use Rattle.mm_elca.specs.Owning.{IsOwner, Candidates}
use Rattle.mm_elca.proofs.search.judge_all.Given as goal

abbrev pub invariant-loop-x : goal.invariant-loop-x
invariant-loop-x g l = record {
  kept : (f : Trees Labelled) → g.X.Lists.stands l.fn.lists f ↔ g.X.Lists.stands l.lists f;
  ground : g.X.Lists.same_ground l.fn.lists l.lists;
  later : g.X.Lists.fault_count l.fn.lists ≤ g.X.Lists.fault_count l.lists;
  unspent : g.X.Lists.spent l.lists ≡ true → g.X.Lists.spent l.fn.lists ≡ true;
  within : length l.left ≤ length l.fn.candidates;
  cost : l.steps + length l.words * length l.held.stack + 2 * length l.words * length l.left ≤ l.fn.steps + 2 * length l.words * length l.fn.candidates;
  value : (f : Trees Labelled) → g.X.Lists.stands l.fn.lists f → Candidates (lists_of l.words (worded f)) l.fn.candidates →
      (passed : List Label) × (l.fn.candidates ≡ l.left ++ passed) × Stacked passed l.held.stack × Judged (IsOwner (lists_of l.words (worded f))) passed l.held.done;
}

abbrev pub decreases-loop-x : goal.decreases-loop-x
decreases-loop-x g l = length l.left

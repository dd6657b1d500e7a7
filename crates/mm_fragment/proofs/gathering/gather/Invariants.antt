use Rattle.std.proofs.Common.{true, ◌≡◌, ◌≤◌, List, ℕ}
use Rattle.std.specs.Prelude.{◌↔◌}
use Rattle.mm_tree.specs.Trees.{Tree, Trees}
use Rattle.mm_tree.specs.Numbering.{Labelled}
use Rattle.mm_fragment.specs.Inside.Gathering.{IsAsked}
use Rattle.mm_fragment.proofs.Rounds.{Gathered}
use Rattle.mm_fragment.proofs.gathering.gather.Given as goal

abbrev pub invariant-loop : goal.invariant-loop
invariant-loop g l = record {
  kept : (f : Trees Labelled) → g.X.Lists.stands l.fn.lists f ↔ g.X.Lists.stands l.lists f;
  ground : g.X.Lists.same_ground l.fn.lists l.lists;
  later : g.X.Lists.fault_count l.fn.lists ≤ g.X.Lists.fault_count l.lists;
  unspent : g.X.Lists.spent l.lists ≡ true → g.X.Lists.spent l.fn.lists ≡ true;
  value : (f : Trees Labelled) (t : Tree Labelled) (query : List (List ℕ)) → g.X.Lists.stands l.fn.lists f → IsAsked f l.root.label.now t l.root.answers.now query
      → Gathered f l.root.label.now t query l.word l.bit l.fn.marks l.marks l.fn.steps l.steps l.at;
}

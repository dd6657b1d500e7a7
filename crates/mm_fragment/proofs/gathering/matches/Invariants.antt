use Rattle.std.proofs.Common.{true, ◌≡◌, ◌≤◌, ◌<◌, ◌+◌, ◌*◌, ◌^◌, ◌++◌, drop, take}
use Rattle.std.specs.Prelude.{◌↔◌}
use Rattle.mm_tree.specs.Trees.{Tree, Trees}
use Rattle.mm_tree.specs.Numbering.{Labelled}
use Rattle.mm_fragment.specs.Bound.{full_count, pairs}
use Rattle.mm_fragment.specs.Inside.Gathering.{IsAsked}
use Rattle.mm_fragment.specs.Matching.{matches_of, open_nodes}
use Rattle.mm_fragment.specs.Showing.{named_in}
use Rattle.mm_fragment.proofs.gathering.matches.Given as goal

abbrev pub invariant-loop-word : goal.invariant-loop-word
invariant-loop-word g l = record {
  kept : (f : Trees Labelled) → g.X.Lists.stands l.fn.lists f ↔ g.X.Lists.stands l.lists f;
  ground : g.X.Lists.same_ground l.fn.lists l.lists;
  later : g.X.Lists.fault_count l.fn.lists ≤ g.X.Lists.fault_count l.lists;
  unspent : g.X.Lists.spent l.lists ≡ true → g.X.Lists.spent l.fn.lists ≡ true;
  bit : l.word-index < 32 → l.bit ≡ 2 ^ l.word-index;
  value : (f : Trees Labelled) (t : Tree Labelled) → g.X.Lists.stands l.fn.lists f → IsAsked f l.root.label.now t l.root.answers.now l.words
      → l.marks ++ matches_of (2 ^ l.word-index) (drop l.word-index l.words) (open_nodes l.words (named_in t)) ≡ matches_of 1 l.words (open_nodes l.words (named_in t));
  cost : (f : Trees Labelled) (t : Tree Labelled) → g.X.Lists.stands l.fn.lists f → IsAsked f l.root.label.now t l.root.answers.now l.words
      → l.steps ≤ l.fn.steps + pairs (take l.word-index l.words) (open_nodes l.words (named_in t)) + l.word-index * (full_count l.words (named_in t).1 + 1);
}

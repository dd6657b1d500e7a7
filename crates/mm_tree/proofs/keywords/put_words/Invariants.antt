use Rattle.std.proofs.Common.{◌≡◌, ◌++◌, ◌∷◌, [], ℕ, List, length}
use Rattle.std.specs.Prelude.{bytes_eq, if◌then◌else◌}
use Rattle.std.specs.List.{list_any}
use Rattle.std.specs.List.Sorted.{IsStrictlySortedBy}
use Rattle.std.specs.Ordering.{nat_cmp}
use Rattle.std.specs.Cmp.Lexicographic.{slice_cmp}
use Rattle.std.specs.Vec.Iter.{into_iter_items, into_iter_len}
use Rattle.mm_tree.specs.Search.{own}
use Rattle.mm_tree.specs.KeywordLists.{AreFilled, list_in}
use Rattle.mm_tree.proofs.keywords.put_words.Given as goal

abbrev pub invariant-loop-word : goal.invariant-loop-word
invariant-loop-word l = record {
  may_step : (goal.iterator-loop-word).can_next l.word-iterator;
  ends : (goal.iterator-loop-word).is_finite l.word-iterator;
  whole : into_iter_len l.word-iterator ≡ length (into_iter_items l.word-iterator);
  rises : IsStrictlySortedBy (slice_cmp nat_cmp) (into_iter_items l.word-iterator);
  left : (w : List ℕ) → list_in l.lists w ++ (if list_any (bytes_eq w) (into_iter_items l.word-iterator) then l.label ∷ [] else [])
      ≡ list_in l.fn.lists w ++ (if list_any (bytes_eq w) (own l.kind) then l.label ∷ [] else []);
  filled : AreFilled l.fn.lists → AreFilled l.lists;
}

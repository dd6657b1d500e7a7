-- What the labels that a search finds tell, and refusals.
use Rattle.std.proofs.Common.{◌≡◌, ℕ, ℤ, List, sym, subst, Result, Ok, Err, IfErr}
use Rattle.std.specs.Prelude.{AllPairs, IsTrue}
use Rattle.mm_host.specs.declared.damage.Fault.{Fault}
use Rattle.mm_host.specs.declared.damage.Fault.TheVariants.{DiskFault, Damaged, Spent, Memory}
use Rattle.mm_fragment.specs.Matching.{Tells}
use Rattle.mm_fragment.specs.Showing.{named_in}
use Rattle.mm_fragment.specs.Telling.{ExclusiveTell, SmallestTell}
use Rattle.mm_image.specs.Subtrees.{IsUndamaged}
use Rattle.mm_label.specs.Label.{IsBefore}
use Rattle.mm_lists.specs.Causes.{IsSound}
use Rattle.mm_tree.specs.Elca.{elca}
use Rattle.mm_tree.specs.Forests.{is_well_formed}
use Rattle.mm_tree.specs.Numbering.{Labelled}
use Rattle.mm_tree.specs.Owners.{ExclusiveAreFull, ExclusiveRise}
use Rattle.mm_tree.specs.Search.{slca, worded}
use Rattle.mm_tree.specs.Smallest.{AnswersAreNodes, AnswersRise}
use Rattle.mm_tree.specs.Trees.{Trees}
use Rattle.mm_store.specs.Inside.Told.{AreTold}
use Rattle.mm_store.proofs.Found.{exclusive_nodes, smallest_nodes}

pub smallest_told : AnswersAreNodes → AnswersRise → SmallestTell → (query : List (List ℕ)) (f : Trees Labelled) (xs : List (List ℤ)) → IsTrue (is_well_formed f) → xs ≡ slca query (worded f) → AreTold query f xs
smallest_told nodes rise tell query f xs w e = record {
  nodes = smallest_nodes nodes query f xs e;
  rising = subst (AllPairs IsBefore) (sym e) (rise query f w);
  told = λ x t k. subst (λ ys. Tells ys query (named_in t)) (sym e) (tell query f w x t k);
}

pub exclusive_told : ExclusiveAreFull → ExclusiveRise → ExclusiveTell → (query : List (List ℕ)) (f : Trees Labelled) (xs : List (List ℤ)) → IsTrue (is_well_formed f) → xs ≡ elca query (worded f) → AreTold query f xs
exclusive_told full rise tell query f xs w e = record {
  nodes = exclusive_nodes full query f xs e;
  rising = subst (AllPairs IsBefore) (sym e) (rise query f w);
  told = λ x t k. subst (λ ys. Tells ys query (named_in t)) (sym e) (tell query f w x t k);
}

pub sound_of : {T : Type 0} (r : Result T Fault) → IfErr r IsUndamaged → IfErr r IsSound
sound_of (Ok a) h = tt
sound_of (Err DiskFault) h = tt
sound_of (Err (Damaged d)) h = h
sound_of (Err Spent) h = tt
sound_of (Err Memory) h = tt

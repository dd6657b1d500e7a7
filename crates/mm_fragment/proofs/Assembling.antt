-- From what is shown of the kept nodes to the fragment.
use Rattle.std.proofs.Common.{inl, inr, ◌≡◌, ℕ, ℤ, IsTrue, List, [], sym, subst, ap, ◌∙◌, Option, Some, None, MatchOption}
use Rattle.mm_match.specs.declared.mark.Mark.{Mark}
use Rattle.mm_tree.specs.declared.fragment.Fragment.{Fragment}
use Rattle.mm_tree.specs.Trees.{Trees, Tree, none, one}
use Rattle.mm_tree.specs.Forests.{is_well_formed}
use Rattle.mm_tree.specs.Numbering.{Labelled}
use Rattle.mm_tree.specs.Edits.{found}
use Rattle.mm_tree.specs.Formed.{name_label}
use Rattle.mm_tree.specs.Rebuild.{rebuild}
use Rattle.mm_tree.specs.Fragments.{Named, fragment, fragment_tree}
use Rattle.mm_fragment.specs.Inside.Keeping.{AreMasks, IsKept}
use Rattle.mm_fragment.specs.Inside.Piling.{roots, shown_all}
use Rattle.mm_fragment.specs.Matching.{matches_of, open_nodes}
use Rattle.mm_fragment.specs.Showing.{named_in, shown_at}
use Rattle.mm_fragment.proofs.LinkFragment.{kept_is_fragment}
use Rattle.mm_fragment.proofs.ShowAll.{none_shown}

pub masks_at : (query : List (List ℕ)) (x : List ℤ) (t : Tree Labelled) (ms k : List Mark) → ms ≡ matches_of 1 query (open_nodes query (named_in t)) → (q : IsKept x ms k)
    → AreMasks x (matches_of 1 query (open_nodes query (named_in t))) q.all
masks_at query x t ms k n q = subst (λ (l : List Mark). AreMasks x l q.all) n q.masks

-- the fragment is what was put together, or the root alone where nothing was
pub assembled : (query : List (List ℕ)) (f : Trees Labelled) (x : List ℤ) (t : Tree Labelled) (ms k : List Mark) (shown : List Fragment) (o : Option Fragment) → IsTrue (is_well_formed f) → found x f ≡ Some t
    → ms ≡ matches_of 1 query (open_nodes query (named_in t)) → IsKept x ms k → roots shown ≡ shown_all query f k
    → ((u : Tree Named) → rebuild name_label (roots shown) ≡ one u → MatchOption o ⊥ (λ g. fragment_tree g ≡ u)) → (shown ≡ [] → o ≡ None)
    → MatchOption o (fragment query (named_in t) ≡ (shown_at query f x, none)) (λ g. fragment_tree g ≡ fragment query (named_in t))
assembled query f x t ms k shown o w h n q s tree alone = elim (kept_is_fragment query f x t q.all w h (masks_at query x t ms k n q)) [
  | inl p ↦
      let n : o ≡ None = alone (none_shown shown (s ∙ ap (shown_all query f) (q.kept ∙ p.0))) in
      subst (λ (z : Option Fragment). MatchOption z (fragment query (named_in t) ≡ (shown_at query f x, none)) (λ g. fragment_tree g ≡ fragment query (named_in t))) (sym n) p.1
  | inr p ↦ weaker o (tree (fragment query (named_in t)) (ap (rebuild name_label) (s ∙ ap (shown_all query f) q.kept) ∙ p))
]
  where
    weaker : (o : Option Fragment) → MatchOption o ⊥ (λ g. fragment_tree g ≡ fragment query (named_in t)) → MatchOption o (fragment query (named_in t) ≡ (shown_at query f x, none)) (λ g. fragment_tree g ≡ fragment query (named_in t))
    weaker None a = absurd a
    weaker (Some g) a = a

-- The fragments of the first labels, and of one more.
use Rattle.std.proofs.Common.{◌≡◌, ℕ, ℤ, ◌+◌, ◌<◌, ◌≤◌, List, [], ◌∷◌, ◌++◌, length, map, take, ap, ap₂, sym, ◌∙◌, Some, get_or, append-nil}
use Rattle.std.proofs.lemmas.List.{map-append, take_more}
use Rattle.std.proofs.lemmas.List.Sums.{sum_by_push, sum_by-take-le}
use Rattle.std.proofs.lemmas.Grind.{flat_map-append}
use Rattle.mm_fragment.specs.Showing.{fragment_at, fragments_of, named_in}
use Rattle.mm_tree.specs.declared.fragment.Fragment.{Fragment}
use Rattle.mm_tree.specs.Edits.{found}
use Rattle.mm_tree.specs.Fragments.{fragment, fragment_tree}
use Rattle.mm_tree.specs.Numbering.{Labelled}
use Rattle.mm_tree.specs.Trees.{Tree, Trees}
use Rattle.mm_store.specs.Shown.{fragment_cost, fragments_cost}

pub one_more : (xs : List (List ℤ)) (i : ℕ) (x : List ℤ) → i < length xs → x ≡ get_or xs i x → take (i + 1) xs ≡ take i xs ++ x ∷ []
one_more xs i x l e = take_more xs i x l ∙ ap (λ (z : List ℤ). take i xs ++ z ∷ []) (sym e)

pub fragments_more : (query : List (List ℕ)) (f : Trees Labelled) (xs : List (List ℤ)) (i : ℕ) (x : List ℤ) (t : Tree Labelled) (shown more : List Fragment) (u : Fragment) → i < length xs → x ≡ get_or xs i x → found x f ≡ Some t
    → map fragment_tree shown ≡ fragments_of query f (take i xs) → fragment_tree u ≡ fragment query (named_in t) → more ≡ shown ++ u ∷ [] → map fragment_tree more ≡ fragments_of query f (take (i + 1) xs)
fragments_more query f xs i x t shown more u l e h s p m =
    ap (map fragment_tree) m ∙ map-append fragment_tree shown (u ∷ []) ∙ ap₂ (λ a b. a ++ b ∷ []) s p
    ∙ sym (ap (fragments_of query f) (one_more xs i x l e) ∙ flat_map-append _ (take i xs) (x ∷ []) ∙ ap (λ z. fragments_of query f (take i xs) ++ z) (append-nil (fragment_at query (found x f)) ∙ ap (fragment_at query) h))

pub cost_more : (query : List (List ℕ)) (f : Trees Labelled) (xs : List (List ℤ)) (i : ℕ) (x : List ℤ) (t : Tree Labelled) → i < length xs → x ≡ get_or xs i x → found x f ≡ Some t
    → fragments_cost query f (take (i + 1) xs) ≡ fragments_cost query f (take i xs) + fragment_cost query (Some t)
cost_more query f xs i x t l e h = ap (fragments_cost query f) (one_more xs i x l e) ∙ sum_by_push _ (take i xs) x ∙ ap (λ o. fragments_cost query f (take i xs) + fragment_cost query o) h

-- what the first labels cost is no more than what all of them do
pub cost_front : (query : List (List ℕ)) (f : Trees Labelled) (xs : List (List ℤ)) (i : ℕ) → fragments_cost query f (take i xs) ≤ fragments_cost query f xs
cost_front query f xs i = sum_by-take-le _ xs i

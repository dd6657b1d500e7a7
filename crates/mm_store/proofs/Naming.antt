-- The hits of the first labels, and of one more.
use Rattle.std.proofs.Common.{◌≡◌, ℕ, ℤ, ◌+◌, ◌<◌, List, [], ◌∷◌, ◌++◌, length, take, ap, ap₂, sym, ◌∙◌, Some, get_or}
use Rattle.std.proofs.lemmas.List.{map-append}
use Rattle.mm_tree.specs.declared.hit.Hit.{Hit}
use Rattle.mm_tree.specs.Edits.{found}
use Rattle.mm_tree.specs.Hits.{hits_of, name_if, name_of}
use Rattle.mm_tree.specs.Numbering.{Labelled}
use Rattle.mm_tree.specs.Trees.{Tree, Trees}
use Rattle.mm_store.proofs.Shown.{one_more}

pub hits_more : (f : Trees Labelled) (xs : List (List ℤ)) (i : ℕ) (x : List ℤ) (t : Tree Labelled) (hits more : List Hit) (label : List ℤ) (name : List ℕ) → i < length xs → x ≡ get_or xs i x → found x f ≡ Some t
    → hits ≡ hits_of f (take i xs) → label ≡ x → name ≡ name_of t.0.kind → more ≡ hits ++ record { label = label; name = name } ∷ [] → more ≡ hits_of f (take (i + 1) xs)
hits_more f xs i x t hits more label name l e h s p q m =
    m ∙ ap₂ (λ (u : List Hit) (v : Hit). u ++ v ∷ []) s (ap₂ (λ (a : List ℤ) (b : List ℕ). record { label = a; name = b }) p (q ∙ sym (ap name_if h)))
    ∙ sym (ap (hits_of f) (one_more xs i x l e) ∙ map-append _ (take i xs) (x ∷ []))

-- Below a node none of whose children is full no node is full, and fragments keep what MaxMatch keeps.
use Rattle.std.proofs.Common.{◌≡◌, ℕ, Bool, false, cond, not, ◌&&◌, List, ◌∷◌, refl, ap, ap₂, ◌∙◌}
use Rattle.std.specs.List.{list_any}
use Rattle.std.proofs.lemmas.Bool.{or_parts}
use Rattle.mm_tree.specs.Trees.{Trees, none, node}
use Rattle.mm_tree.specs.Search.{is_full, some_full}
use Rattle.mm_tree.specs.Fragments.{Named, bare, bares, row_of, some, less, rows_of, all_rows, shown, contributors, relevant}
use Rattle.mm_tree.specs.Facts.Full.{none_below}

rows_are : (query : List (List ℕ)) (f : Trees Named) → some_full query (bares f) ≡ false → rows_of query f ≡ all_rows query f
rows_are query none h = refl
rows_are query (node e inner rest) h =
    let n = or_parts (is_full query (bare e) (bares inner)) (some_full query (bares rest)) h in
    ap (λ (t : Bool). cond t (rows_of query rest) (row_of query e inner ∷ rows_of query rest)) n.0 ∙ ap (λ (rows : List (List Bool)). row_of query e inner ∷ rows) (rows_are query rest n.1)

kept_are : (query : List (List ℕ)) (all : List (List Bool)) (f : Trees Named) → some_full query (bares f) ≡ false → contributors query all f ≡ relevant query all f
kept_are query all none h = refl
kept_are query all (node e inner rest) h =
    let n = or_parts (is_full query (bare e) (bares inner)) (some_full query (bares rest)) h in
    let b = none_below query (bare e) (bares inner) n.0 in
    let test = some (row_of query e inner) && not (list_any (less (row_of query e inner)) all) in
    ap (λ (t : Bool). cond (not t && test) (node (shown query e) (contributors query (rows_of query inner) inner) (contributors query all rest)) (contributors query all rest)) n.0
    ∙ ap₂ (λ (i r : Trees Named). cond test (node (shown query e) i r) r)
    (ap (λ (rows : List (List Bool)). contributors query rows inner) (rows_are query inner b) ∙ kept_are query (all_rows query inner) inner b) (kept_are query all rest n.1)

pub contributors_are_relevant : (query : List (List ℕ)) (inner : Trees Named) → some_full query (bares inner) ≡ false
    → contributors query (rows_of query inner) inner ≡ relevant query (all_rows query inner) inner
contributors_are_relevant query inner h = ap (λ (rows : List (List Bool)). contributors query rows inner) (rows_are query inner h) ∙ kept_are query (all_rows query inner) inner h

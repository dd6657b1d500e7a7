-- The pruned marks of a node's children are the nodes of its fragment.
use Rattle.std.proofs.Common.{◌≡◌, ℕ, Bool, true, false, not, ◌&&◌, ◌||◌, cond, List, [], ◌∷◌, refl, ap, ap₂, sym, ◌∙◌}
use Rattle.std.specs.List.{list_any}
use Rattle.mm_tree.specs.Trees.{Trees, none, node}
use Rattle.mm_tree.specs.Search.{is_full}
use Rattle.mm_tree.specs.Fragments.{Named, bare, bares, row_of, some, subset, less, rows_of, shown, contributors}
use Rattle.mm_fragment.specs.Inside.Marked.{marked, rows_in, pruned, show_all}

-- a row without a word is within each row, and so it is above none
subset_none : (row other : List Bool) → some row ≡ false → subset row other ≡ true
subset_none [] other e = refl
subset_none (true ∷ row) other e = absurd cc
subset_none (false ∷ row) [] e = refl
subset_none (false ∷ row) (flag ∷ other) e = subset_none row other e

less_none : (row other : List Bool) → some other ≡ false → less row other ≡ false
less_none row other e = rw (subset_none other row e) (by (subset row other))
  where
    by : (t : Bool) → (t && false) ≡ false
    by true = refl
    by false = refl

-- siblings without a word beat no one
same_rivals : (query : List (List ℕ)) (row : List Bool) (f : Trees Named) → list_any (less row) (rows_of query f) ≡ list_any (less row) (rows_in (marked query f))
same_rivals query row none = refl
same_rivals query row (node e inner rest) = by (is_full query (bare e) (bares inner)) (some (row_of query e inner)) refl (same_rivals query row rest)
  where
    by : (t s : Bool) → some (row_of query e inner) ≡ s → list_any (less row) (rows_of query rest) ≡ list_any (less row) (rows_in (marked query rest)) →
        list_any (less row) (cond t (rows_of query rest) (row_of query e inner ∷ rows_of query rest))
        ≡ list_any (less row) (rows_in (cond (not t && s) (node (record { entry = e; row = row_of query e inner }) (marked query inner) (marked query rest)) (marked query rest)))
    by true s h same = same
    by false true h same = ap (λ (t : Bool). less row (row_of query e inner) || t) same
    by false false h same = ap (λ (t : Bool). t || list_any (less row) (rows_of query rest)) (less_none row (row_of query e inner) h) ∙ same

-- the same with any rows that beat the same ones
pruned_are : (query : List (List ℕ)) (all rows : List (List Bool)) → ((row : List Bool) → list_any (less row) all ≡ list_any (less row) rows) → (f : Trees Named)
    → contributors query all f ≡ show_all query (pruned rows (marked query f))
pruned_are query all rows h none = refl
pruned_are query all rows h (node e inner rest) =
    by (is_full query (bare e) (bares inner)) (some (row_of query e inner)) (list_any (less (row_of query e inner)) all) (sym (h (row_of query e inner)))
    (pruned_are query (rows_of query inner) (rows_in (marked query inner)) (λ row. same_rivals query row inner) inner) (pruned_are query all rows h rest)
  where
    by : (t s b : Bool) → list_any (less (row_of query e inner)) rows ≡ b →
        contributors query (rows_of query inner) inner ≡ show_all query (pruned (rows_in (marked query inner)) (marked query inner)) →
        contributors query all rest ≡ show_all query (pruned rows (marked query rest)) →
        cond (not t && (s && not b)) (node (shown query e) (contributors query (rows_of query inner) inner) (contributors query all rest)) (contributors query all rest)
        ≡ show_all query (pruned rows (cond (not t && s) (node (record { entry = e; row = row_of query e inner }) (marked query inner) (marked query rest)) (marked query rest)))
    by true s b k i r = r
    by false false b k i r = r
    by false true true k i r = rw k r
    by false true false k i r = rw k (ap₂ (λ (c d : Trees Named). node (shown query e) c d) i r)

pub contributors_are : (query : List (List ℕ)) (f : Trees Named) → contributors query (rows_of query f) f ≡ show_all query (pruned (rows_in (marked query f)) (marked query f))
contributors_are query f = pruned_are query (rows_of query f) (rows_in (marked query f)) (λ row. same_rivals query row f) f

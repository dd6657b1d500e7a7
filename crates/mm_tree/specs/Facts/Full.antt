-- A node with a full child is full.
use Rattle.std.proofs.Common.{◌≡◌, ℕ, Bool, true, false, ◌||◌, List, [], ◌∷◌, refl, ap, ◌∙◌}
use Rattle.std.proofs.lemmas.Bool.{and_from, and_parts}
use Rattle.std.proofs.Math.Bool.{or-true}
use Rattle.mm_tree.specs.Trees.{Trees, none, node}
use Rattle.mm_tree.specs.Search.{Worded, has, holds, is_full, some_full}

-- a node that holds each word that a full one holds is full
pub full_above : (query : List (List ℕ)) (e d : Worded) (inner below : Trees Worded) → ((w : List ℕ) → (has d w || holds w below) ≡ true → (has e w || holds w inner) ≡ true)
    → is_full query d below ≡ true → is_full query e inner ≡ true
full_above [] e d inner below up h = refl
full_above (w ∷ query) e d inner below up h =
    let b = and_parts (has d w || holds w below) (is_full query d below) h in
    and_from (has e w || holds w inner) (is_full query e inner) (up w b.0) (full_above query e d inner below up b.1)

first_holds : (w : List ℕ) (d : Worded) (below rest : Trees Worded) → (has d w || holds w below) ≡ true → holds w (node d below rest) ≡ true
first_holds w d below rest = by (has d w) (holds w below)
  where
    by : (a b : Bool) → (a || b) ≡ true → (a || (b || holds w rest)) ≡ true
    by true b e = refl
    by false true e = refl
    by false false e = absurd cc

-- and so is one that holds each word that these siblings hold, of which one is full
above_some : (query : List (List ℕ)) (e : Worded) (inner trees : Trees Worded) → ((w : List ℕ) → holds w trees ≡ true → (has e w || holds w inner) ≡ true)
    → some_full query trees ≡ true → is_full query e inner ≡ true
above_some query e inner none up h = absurd cc
above_some query e inner (node d below rest) up h =
    by (is_full query d below) refl h (above_some query e inner rest (λ w a. up w (ap (λ b. has d w || (holds w below || b)) a ∙ ap (λ b. has d w || b) (or-true (holds w below)) ∙ or-true (has d w))))
  where
    by : (b : Bool) → is_full query d below ≡ b → (b || some_full query rest) ≡ true → (some_full query rest ≡ true → is_full query e inner ≡ true) → is_full query e inner ≡ true
    by true f k later = full_above query e d inner below (λ w a. up w (first_holds w d below rest a)) f
    by false f k later = later k

pub full_of_child : (query : List (List ℕ)) (e : Worded) (inner : Trees Worded) → some_full query inner ≡ true → is_full query e inner ≡ true
full_of_child query e inner = above_some query e inner inner (λ w a. ap (λ b. has e w || b) a ∙ or-true (has e w))

pub none_below : (query : List (List ℕ)) (e : Worded) (inner : Trees Worded) → is_full query e inner ≡ false → some_full query inner ≡ false
none_below query e inner f = by (some_full query inner) refl
  where
    by : (t : Bool) → some_full query inner ≡ t → some_full query inner ≡ false
    by true h = let k = full_of_child query e inner h in absurd cc
    by false h = h

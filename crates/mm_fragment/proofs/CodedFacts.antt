-- Masks beat each other as their rows do, and so pruning masks is pruning rows.
use Rattle.std.proofs.Common.{◌≡◌, ℕ, suc, ◌+◌, ◌*◌, ◌^◌, ◌<◌, Bool, true, false, not, ◌&&◌, ◌||◌, cond, List, [], ◌∷◌, refl, ap, ap₂, sym, ◌∙◌, length, arith, nat_eq, bit_and, eq-eqb}
use Rattle.std.specs.List.{list_any}
use Rattle.std.proofs.lemmas.Bool.{eqb-true}
use Rattle.std.proofs.lemmas.Nat.{and_block}
use Rattle.mm_match.specs.declared.mark.Mark.{Mark}
use Rattle.mm_match.specs.Marks.{under}
use Rattle.mm_tree.specs.Trees.{Trees, none, node}
use Rattle.mm_tree.specs.Search.{is_full}
use Rattle.mm_tree.specs.Fragments.{Named, bare, bares, row_of, some, subset, less}
use Rattle.mm_fragment.specs.Inside.Marked.{Rowed, marked, rows_in, pruned, mask_of, mark_of, coded}
use Rattle.mm_fragment.proofs.FlatKept.{tops, outdone, thinned}

same_test : (p q r s : ℕ) → (p ≡ q → r ≡ s) → (r ≡ s → p ≡ q) → nat_eq p q ≡ nat_eq r s
same_test p q r s f g = by (nat_eq p q) (nat_eq r s) refl refl
  where
    by : (a b : Bool) → nat_eq p q ≡ a → nat_eq r s ≡ b → a ≡ b
    by true true h k = refl
    by false false h k = refl
    by true false h k = let t = eq-eqb r s (f (eqb-true p q h)) in absurd cc
    by false true h k = let t = eq-eqb p q (g (eqb-true r s k)) in absurd cc

not_test : (p q : ℕ) → (p ≡ q → ⊥) → nat_eq p q ≡ false
not_test p q f = by (nat_eq p q) refl
  where
    by : (a : Bool) → nat_eq p q ≡ a → a ≡ false
    by true h = absurd (f (eqb-true p q h))
    by false h = refl

bit_small : (b : Bool) → cond b 1 0 < 2 ^ 1
bit_small true = omega arith
bit_small false = omega arith

and_more : (a b : Bool) (x y : ℕ) → bit_and (x * 2 ^ 1 + cond a 1 0) (y * 2 ^ 1 + cond b 1 0) ≡ bit_and x y * 2 ^ 1 + bit_and (cond a 1 0) (cond b 1 0)
and_more a b x y = and_block 1 x y (cond a 1 0) (cond b 1 0) (bit_small a) (bit_small b)

subset_step : (a b : Bool) (x y : ℕ) (t : Bool) → nat_eq (bit_and x y) x ≡ t → nat_eq (bit_and x y * 2 ^ 1 + bit_and (cond a 1 0) (cond b 1 0)) (x * 2 ^ 1 + cond a 1 0) ≡ ((not a || b) && t)
subset_step true true x y t h = same_test (bit_and x y * 2 ^ 1 + 1) (x * 2 ^ 1 + 1) (bit_and x y) x (λ e. omega arith) (λ e. omega arith) ∙ h
subset_step true false x y t h = not_test (bit_and x y * 2 ^ 1 + 0) (x * 2 ^ 1 + 1) (λ e. omega arith)
subset_step false true x y t h = same_test (bit_and x y * 2 ^ 1 + 0) (x * 2 ^ 1 + 0) (bit_and x y) x (λ e. omega arith) (λ e. omega arith) ∙ h
subset_step false false x y t h = same_test (bit_and x y * 2 ^ 1 + 0) (x * 2 ^ 1 + 0) (bit_and x y) x (λ e. omega arith) (λ e. omega arith) ∙ h

subset_is : (a b : List Bool) → length a ≡ length b → nat_eq (bit_and (mask_of a) (mask_of b)) (mask_of a) ≡ subset a b
subset_is [] b e = refl
subset_is (x ∷ a) [] e = absurd (omega arith)
subset_is (x ∷ a) (y ∷ b) e =
    ap (λ (n : ℕ). nat_eq n (mask_of a * 2 ^ 1 + cond x 1 0)) (and_more x y (mask_of a) (mask_of b)) ∙ subset_step x y (mask_of a) (mask_of b) (subset a b) (subset_is a b (omega arith))

equal_step : (a b : Bool) (x y : ℕ) (s t : Bool) → nat_eq x y ≡ (s && t) → nat_eq (x * 2 ^ 1 + cond a 1 0) (y * 2 ^ 1 + cond b 1 0) ≡ (((not a || b) && s) && ((not b || a) && t))
equal_step true true x y s t h = same_test (x * 2 ^ 1 + 1) (y * 2 ^ 1 + 1) x y (λ e. omega arith) (λ e. omega arith) ∙ h
equal_step false false x y s t h = same_test (x * 2 ^ 1 + 0) (y * 2 ^ 1 + 0) x y (λ e. omega arith) (λ e. omega arith) ∙ h
equal_step true false x y s t h = not_test (x * 2 ^ 1 + 1) (y * 2 ^ 1 + 0) (λ e. omega arith)
equal_step false true x y s t h = not_test (x * 2 ^ 1 + 0) (y * 2 ^ 1 + 1) (λ e. omega arith) ∙ sym (by s)
  where
    by : (s : Bool) → (s && false) ≡ false
    by true = refl
    by false = refl

equal_is : (a b : List Bool) → length a ≡ length b → nat_eq (mask_of a) (mask_of b) ≡ (subset a b && subset b a)
equal_is [] [] e = refl
equal_is [] (y ∷ b) e = absurd (omega arith)
equal_is (x ∷ a) [] e = absurd (omega arith)
equal_is (x ∷ a) (y ∷ b) e = equal_step x y (mask_of a) (mask_of b) (subset a b) (subset b a) (equal_is a b (omega arith))

under_is : (a b : List Bool) → length a ≡ length b → under (mask_of a) (mask_of b) ≡ less a b
under_is a b e = rw (subset_is a b e, equal_is a b e) (by (subset a b))
  where
    by : (s : Bool) → (s && not (s && subset b a)) ≡ (s && not (subset b a))
    by true = refl
    by false = refl

-- ---- each row has one flag a word

abbrev pub Sized : ℕ → Trees Rowed → Type 0
Sized n none = Unit {0}
Sized n (node m inner rest) = (length m.row ≡ n) × Sized n inner × Sized n rest

row_length : (query : List (List ℕ)) (e : Named) (inner : Trees Named) → length (row_of query e inner) ≡ length query
row_length [] e inner = refl
row_length (w ∷ ws) e inner = ap suc (row_length ws e inner)

pub marked_sized : (query : List (List ℕ)) (f : Trees Named) → Sized (length query) (marked query f)
marked_sized query none = tt
marked_sized query (node e inner rest) = by (not (is_full query (bare e) (bares inner)) && some (row_of query e inner)) (marked_sized query inner) (marked_sized query rest)
  where
    by : (t : Bool) → Sized (length query) (marked query inner) → Sized (length query) (marked query rest)
        → Sized (length query) (cond t (node (record { entry = e; row = row_of query e inner }) (marked query inner) (marked query rest)) (marked query rest))
    by true i r = (row_length query e inner, i, r)
    by false i r = r

outdone_is : (n : ℕ) (m : Rowed) (g : Trees Rowed) → length m.row ≡ n → Sized n g → outdone (mark_of m) (tops (coded g)) ≡ list_any (less m.row) (rows_in g)
outdone_is n m none l s = refl
outdone_is n m (node k inner rest) l s =
    ap₂ (λ (t u : Bool). t || u) (under_is m.row k.row (l ∙ sym s.0)) (outdone_is n m rest l s.2)

pub coded_pruned : (n : ℕ) (g f : Trees Rowed) → Sized n g → Sized n f → thinned (tops (coded g)) (coded f) ≡ coded (pruned (rows_in g) f)
coded_pruned n g none k s = refl
coded_pruned n g (node m inner rest) k s =
    by (list_any (less m.row) (rows_in g)) (outdone_is n m g s.0 k) (coded_pruned n inner inner s.1 s.1) (coded_pruned n g rest k s.2)
  where
    by : (t : Bool) → outdone (mark_of m) (tops (coded g)) ≡ t → thinned (tops (coded inner)) (coded inner) ≡ coded (pruned (rows_in inner) inner) → thinned (tops (coded g)) (coded rest) ≡ coded (pruned (rows_in g) rest)
        → thinned (tops (coded g)) (coded (node m inner rest)) ≡ coded (cond t (pruned (rows_in g) rest) (node m (pruned (rows_in inner) inner) (pruned (rows_in g) rest)))
    by true e i r = rw e r
    by false e i r = rw e (ap₂ (λ (c d : Trees Mark). node (mark_of m) c d) i r)

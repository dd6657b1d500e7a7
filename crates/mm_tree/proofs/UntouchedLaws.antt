-- An edit leaves all nodes outside its subtree as they were.
use Rattle.std.proofs.Common.{◌≡◌, refl, ap, sym, ◌∙◌, subst, Bool, true, false, List, [], ◌∷◌, ◌++◌, append_assoc, true≢false}
use Rattle.std.specs.Prelude.{ℤ, Option, Some, None, if◌then◌else◌}
use Rattle.std.proofs.lemmas.List.{append-nil}
use Rattle.mm_tree.specs.declared.forest.place.Place.{Place}
use Rattle.mm_tree.specs.declared.forest.place.Place.TheVariants.{Before, After, First, Last}
use Rattle.mm_tree.specs.Trees.{Trees, none, node, Tree, one, preorder}
use Rattle.mm_tree.specs.Numbering.{Labelled, number}
use Rattle.mm_tree.specs.Forests.{is_well_formed, and_then, numbered_behind}
use Rattle.mm_tree.specs.Edits.{has_label, has_node, found, Change, taken_out, put_instead, put, edit, inserted_label}
use Rattle.mm_tree.specs.Inside.Ways.{leads_to, found_down, edit_down}
use Rattle.mm_tree.specs.Untouched.{OneRun, LoadLeaves, InsertLeaves, DeleteLeaves, ReplaceLeaves}
use Rattle.mm_tree.proofs.WayLaws.{edit_is, found_is, is_found, labels_of}

-- the change at one node differs by one run
abbrev Local : Change → (Tree Labelled → List Labelled) → List Labelled → Type 0
Local f taken given = (e : Labelled) (inner rest : Trees Labelled) → OneRun (preorder (node e inner rest)) (preorder (f e inner rest)) (taken (e, inner)) given

abbrev nodes_in : Tree Labelled → List Labelled
nodes_in t = preorder (one t)

preorder-and_then : (ts us : Trees Labelled) → preorder (and_then ts us) ≡ preorder ts ++ preorder us
preorder-and_then none us = refl
preorder-and_then (node e inner rest) us =
    ap (λ (r : List Labelled). e ∷ (preorder inner ++ r)) (preorder-and_then rest us) ∙ ap (λ (r : List Labelled). e ∷ r) (sym (append_assoc (preorder inner) (preorder rest) (preorder us)))

-- the nodes of one tree before others
first_run : (u : Tree Labelled) (back : List Labelled) → u.0 ∷ preorder u.1 ++ back ≡ nodes_in u ++ back
first_run u back = ap (λ (r : List Labelled). u.0 ∷ (r ++ back)) (sym (append-nil (preorder u.1)))

local_taken_out : Local taken_out nodes_in []
local_taken_out e inner rest = record { front = []; back = preorder rest; old_is = first_run (e, inner) (preorder rest); new_is = refl }

local_instead : (u : Tree Labelled) → Local (put_instead u) nodes_in (nodes_in u)
local_instead u e inner rest = record { front = []; back = preorder rest; old_is = first_run (e, inner) (preorder rest); new_is = first_run u (preorder rest) }

local_put : (p : Place) (u : Tree Labelled) → Local (put p u) (λ t. []) (nodes_in u)
local_put Before u e inner rest = record { front = []; back = preorder (node e inner rest); old_is = refl; new_is = first_run u (preorder (node e inner rest)) }
local_put After u e inner rest =
    record { front = e ∷ preorder inner; back = preorder rest; old_is = refl; new_is = ap (λ (r : List Labelled). e ∷ (preorder inner ++ r)) (first_run u (preorder rest)) }
local_put First u e inner rest = record {
  front = e ∷ [];
  back = preorder inner ++ preorder rest;
  old_is = refl;
  new_is = ap (λ (r : List Labelled). e ∷ (u.0 ∷ r)) (append_assoc (preorder u.1) (preorder inner) (preorder rest)) ∙ ap (λ (r : List Labelled). e ∷ r) (first_run u (preorder inner ++ preorder rest));
}
local_put Last u e inner rest = record {
  front = e ∷ preorder inner;
  back = preorder rest;
  old_is = refl;
  new_is = ap (λ (r : List Labelled). e ∷ (r ++ preorder rest)) (preorder-and_then inner (one u)) ∙ ap (λ (r : List Labelled). e ∷ r) (append_assoc (preorder inner) (nodes_in u) (preorder rest));
}

some_is : (t u : Tree Labelled) → Some t ≡ Some u → t ≡ u
some_is t u e = cc

-- an edit on the way down differs by one run
one_run_down : (f : Change) (taken : Tree Labelled → List Labelled) (given : List Labelled) → Local f taken given
    → (x : List ℤ) (ts : Trees Labelled) (t : Tree Labelled) → found_down x ts ≡ Some t → OneRun (preorder ts) (preorder (edit_down f x ts)) (taken t) given
one_run_down f taken given local x none t h = absurd cc
one_run_down f taken given local x (node e inner rest) t h =
    by_tests (leads_to x e) (has_label x e) h (one_run_down f taken given local x inner t) (one_run_down f taken given local x rest t)
  where
    by_tests : (a b : Bool) → (if a then (if b then Some (e, inner) else found_down x inner) else found_down x rest) ≡ Some t
        → (found_down x inner ≡ Some t → OneRun (preorder inner) (preorder (edit_down f x inner)) (taken t) given)
        → (found_down x rest ≡ Some t → OneRun (preorder rest) (preorder (edit_down f x rest)) (taken t) given)
        → OneRun (preorder (node e inner rest)) (preorder (if a then (if b then f e inner rest else node e (edit_down f x inner) rest) else node e inner (edit_down f x rest))) (taken t) given
    by_tests true true h p q = subst (λ (z : Tree Labelled). OneRun (preorder (node e inner rest)) (preorder (f e inner rest)) (taken z) given) (some_is (e, inner) t h) (local e inner rest)
    by_tests true false h p q =
        let r = p h in
        let joined : (run : List Labelled) → e ∷ ((r.front ++ (run ++ r.back)) ++ preorder rest) ≡ (e ∷ r.front) ++ (run ++ (r.back ++ preorder rest)) =
        λ run. ap (λ (z : List Labelled). e ∷ z) (append_assoc r.front (run ++ r.back) (preorder rest) ∙ ap (λ (z : List Labelled). r.front ++ z) (append_assoc run r.back (preorder rest))) in
        record {
          front = e ∷ r.front;
          back = r.back ++ preorder rest;
          old_is = ap (λ (z : List Labelled). e ∷ (z ++ preorder rest)) r.old_is ∙ joined (taken t);
          new_is = ap (λ (z : List Labelled). e ∷ (z ++ preorder rest)) r.new_is ∙ joined given;
        }
    by_tests false b h p q =
        let r = q h in
        record {
          front = e ∷ (preorder inner ++ r.front);
          back = r.back;
          old_is = ap (λ (z : List Labelled). e ∷ (preorder inner ++ z)) r.old_is ∙ ap (λ (z : List Labelled). e ∷ z) (sym (append_assoc (preorder inner) r.front (taken t ++ r.back)));
          new_is = ap (λ (z : List Labelled). e ∷ (preorder inner ++ z)) r.new_is ∙ ap (λ (z : List Labelled). e ∷ z) (sym (append_assoc (preorder inner) r.front (given ++ r.back)));
        }

one_run : (f : Change) (taken : Tree Labelled → List Labelled) (given : List Labelled) → Local f taken given
    → (x : List ℤ) (n : Tree Labelled) (forest : Trees Labelled) → is_well_formed forest ≡ true → found x forest ≡ Some n → OneRun (preorder forest) (preorder (edit f x forest)) (taken n) given
one_run f taken given l x n forest w h =
    let k = labels_of forest w in
    subst (λ z. OneRun (preorder forest) (preorder z) (taken n) given) (edit_is f x [] None forest k) (one_run_down f taken given l x forest n (found_is x [] None forest k ∙ h))

there : (x : List ℤ) (forest : Trees Labelled) (r : Option (Tree Labelled)) → found x forest ≡ r → has_node x forest ≡ true → (n : Tree Labelled) × (found x forest ≡ Some n)
there x forest None e h = absurd (true≢false (is_found x forest h e))
there x forest (Some n) e h = (n, e)

pub load_leaves : LoadLeaves
load_leaves t forest = preorder-and_then forest (numbered_behind forest t)

pub insert_leaves : InsertLeaves
insert_leaves p x t forest w h =
    let u = number (inserted_label p x forest) t in
    let n = there x forest (found x forest) refl h in
    one_run (put p u) (λ t. []) (nodes_in u) (local_put p u) x n.0 forest w n.1

pub delete_leaves : DeleteLeaves
delete_leaves x n forest w h = one_run taken_out nodes_in [] local_taken_out x n forest w h

pub replace_leaves : ReplaceLeaves
replace_leaves x n t forest w h = one_run (put_instead (number x t)) nodes_in (nodes_in (number x t)) (local_instead (number x t)) x n forest w h

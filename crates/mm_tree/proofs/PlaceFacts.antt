-- Walks over a list of nodes, and the definitions over trees.
use Rattle.std.proofs.Common.{◌≡◌, refl, ap, sym, ◌∙◌, ℕ, zero, suc, ◌+◌, ◌<◌, ◌≤◌, Bool, true, false, not, List, [], ◌∷◌, ◌++◌, length, cond, arith}
use Rattle.std.specs.Prelude.{ℤ, Option, Some, None, if◌then◌else◌, slice_get, slice_set, insert, remove, map, Result, Ok, Err, OnOk, OnErr}
use Rattle.std.specs.List.{prefix_len}
use Rattle.mm_tree.specs.declared.node.Node.{Node}
use Rattle.mm_tree.specs.declared.node.Node.TheViews.{roll-Node, out-Node, roll-out-Node}
use Rattle.mm_tree.specs.declared.node.Node.TheFolds.{fold-roll-Node}
use Rattle.mm_tree.specs.declared.forest.place.Place.TheVariants.{Before, After, First, Last}
use Rattle.mm_tree.specs.Trees.{Trees, node, Tree, one}
use Rattle.mm_tree.specs.Numbering.{Labelled, node_of, node_step, forest_of}
use Rattle.mm_tree.specs.Forests.{and_then}
use Rattle.mm_tree.specs.Edits.{has_label, Change, taken_out, put_instead, put}
use Rattle.mm_tree.specs.Facts.Walks.{labelled, node_of_out}
use Rattle.mm_tree.specs.Inside.Ways.{leads_to, found_down, edit_down, at_index}

-- not on the way
abbrev pub off_way : List ℤ → Node → Bool
off_way x n = not (leads_to x (labelled n))

abbrev pub is_at : List ℤ → Node → Bool
is_at x n = has_label x (labelled n)

pub one_more : (i : ℕ) → 1 + i ≡ suc i
one_more i = omega arith

pub get_next : (m : Node) (ns : List Node) (i : ℕ) (n : Node) → slice_get (m ∷ ns) (1 + i) ≡ Some n → slice_get ns i ≡ Some n
get_next m ns i n h = ap (λ j. slice_get (m ∷ ns) j) (sym (one_more i)) ∙ h

pub get_none : (ns : List Node) (i : ℕ) → slice_get ns i ≡ None → length ns ≤ i
get_none [] i h = omega arith
get_none (n ∷ ns) zero h = absurd cc
get_none (n ∷ ns) (suc i) h = omega (arith, get_none ns i h)

-- ---- the node that is found

find_none : (x : List ℤ) (ns : List Node) → length ns ≤ prefix_len (off_way x) ns → found_down x (forest_of ns) ≡ None
find_none x [] h = refl
find_none x (n ∷ ns) h =
    ap (λ (t : Tree Labelled). found_down x (node t.0 t.1 (forest_of ns))) (node_of_out n)
    ∙ by_test (leads_to x (labelled n)) _ h (find_none x ns)
  where
    by_test : (a : Bool) (F : Option (Tree Labelled)) → suc (length ns) ≤ cond (not a) (1 + prefix_len (off_way x) ns) 0 → (length ns ≤ prefix_len (off_way x) ns → found_down x (forest_of ns) ≡ None)
        → (if a then F else found_down x (forest_of ns)) ≡ None
    by_test true F h p = absurd (omega (arith, h))
    by_test false F h p = p (omega (arith, h))

find_at : (x : List ℤ) (ns : List Node) (n : Node) → slice_get ns (prefix_len (off_way x) ns) ≡ Some n
    → found_down x (forest_of ns) ≡ (if is_at x n then Some (node_of n) else found_down x (forest_of (out-Node n).children))
find_at x [] n h = absurd cc
find_at x (m ∷ ns) n h =
    ap (λ (t : Tree Labelled). found_down x (node t.0 t.1 (forest_of ns))) (node_of_out m)
    ∙ by_test (leads_to x (labelled m)) h (find_at x ns n)
  where
    by_test : (a : Bool) → slice_get (m ∷ ns) (cond (not a) (1 + prefix_len (off_way x) ns) 0) ≡ Some n
        → (slice_get ns (prefix_len (off_way x) ns) ≡ Some n → found_down x (forest_of ns) ≡ (if is_at x n then Some (node_of n) else found_down x (forest_of (out-Node n).children)))
        → (if a then (if is_at x m then Some (labelled m, forest_of (out-Node m).children) else found_down x (forest_of (out-Node m).children)) else found_down x (forest_of ns))
        ≡ (if is_at x n then Some (node_of n) else found_down x (forest_of (out-Node n).children))
    by_test true h p =
        let is : m ≡ n = cc in
        ap (λ (z : Tree Labelled). if is_at x m then Some z else found_down x (forest_of (out-Node m).children)) (sym (node_of_out m))
        ∙ ap (λ (z : Node). if is_at x z then Some (node_of z) else found_down x (forest_of (out-Node z).children)) is
    by_test false h p = p (get_next m ns (prefix_len (off_way x) ns) n h)

pub finds_none : (x : List ℤ) (ns : List Node) (i : ℕ) → i ≡ prefix_len (off_way x) ns → slice_get ns i ≡ None → found_down x (forest_of ns) ≡ None
finds_none x ns i e h = find_none x ns (omega (arith, e, get_none ns i h))

pub finds_at : (x : List ℤ) (ns : List Node) (n : Node) (i : ℕ) (b : Bool) → i ≡ prefix_len (off_way x) ns → slice_get ns i ≡ Some n → b ≡ is_at x n
    → found_down x (forest_of ns) ≡ (if b then Some (node_of n) else found_down x (forest_of (out-Node n).children))
finds_at x ns n i b e h k = find_at x ns n (ap (λ j. slice_get ns j) (sym e) ∙ h) ∙ (λ j. if sym k j then Some (node_of n) else found_down x (forest_of (out-Node n).children))

-- ---- changes at one of the siblings

pub on_ok : {T E : Type 0} {A B : Type 0} (r : Result T E) → (A → B) → OnOk r A → OnOk r B
on_ok (Ok x) f a = f a
on_ok (Err e) f a = tt

pub on_err : {T E : Type 0} {A B : Type 0} (r : Result T E) → (A → B) → OnErr r A → OnErr r B
on_err (Ok x) f a = tt
on_err (Err e) f a = f a

abbrev pub with_children : Node → List Node → Node
with_children n cs = roll-Node (record { label = (out-Node n).label; kind = (out-Node n).kind; children = cs })

node_of_with : (n : Node) (cs : List Node) → node_of (with_children n cs) ≡ (labelled n, forest_of cs)
node_of_with n cs = fold-roll-Node (Tree Labelled) node_step (record { label = (out-Node n).label; kind = (out-Node n).kind; children = cs })

pub before_is : (ns : List Node) (i : ℕ) (u : Node) → i < length ns → forest_of (insert ns i u) ≡ at_index (put Before (node_of u)) i (map node_of ns)
before_is [] i u h = absurd (omega (arith, h))
before_is (n ∷ ns) zero u h = refl
before_is (n ∷ ns) (suc i) u h = ap (λ r. node (node_of n).0 (node_of n).1 r) (before_is ns i u (omega (arith, h)))

pub after_is : (ns : List Node) (i : ℕ) (u : Node) → i < length ns → forest_of (insert ns (suc i) u) ≡ at_index (put After (node_of u)) i (map node_of ns)
after_is [] i u h = absurd (omega (arith, h))
after_is (n ∷ ns) zero u h = refl
after_is (n ∷ ns) (suc i) u h = ap (λ r. node (node_of n).0 (node_of n).1 r) (after_is ns i u (omega (arith, h)))

pub taken_is : (ns : List Node) (i : ℕ) → i < length ns → forest_of (remove ns i) ≡ at_index taken_out i (map node_of ns)
taken_is [] i h = absurd (omega (arith, h))
taken_is (n ∷ ns) zero h = refl
taken_is (n ∷ ns) (suc i) h = ap (λ r. node (node_of n).0 (node_of n).1 r) (taken_is ns i (omega (arith, h)))

pub instead_is : (ns : List Node) (i : ℕ) (u : Node) → i < length ns → forest_of (slice_set ns i u) ≡ at_index (put_instead (node_of u)) i (map node_of ns)
instead_is [] i u h = absurd (omega (arith, h))
instead_is (n ∷ ns) zero u h = refl
instead_is (n ∷ ns) (suc i) u h = ap (λ r. node (node_of n).0 (node_of n).1 r) (instead_is ns i u (omega (arith, h)))

-- where a change leaves the node and the siblings after it
children_set : (f : Change) (ns : List Node) (i : ℕ) (n : Node) (cs : List Node) → slice_get ns i ≡ Some n
    → ((e : Labelled) (rest : Trees Labelled) → node e (forest_of cs) rest ≡ f e (forest_of (out-Node n).children) rest)
    → forest_of (slice_set ns i (with_children n cs)) ≡ at_index f i (map node_of ns)
children_set f [] i n cs h k = absurd cc
children_set f (m ∷ ns) zero n cs h k =
    let is : m ≡ n = cc in
    ap (λ (t : Tree Labelled). node t.0 t.1 (forest_of ns)) (node_of_with n cs)
    ∙ k (labelled n) (forest_of ns)
    ∙ ap (λ (t : Tree Labelled). f t.0 t.1 (forest_of ns)) (sym (node_of_out n) ∙ ap (λ z. node_of z) (sym is))
children_set f (m ∷ ns) (suc i) n cs h k = ap (λ r. node (node_of m).0 (node_of m).1 r) (children_set f ns i n cs h k)

last_is : (cs : List Node) (u : Node) → forest_of (cs ++ u ∷ []) ≡ and_then (forest_of cs) (one (node_of u))
last_is [] u = refl
last_is (c ∷ cs) u = ap (λ r. node (node_of c).0 (node_of c).1 r) (last_is cs u)

pub first_put : (ns : List Node) (i : ℕ) (n u : Node) (cs : List Node) → slice_get ns i ≡ Some n → cs ≡ insert (out-Node n).children 0 u
    → forest_of (slice_set ns i (with_children n cs)) ≡ at_index (put First (node_of u)) i (map node_of ns)
first_put ns i n u cs h e = children_set (put First (node_of u)) ns i n cs h (λ l rest. ap (λ c. node l (forest_of c) rest) e)

pub last_put : (ns : List Node) (i : ℕ) (n u : Node) (cs : List Node) → slice_get ns i ≡ Some n → cs ≡ (out-Node n).children ++ u ∷ []
    → forest_of (slice_set ns i (with_children n cs)) ≡ at_index (put Last (node_of u)) i (map node_of ns)
last_put ns i n u cs h e = children_set (put Last (node_of u)) ns i n cs h (λ l rest. ap (λ c. node l c rest) (ap (λ c. forest_of c) e ∙ last_is (out-Node n).children u))

abbrev pub deeper : Change → List ℤ → Change
deeper f x e inner rest = node e (edit_down f x inner) rest

pub below_set : (f : Change) (x : List ℤ) (ns : List Node) (i : ℕ) (n : Node) (cs : List Node) → slice_get ns i ≡ Some n → forest_of cs ≡ edit_down f x (forest_of (out-Node n).children)
    → forest_of (slice_set ns i (with_children n cs)) ≡ at_index (deeper f x) i (map node_of ns)
below_set f x ns i n cs h e = children_set (deeper f x) ns i n cs h (λ l rest. ap (λ c. node l c rest) e)

pub set_back : (ns : List Node) (i : ℕ) (n : Node) → slice_get ns i ≡ Some n → slice_set ns i n ≡ ns
set_back [] i n h = refl
set_back (m ∷ ns) zero n h = let is : m ≡ n = cc in (λ j. sym is j ∷ ns)
set_back (m ∷ ns) (suc i) n h = ap (λ (r : List Node). m ∷ r) (set_back ns i n h)

-- a node put back with the children that it had
pub same_list : (ns : List Node) (i : ℕ) (n : Node) (cs : List Node) → slice_get ns i ≡ Some n → cs ≡ (out-Node n).children → slice_set ns i (with_children n cs) ≡ ns
same_list ns i n cs h e = ap (λ c. slice_set ns i (with_children n c)) e ∙ ap (λ m. slice_set ns i m) (roll-out-Node n) ∙ set_back ns i n h

-- ---- the edit on the way down

pub none_on_way : (f : Change) (x : List ℤ) (ns : List Node) → length ns ≤ prefix_len (off_way x) ns → edit_down f x (forest_of ns) ≡ forest_of ns
none_on_way f x [] h = refl
none_on_way f x (n ∷ ns) h =
    ap (λ (t : Tree Labelled). edit_down f x (node t.0 t.1 (forest_of ns))) (node_of_out n)
    ∙ by_test (leads_to x (labelled n)) _ h (none_on_way f x ns)
    ∙ ap (λ (t : Tree Labelled). node t.0 t.1 (forest_of ns)) (sym (node_of_out n))
  where
    by_test : (a : Bool) (F : Trees Labelled) → suc (length ns) ≤ cond (not a) (1 + prefix_len (off_way x) ns) 0 → (length ns ≤ prefix_len (off_way x) ns → edit_down f x (forest_of ns) ≡ forest_of ns)
        → (if a then F else node (labelled n) (forest_of (out-Node n).children) (edit_down f x (forest_of ns))) ≡ node (labelled n) (forest_of (out-Node n).children) (forest_of ns)
    by_test true F h p = absurd (omega (arith, h))
    by_test false F h p = ap (λ r. node (labelled n) (forest_of (out-Node n).children) r) (p (omega (arith, h)))

abbrev pub step_at : Bool → Change → List ℤ → Change
step_at b f x = if b then f else deeper f x

index_next : (f : Change) (t : Tree Labelled) (ts : List (Tree Labelled)) (i : ℕ) → at_index f (1 + i) (t ∷ ts) ≡ node t.0 t.1 (at_index f i ts)
index_next f t ts i = ap (λ j. at_index f j (t ∷ ts)) (one_more i)

on_way : (f : Change) (x : List ℤ) (ns : List Node) (n : Node) → slice_get ns (prefix_len (off_way x) ns) ≡ Some n
    → edit_down f x (forest_of ns) ≡ at_index (step_at (is_at x n) f x) (prefix_len (off_way x) ns) (map node_of ns)
on_way f x [] n h = absurd cc
on_way f x (m ∷ ns) n h =
    ap (λ (t : Tree Labelled). edit_down f x (node t.0 t.1 (forest_of ns))) (node_of_out m)
    ∙ by_test (leads_to x (labelled m)) h (on_way f x ns n)
  where
    here : (b : Bool) (t : Tree Labelled) → (if b then f t.0 t.1 (forest_of ns) else node t.0 (edit_down f x t.1) (forest_of ns)) ≡ step_at b f x t.0 t.1 (forest_of ns)
    here true t = refl
    here false t = refl

    by_test : (a : Bool) → slice_get (m ∷ ns) (cond (not a) (1 + prefix_len (off_way x) ns) 0) ≡ Some n
        → (slice_get ns (prefix_len (off_way x) ns) ≡ Some n → edit_down f x (forest_of ns) ≡ at_index (step_at (is_at x n) f x) (prefix_len (off_way x) ns) (map node_of ns))
        → (if a then (if is_at x m then f (labelled m) (forest_of (out-Node m).children) (forest_of ns) else node (labelled m) (edit_down f x (forest_of (out-Node m).children)) (forest_of ns))
        else node (labelled m) (forest_of (out-Node m).children) (edit_down f x (forest_of ns)))
        ≡ at_index (step_at (is_at x n) f x) (cond (not a) (1 + prefix_len (off_way x) ns) 0) (map node_of (m ∷ ns))
    by_test true h p =
        let is : m ≡ n = cc in
        here (is_at x m) (labelled m, forest_of (out-Node m).children)
        ∙ ap (λ (t : Tree Labelled). step_at (is_at x m) f x t.0 t.1 (forest_of ns)) (sym (node_of_out m))
        ∙ ap (λ (z : Node). step_at (is_at x z) f x (node_of m).0 (node_of m).1 (forest_of ns)) is
    by_test false h p =
        (λ i. node (sym (node_of_out m) i).0 (sym (node_of_out m) i).1 (p (get_next m ns (prefix_len (off_way x) ns) n h) i))
        ∙ sym (index_next (step_at (is_at x n) f x) (node_of m) (map node_of ns) (prefix_len (off_way x) ns))

pub on_way_at : (f : Change) (x : List ℤ) (ns : List Node) (n : Node) (i : ℕ) (b : Bool) → i ≡ prefix_len (off_way x) ns → slice_get ns i ≡ Some n → b ≡ is_at x n
    → edit_down f x (forest_of ns) ≡ at_index (step_at b f x) i (map node_of ns)
on_way_at f x ns n i b e h k =
    on_way f x ns n (ap (λ j. slice_get ns j) (sym e) ∙ h) ∙ (λ j. at_index (step_at (sym k j) f x) (sym e j) (map node_of ns))

-- Edits keep what is true of each node.
use Rattle.std.proofs.Common.{◌≡◌, refl, ap, ◌∙◌, Bool, true, false, ◌&&◌, List}
use Rattle.std.specs.Prelude.{ℤ, Some, if◌then◌else◌}
use Rattle.std.proofs.lemmas.Bool.{and_from, and_parts}
use Rattle.mm_tree.specs.declared.forest.place.Place.{Place}
use Rattle.mm_tree.specs.declared.forest.place.Place.TheVariants.{Before, After, First, Last}
use Rattle.mm_tree.specs.Trees.{Trees, none, node, Tree, one, has_some, every}
use Rattle.mm_tree.specs.Numbering.{Labelled}
use Rattle.mm_tree.specs.Forests.{and_then}
use Rattle.mm_tree.specs.Edits.{has_label, Change, taken_out, put_instead, put, is_inside}
use Rattle.mm_tree.specs.Inside.Ways.{leads_to, found_down, edit_down}
use Rattle.mm_tree.proofs.LabelledLaws.{every_behind}

-- fewer children never break the test
abbrev pub Lenient : (Labelled → Bool → Bool) → Type 0
Lenient ok = (e : Labelled) → ok e true ≡ true → ok e false ≡ true

with_fewer : (ok : Labelled → Bool → Bool) (e : Labelled) (f : Change) (x : List ℤ) (inner : Trees Labelled) → Lenient ok → ok e (has_some inner) ≡ true → ok e (has_some (edit_down f x inner)) ≡ true
with_fewer ok e f x none l h = h
with_fewer ok e f x (node a i r) l h = by_case (has_some (edit_down f x (node a i r)))
  where
    by_case : (b : Bool) → ok e b ≡ true
    by_case true = h
    by_case false = l e h

some_behind : (ts : Trees Labelled) (e : Labelled) (i r : Trees Labelled) → has_some (and_then ts (node e i r)) ≡ true
some_behind none e i r = refl
some_behind (node a j s) e i r = refl

every_keeps : (ok : Labelled → Bool → Bool) (f : Change) (x : List ℤ) → Lenient ok → (ts : Trees Labelled)
    → ((e : Labelled) (inner rest : Trees Labelled) → found_down x ts ≡ Some (e, inner) → every ok (node e inner rest) ≡ true → every ok (f e inner rest) ≡ true)
    → every ok ts ≡ true → every ok (edit_down f x ts) ≡ true
every_keeps ok f x len none k h = refl
every_keeps ok f x len (node e inner rest) k h =
    let p = and_parts (ok e (has_some inner)) (every ok inner && every ok rest) h in
    let q = and_parts (every ok inner) (every ok rest) p.1 in
    by_tests (leads_to x e) (has_label x e) k
    (λ m. and_from (ok e (has_some (edit_down f x inner))) _ (with_fewer ok e f x inner len p.0) (and_from (every ok (edit_down f x inner)) _ (every_keeps ok f x len inner m q.0) q.1))
    (λ m. and_from (ok e (has_some inner)) _ p.0 (and_from (every ok inner) _ q.0 (every_keeps ok f x len rest m q.1)))
  where
    by_tests : (a b : Bool)
        → ((e' : Labelled) (i' r' : Trees Labelled) → (if a then (if b then Some (e, inner) else found_down x inner) else found_down x rest) ≡ Some (e', i') → every ok (node e' i' r') ≡ true → every ok (f e' i' r') ≡ true)
        → (((e' : Labelled) (i' r' : Trees Labelled) → found_down x inner ≡ Some (e', i') → every ok (node e' i' r') ≡ true → every ok (f e' i' r') ≡ true) → every ok (node e (edit_down f x inner) rest) ≡ true)
        → (((e' : Labelled) (i' r' : Trees Labelled) → found_down x rest ≡ Some (e', i') → every ok (node e' i' r') ≡ true → every ok (f e' i' r') ≡ true) → every ok (node e inner (edit_down f x rest)) ≡ true)
        → every ok (if a then (if b then f e inner rest else node e (edit_down f x inner) rest) else node e inner (edit_down f x rest)) ≡ true
    by_tests true true k i r = k e inner rest refl h
    by_tests true false k i r = i k
    by_tests false b k i r = r k

-- a tree before its siblings
with_tree : (ok : Labelled → Bool → Bool) (u : Tree Labelled) (ts : Trees Labelled) → every ok (one u) ≡ true → every ok ts ≡ true → every ok (node u.0 u.1 ts) ≡ true
with_tree ok u ts h k =
    let p = and_parts (ok u.0 (has_some u.1)) (every ok u.1 && true) h in
    let q = and_parts (every ok u.1) true p.1 in
    and_from (ok u.0 (has_some u.1)) _ p.0 (and_from (every ok u.1) _ q.0 k)

pub every_delete : (ok : Labelled → Bool → Bool) (x : List ℤ) → Lenient ok → (ts : Trees Labelled) → every ok ts ≡ true → every ok (edit_down taken_out x ts) ≡ true
every_delete ok x l ts = every_keeps ok taken_out x l ts (λ e inner rest i h. (and_parts (every ok inner) (every ok rest) (and_parts (ok e (has_some inner)) _ h).1).1)

pub every_replace : (ok : Labelled → Bool → Bool) (x : List ℤ) (u : Tree Labelled) → Lenient ok → every ok (one u) ≡ true → (ts : Trees Labelled) → every ok ts ≡ true → every ok (edit_down (put_instead u) x ts) ≡ true
every_replace ok x u l g ts = every_keeps ok (put_instead u) x l ts (λ e inner rest i h. with_tree ok u rest g (and_parts (every ok inner) (every ok rest) (and_parts (ok e (has_some inner)) _ h).1).1)

pub every_put : (ok : Labelled → Bool → Bool) (p : Place) (x : List ℤ) (u : Tree Labelled) → Lenient ok → every ok (one u) ≡ true
    → (ts : Trees Labelled) → (is_inside p ≡ true → (e : Labelled) (inner : Trees Labelled) → found_down x ts ≡ Some (e, inner) → (b : Bool) → ok e b ≡ true → ok e true ≡ true)
    → every ok ts ≡ true → every ok (edit_down (put p u) x ts) ≡ true
every_put ok Before x u l g ts m = every_keeps ok (put Before u) x l ts (λ e inner rest i h. with_tree ok u (node e inner rest) g h)
every_put ok After x u l g ts m = every_keeps ok (put After u) x l ts (λ e inner rest i h.
    let p = and_parts (ok e (has_some inner)) (every ok inner && every ok rest) h in
    let q = and_parts (every ok inner) (every ok rest) p.1 in
    and_from (ok e (has_some inner)) _ p.0 (and_from (every ok inner) _ q.0 (with_tree ok u rest g q.1)))
every_put ok First x u l g ts m = every_keeps ok (put First u) x l ts (λ e inner rest i h.
    let p = and_parts (ok e (has_some inner)) (every ok inner && every ok rest) h in
    let q = and_parts (every ok inner) (every ok rest) p.1 in
    and_from (ok e true) _ (m refl e inner i (has_some inner) p.0) (and_from (every ok (node u.0 u.1 inner)) _ (with_tree ok u inner g q.0) q.1))
every_put ok Last x u l g ts m = every_keeps ok (put Last u) x l ts (λ e inner rest i h.
    let p = and_parts (ok e (has_some inner)) (every ok inner && every ok rest) h in
    let q = and_parts (every ok inner) (every ok rest) p.1 in
    and_from (ok e (has_some (and_then inner (one u)))) _ (ap (λ b. ok e b) (some_behind inner u.0 u.1 none) ∙ m refl e inner i (has_some inner) p.0)
    (and_from (every ok (and_then inner (one u))) _ (every_behind ok inner (one u) q.0 g) q.1))

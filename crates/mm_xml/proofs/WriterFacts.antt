-- The writer's tasks, one after the other.
use Rattle.std.proofs.Common.{◌≡◌, refl, ap, sym, ◌∙◌, ℕ, ◌+◌, ◌<◌, ◌≤◌, Bool, true, false, List, [], ◌∷◌, ◌++◌, append_assoc, arith}
use Rattle.std.specs.Prelude.{IsTrue, ◌↔◌, Result, Ok, Err, OnOk}
use Rattle.std.proofs.lemmas.List.{append-nil}
use Rattle.std.specs.Borrow.{Bor}
use Rattle.mm_tree.specs.declared.Attribute.{Attribute}
use Rattle.mm_tree.specs.declared.Kind.{Kind}
use Rattle.mm_tree.specs.declared.Kind.TheVariants.{Element}
use Rattle.mm_tree.specs.declared.node.Node.{Node}
use Rattle.mm_tree.specs.declared.node.Node.TheFolds.{fold_out-Node}
use Rattle.mm_tree.specs.declared.node.Node.TheViews.{out-Node}
use Rattle.mm_tree.specs.Trees.{Tree, has_some}
use Rattle.mm_tree.specs.Numbering.{Labelled, node_step, node_of, forest_of}
use Rattle.mm_xml.specs.declared.writer.Task.{Task}
use Rattle.mm_xml.specs.declared.writer.Task.TheVariants.{Siblings}
use Rattle.mm_xml.specs.Writing.{tag_front, end_tag, written_node, written, without_labels}
use Rattle.mm_xml.specs.Inside.Pending.{written_nodes, written_task, written_tasks, turns_of_trees, turns_of_task, turns_of}

written_push : (ts : List Task) (t : Task) → written_tasks (ts ++ t ∷ []) ≡ written_task t ++ written_tasks ts
written_push [] t = sym (append-nil (written_task t))
written_push (u ∷ ts) t = ap (λ xs. xs ++ written_task u) (written_push ts t) ∙ append_assoc (written_task t) (written_tasks ts) (written_task u)

turns_push : (ts : List Task) (t : Task) → turns_of (ts ++ t ∷ []) ≡ turns_of_task t + turns_of ts
turns_push [] t = omega arith
turns_push (u ∷ ts) t = omega (arith, turns_push ts t)

-- what is written of an element with children
opened : (kind : Kind) (children : List Node) (name : List ℕ) (attributes : List Attribute) → kind ≡ Element name attributes → (children ≡ [] → ⊥)
    → written_node kind (has_some (without_labels (forest_of children))) (written_nodes children) ≡ tag_front name attributes ++ (62 ∷ (written_nodes children ++ end_tag name))
opened kind [] name attributes e h = absurd (h refl)
opened kind (x ∷ xs) name attributes e h = ap (λ k. written_node k true (written_nodes (x ∷ xs))) e

not_empty : {X : Type 0} (xs : List X) (b : Bool) → IsTrue b ↔ (xs ≡ []) → b ≡ false → xs ≡ [] → ⊥
not_empty xs b e f h = let t : b ≡ true = e.1 h in cc

two_tasks : (tasks tasks1 tasks2 : List Task) (t u : Task) → tasks1 ≡ tasks ++ t ∷ [] → tasks2 ≡ tasks1 ++ u ∷ [] → written_tasks tasks2 ≡ written_task u ++ (written_task t ++ written_tasks tasks)
two_tasks tasks tasks1 tasks2 t u e f = ap written_tasks f ∙ written_push tasks1 u ∙ ap (λ xs. written_task u ++ xs) (ap written_tasks e ∙ written_push tasks t)

regroup : (out front inner end rest : List ℕ) → ((out ++ front) ++ 62 ∷ []) ++ (inner ++ (end ++ rest)) ≡ out ++ ((front ++ (62 ∷ (inner ++ end))) ++ [] ++ rest)
regroup out front inner end rest = simp (append_assoc, append-nil)

-- an element with children: its start tag is written, and the rest becomes tasks
pub begun : (n : Node) (name out out1 out2 : List ℕ) (attributes : List Attribute) (children : List Node) (b : Bool) (tasks tasks1 tasks2 : List Task) (t u : Task)
    → (out-Node n).kind ≡ Element name attributes → children ≡ (out-Node n).children → IsTrue b ↔ ((out-Node n).children ≡ []) → b ≡ false
    → out1 ≡ out ++ tag_front name attributes → out2 ≡ out1 ++ 62 ∷ [] → tasks1 ≡ tasks ++ t ∷ [] → tasks2 ≡ tasks1 ++ u ∷ [] → written_task t ≡ end_tag name → written_task u ≡ written_nodes children
    → out2 ++ written_tasks tasks2 ≡ out ++ (written_node (node_of n).0.kind (has_some (without_labels (node_of n).1)) (written (without_labels (node_of n).1)) ++ [] ++ written_tasks tasks)
begun n name out out1 out2 attributes children b tasks tasks1 tasks2 t u k ch e f o1 o2 t1 t2 is_end is_inner =
    let done : out2 ++ written_tasks tasks2 ≡ ((out ++ tag_front name attributes) ++ 62 ∷ []) ++ (written_nodes children ++ (end_tag name ++ written_tasks tasks)) =
    (λ j. (o2 ∙ ap (λ xs. xs ++ 62 ∷ []) o1) j ++ (two_tasks tasks tasks1 tasks2 t u t1 t2 ∙ (λ i. is_inner i ++ (is_end i ++ written_tasks tasks))) j) in
    let same : written_node (out-Node n).kind (has_some (without_labels (forest_of (out-Node n).children))) (written_nodes (out-Node n).children) ≡ tag_front name attributes ++ (62 ∷ (written_nodes children ++ end_tag name)) =
    ap (λ (xs : List Node). written_node (out-Node n).kind (has_some (without_labels (forest_of xs))) (written_nodes xs)) (sym ch) ∙ opened (out-Node n).kind children name attributes k (λ h. not_empty (out-Node n).children b e f (sym ch ∙ h)) in
    let whole : written_node (node_of n).0.kind (has_some (without_labels (node_of n).1)) (written (without_labels (node_of n).1)) ≡ tag_front name attributes ++ (62 ∷ (written_nodes children ++ end_tag name)) =
    ap (λ (x : Tree Labelled). written_node x.0.kind (has_some (without_labels x.1)) (written (without_labels x.1))) (fold_out-Node (Tree Labelled) node_step n) ∙ same in
    done ∙ regroup out (tag_front name attributes) (written_nodes children) (end_tag name) (written_tasks tasks) ∙ ap (λ xs. out ++ (xs ++ [] ++ written_tasks tasks)) (sym whole)

pub begun_turns : (n : Node) (children : List Node) (tasks tasks1 tasks2 : List Task) (t u : Task)
    → children ≡ (out-Node n).children → tasks1 ≡ tasks ++ t ∷ [] → tasks2 ≡ tasks1 ++ u ∷ [] → turns_of_task t ≡ 1 → turns_of_task u ≡ turns_of_trees (forest_of children)
    → turns_of tasks2 + 2 ≤ 2 + turns_of_trees (node_of n).1 + 1 + turns_of tasks
begun_turns n children tasks tasks1 tasks2 t u ch t1 t2 one inner =
    let a : turns_of tasks2 ≡ turns_of_task u + turns_of tasks1 = ap turns_of t2 ∙ turns_push tasks1 u in
    let b : turns_of tasks1 ≡ turns_of_task t + turns_of tasks = ap turns_of t1 ∙ turns_push tasks t in
    let d : turns_of_trees (node_of n).1 ≡ turns_of_trees (forest_of children) =
    ap (λ (x : Tree Labelled). turns_of_trees x.1) (fold_out-Node (Tree Labelled) node_step n) ∙ ap (λ (xs : List Node). turns_of_trees (forest_of xs)) (sym ch) in
    omega (arith, a, b, d, one, inner)

-- siblings are the first one and the others
first_and_rest : (xs : List Node) (first : Node) (rest : List Node) → xs ≡ first ∷ rest → written_nodes xs ≡ written_nodes (first ∷ []) ++ written_nodes rest
first_and_rest xs first rest e = ap written_nodes e ∙ ap (λ ys. ys ++ written_nodes rest) (sym (append-nil _))

on_ok : {A E P Q : Type 0} (r : Result A E) → (P → Q) → OnOk r P → OnOk r Q
on_ok (Ok x) f p = f p
on_ok (Err e) f p = p

-- a turn at siblings: the first is begun, and the others become a task
pub begun_first : {A E : Type 0} (r : Result A E) (w out : List ℕ) (task t : Task) (xs : Bor (List Node)) (first : Node) (rest : Bor (List Node)) (tasks tasks1 : List Task)
    → task ≡ Siblings xs → xs.now ≡ first ∷ rest.now → tasks1 ≡ tasks ++ t ∷ [] → written_task t ≡ written_nodes rest.now
    → OnOk r (w ≡ out ++ (written_nodes (first ∷ []) ++ written_tasks tasks1)) → OnOk r (w ≡ out ++ (written_task task ++ written_tasks tasks))
begun_first r w out task t xs first rest tasks tasks1 is e t1 is_rest =
    let first_rest : written_task task ≡ written_nodes (first ∷ []) ++ written_nodes rest.now = ap written_task is ∙ first_and_rest xs.now first rest.now e in
    let all : written_nodes (first ∷ []) ++ written_tasks tasks1 ≡ written_task task ++ written_tasks tasks =
    ap (λ ys. written_nodes (first ∷ []) ++ ys) (ap written_tasks t1 ∙ written_push tasks t ∙ ap (λ ys. ys ++ written_tasks tasks) is_rest)
    ∙ sym (append_assoc (written_nodes (first ∷ [])) (written_nodes rest.now) (written_tasks tasks))
    ∙ ap (λ ys. ys ++ written_tasks tasks) (sym first_rest) in
    on_ok r (λ p. p ∙ ap (λ ys. out ++ ys) all)

pub first_fewer : {A E : Type 0} (r : Result A E) (n : ℕ) (task t : Task) (xs : Bor (List Node)) (first : Node) (rest : Bor (List Node)) (tasks tasks1 : List Task)
    → task ≡ Siblings xs → xs.now ≡ first ∷ rest.now → tasks1 ≡ tasks ++ t ∷ [] → turns_of_task t ≡ turns_of_trees (forest_of rest.now)
    → OnOk r (n + 2 ≤ 2 + turns_of_trees (node_of first).1 + 1 + turns_of tasks1) → OnOk r (n + 1 ≤ turns_of_task task + turns_of tasks)
first_fewer r n task t xs first rest tasks tasks1 is e t1 is_rest =
    let a : turns_of_task task ≡ 2 + turns_of_trees (node_of first).1 + turns_of_trees (forest_of rest.now) = ap turns_of_task is ∙ ap (λ (ns : List Node). turns_of_trees (forest_of ns)) e in
    let b : turns_of tasks1 ≡ turns_of_task t + turns_of tasks = ap turns_of t1 ∙ turns_push tasks t in
    on_ok r (λ p. omega (arith, a, b, is_rest, p))

-- the last task is the next
pub next_is : (out : List ℕ) (tasks rest : List Task) (t : Task) → tasks ≡ rest ++ t ∷ [] → out ++ written_tasks tasks ≡ out ++ (written_task t ++ written_tasks rest)
next_is out tasks rest t e = ap (λ xs. out ++ xs) (ap written_tasks e ∙ written_push rest t)

pub next_fewer : (n : ℕ) (tasks rest : List Task) (t : Task) → tasks ≡ rest ++ t ∷ [] → n + 1 ≤ turns_of_task t + turns_of rest → n < turns_of tasks
next_fewer n tasks rest t e h =
    let a : turns_of tasks ≡ turns_of_task t + turns_of rest = ap turns_of e ∙ turns_push rest t in
    omega (arith, a, h)

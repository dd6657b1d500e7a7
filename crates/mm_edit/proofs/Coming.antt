-- What an edit that puts a tree in makes of a forest, why it is refused, and what it costs.
use Rattle.std.proofs.Common.{◌≡◌, ◌*◌, ◌+◌, ◌-◌, ◌^◌, ◌<◌, ◌≤◌, ◌++◌, ℕ, Bool, true, false, not, IsTrue, List, [], refl, ap, sym, subst, ◌∙◌, Option, Some, None, Result, Ok, Err, append-nil, arith}
use Rattle.std.specs.Prelude.{ℤ, if◌then◌else◌, min, IfErr, OnOk}
use Rattle.mm_label.specs.Label.{level}
use Rattle.mm_tree.specs.declared.forest.place.Place.{Place}
use Rattle.mm_tree.specs.declared.plain.Kind.{Kind}
use Rattle.mm_tree.specs.declared.refusal.Refusal.{Refusal}
use Rattle.mm_tree.specs.declared.refusal.Refusal.TheVariants.{Absent}
use Rattle.mm_tree.specs.Edits.{delete_refusal, found, has_node, insert, insert_refusal, inserted_label, placed_refusal, replace, replace_refusal}
use Rattle.mm_tree.specs.Forests.{is_well_formed, load, load_refusal, next_label, numbered_behind}
use Rattle.mm_tree.specs.Numbering.{Labelled, number}
use Rattle.mm_tree.specs.Staying.{InsertStaysFormed, LoadStaysFormed, ReplaceStaysFormed}
use Rattle.mm_tree.specs.Trees.{Tree, Trees, none, one, preorder}
use Rattle.mm_tree.specs.Untouched.{InsertLeaves, LoadLeaves, ReplaceLeaves}
use Rattle.mm_tree.specs.Validity.{is_valid_tree}
use Rattle.mm_edit.specs.declared.plan.EditError.{EditError}
use Rattle.mm_edit.specs.declared.plan.EditError.TheVariants as error
use Rattle.mm_edit.specs.Inside.Changes.{Becomes}
use Rattle.mm_edit.specs.Plans.{IsRefusedBy, or_full}

pub on_ok_so : {A E P Q : Type 0} (r : Result A E) → (P → Q) → OnOk r P → OnOk r Q
on_ok_so (Ok a) f h = f h
on_ok_so (Err e) f h = tt

pub if_err_so : {A E : Type 0} {P Q : E → Type 0} (r : Result A E) → ((e : E) → P e → Q e) → IfErr r P → IfErr r Q
if_err_so (Ok a) f h = tt
if_err_so (Err e) f h = f e h

pub or_refused : (r : Option Refusal) (limit : ℕ) (after : Trees Labelled) (e : EditError) → IsRefusedBy r e → IsRefusedBy (or_full r limit after) e
or_refused r limit after (error.Refused q) h = ap (λ (z : Option Refusal). or_full z limit after) h
or_refused r limit after (error.Fault f) h = h

-- ---- a load

pub load_becomes : LoadLeaves → LoadStaysFormed → (t : Tree Kind) (f : Trees Labelled) (u : Tree Labelled) → IsTrue (is_well_formed f) → IsTrue (is_valid_tree t) → load_refusal t f ≡ None → u ≡ number (next_label f) t
    → Becomes f (load t f) none (one u)
load_becomes leaves stays t f u w v r e = subst (λ (z : Tree Labelled). Becomes f (load t f) none (one z)) (sym e) (record {
  formed = stays t f w v r;
  run = record { front = preorder f; back = []; old_is = sym (append-nil (preorder f)); new_is = leaves t f ∙ ap (λ (z : List Labelled). preorder f ++ z) (sym (append-nil (preorder (numbered_behind f t)))) };
})

-- ---- an insertion

target_there : (place : Place) (x : List ℤ) (t : Tree Kind) (f : Trees Labelled) → insert_refusal place x t f ≡ None → has_node x f ≡ true
target_there place x t f h = by _ (has_node x f) refl h
  where
    by : (r : Option Refusal) (b : Bool) → has_node x f ≡ b → (if not b then Some Absent else r) ≡ None → b ≡ true
    by r true e h = refl
    by r false e h = absurd cc

pub insert_becomes : InsertLeaves → InsertStaysFormed → (place : Place) (x : List ℤ) (t : Tree Kind) (f : Trees Labelled) (u : Tree Labelled) → IsTrue (is_well_formed f) → IsTrue (is_valid_tree t)
    → insert_refusal place x t f ≡ None → u ≡ number (inserted_label place x f) t → Becomes f (insert place x t f) none (one u)
insert_becomes leaves stays place x t f u w v r e = subst (λ (z : Tree Labelled). Becomes f (insert place x t f) none (one z)) (sym e) (record {
  formed = stays place x t f w v r;
  run = leaves place x t f w (target_there place x t f r);
})

-- ---- a replacement

pub replace_becomes : ReplaceLeaves → ReplaceStaysFormed → (x : List ℤ) (n : Tree Labelled) (t : Tree Kind) (f : Trees Labelled) (u : Tree Labelled) → IsTrue (is_well_formed f) → IsTrue (is_valid_tree t)
    → found x f ≡ Some n → replace_refusal x t f ≡ None → u ≡ number x t → Becomes f (replace x t f) (one n) (one u)
replace_becomes leaves stays x n t f u w v is r e = subst (λ (z : Tree Labelled). Becomes f (replace x t f) (one n) (one z)) (sym e) (record { formed = stays x t f w v r; run = leaves x n t f w is })

-- its causes, once it is known whether a node has the label
pub replaced_as : (x : List ℤ) (t : Tree Kind) (f : Trees Labelled) → delete_refusal x f ≡ None → replace_refusal x t f ≡ placed_refusal (level x - 1) x t
replaced_as x t f h = by (has_node x f) h
  where
    by : (b : Bool) → (if not b then Some Absent else None) ≡ None → (if not b then Some Absent else placed_refusal (level x - 1) x t) ≡ placed_refusal (level x - 1) x t
    by true h = refl
    by false h = absurd cc

pub replaced_absent : (x : List ℤ) (t : Tree Kind) (f : Trees Labelled) → delete_refusal x f ≡ Some Absent → replace_refusal x t f ≡ Some Absent
replaced_absent x t f h = by (has_node x f) h
  where
    by : (b : Bool) → (if not b then Some Absent else None) ≡ Some Absent → (if not b then Some Absent else placed_refusal (level x - 1) x t) ≡ Some Absent
    by true h = absurd cc
    by false h = refl

-- ---- numbers

pub exact_nodes : (n m k : ℕ) → k ≡ min n (2 ^ 64 - 1) → n < 2 ^ 64 → n ≡ m → k ≡ m
exact_nodes n m k e l q = omega (arith, e, l, q)

pub put_cost : (steps read now words all new : ℕ) → read ≤ steps + 2 → now ≤ read + words → words ≤ all + new → now ≤ steps + 4 * (all + new + 1)
put_cost steps read now words all new a b c = omega (arith, a, b, c)

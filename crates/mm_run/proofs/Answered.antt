-- What lines are answered, from what is found of their payloads and labels.
use Rattle.std.proofs.Common.{◌≡◌, ℕ, ℤ, ◌+◌, ◌≤◌, Bool, true, false, List, length, Option, Some, None, Result, Ok, Err, refl, ap, sym, subst, ◌∙◌, arith, cond, not, ◌&&◌}
use Rattle.mm_command.specs.Replies.{refused_text, tree_text}
use Rattle.mm_image.specs.Image.{image}
use Rattle.mm_image.specs.Subtrees.{run_of}
use Rattle.mm_keeper.specs.Entries.{Entries}
use Rattle.mm_tree.specs.Numbering.{Labelled}
use Rattle.mm_tree.specs.Edits.{delete_refusal, found, has_node, is_inside, is_text_node}
use Rattle.mm_tree.specs.Facts.Found.{present, some_found}
use Rattle.mm_tree.specs.Trees.{Trees, Tree}
use Rattle.mm_tree.specs.Validity.{is_element}
use Rattle.mm_tree.specs.declared.forest.place.Place.{Place}
use Rattle.mm_tree.specs.declared.refusal.Refusal.{Refusal}
use Rattle.mm_tree.specs.declared.refusal.Refusal.TheVariants as refusal
use Rattle.mm_run.specs.Answers.{AnswersFound, AnswersTaken, AnswersUnlocked, Refuses, RefusesFirst, target_refusal}
use Rattle.mm_run.specs.Steps.{AllowsTaken, AllowsUnlocked, node_cost}
use Rattle.mm_run.proofs.Tested.{test-false}

pub refuses : (forest : Trees Labelled) (r : Refusal) → Refuses forest r (refused_text r) forest
refuses forest r = record { text = refl; same = refl }

-- ---- payloads

pub taken_refused : (t : Result (List ℕ) Refusal) (r : Refusal) (Answered : List ℕ → Type 0) (forest : Trees Labelled) → t ≡ Err r → AnswersTaken t Answered forest (refused_text r) forest
taken_refused (Err s) r Answered forest e = let same : s ≡ r = cc in record { text = ap refused_text (sym same); same = refl }
taken_refused (Ok bytes) r Answered forest e = absurd cc

pub taken_refused_allows : (t : Result (List ℕ) Refusal) (r : Refusal) (Allowed : List ℕ → Type 0) → t ≡ Err r → AllowsTaken t Allowed 0
taken_refused_allows (Err s) r Allowed e = refl
taken_refused_allows (Ok bytes) r Allowed e = absurd cc

pub taken_as : (t : Result (List ℕ) Refusal) (bytes : List ℕ) (Answered : List ℕ → Type 0) (forest : Trees Labelled) (reply : List ℕ) (after : Trees Labelled) → t ≡ Ok bytes
    → Answered bytes → AnswersTaken t Answered forest reply after
taken_as t bytes Answered forest reply after e answered = subst (λ (u : Result (List ℕ) Refusal). AnswersTaken u Answered forest reply after) (sym e) answered

pub taken_allows : (t : Result (List ℕ) Refusal) (bytes : List ℕ) (Allowed : List ℕ → Type 0) (n : ℕ) → t ≡ Ok bytes → Allowed bytes → AllowsTaken t Allowed n
taken_allows t bytes Allowed n e allowed = subst (λ (u : Result (List ℕ) Refusal). AllowsTaken u Allowed n) (sym e) allowed

-- ---- where edits are refused

pub locked : (b : Bool) (Answered : Type 0) (forest : Trees Labelled) → b ≡ true → AnswersUnlocked b Answered forest (refused_text refusal.Readonly) forest
locked true Answered forest e = refuses forest refusal.Readonly
locked false Answered forest e = absurd cc

pub locked_allows : (b : Bool) (Allowed : Type 0) → b ≡ true → AllowsUnlocked b Allowed 0
locked_allows true Allowed e = refl
locked_allows false Allowed e = absurd cc

pub unlocked_as : (b : Bool) (Answered : Type 0) (forest : Trees Labelled) (reply : List ℕ) (after : Trees Labelled) → b ≡ false → Answered → AnswersUnlocked b Answered forest reply after
unlocked_as true Answered forest reply after e answered = absurd cc
unlocked_as false Answered forest reply after e answered = answered

pub unlocked_allows : (b : Bool) (Allowed : Type 0) (n : ℕ) → b ≡ false → Allowed → AllowsUnlocked b Allowed n
unlocked_allows true Allowed n e allowed = absurd cc
unlocked_allows false Allowed n e allowed = allowed

-- ---- nodes

pub found_shown : (o : Option (Tree Labelled)) (t : Tree Labelled) (forest : Trees Labelled) → o ≡ Some t → AnswersFound o forest (tree_text t) forest
found_shown None t forest e = absurd cc
found_shown (Some u) t forest e = let same : u ≡ t = cc in record { text = ap tree_text (sym same); same = refl }

pub found_absent : (o : Option (Tree Labelled)) (r : Refusal) (forest : Trees Labelled) → r ≡ refusal.Absent → o ≡ None → AnswersFound o forest (refused_text r) forest
found_absent None r forest e n = record { text = ap refused_text e; same = refl }
found_absent (Some u) r forest e n = absurd cc

pub show_within : (x : List ℤ) (forest : Trees Labelled) (m : Entries) (s s' : ℕ) → m ≡ image forest → s' ≤ s + 1 + length (run_of x m) → s' ≤ s + node_cost x forest
show_within x forest m s s' e h = let same : length (run_of x m) ≡ length (run_of x (image forest)) = ap (λ (n : Entries). length (run_of x n)) e in omega (arith, h, same)

-- ---- targets

pub refuses_first : (target : Option Refusal) (other : Refusal) (forest : Trees Labelled) → target ≡ None → RefusesFirst target other forest (refused_text other) forest
refuses_first None other forest e = refuses forest other
refuses_first (Some r) other forest e = absurd cc

pub refuses_target : (target : Option Refusal) (other r : Refusal) (forest : Trees Labelled) → target ≡ Some r → RefusesFirst target other forest (refused_text r) forest
refuses_target None other r forest e = absurd cc
refuses_target (Some s) other r forest e = let same : s ≡ r = cc in record { text = ap refused_text (sym same); same = refl }

none_there : (o : Option (Tree Labelled)) (t : Tree Labelled) → o ≡ Some t → o ≡ None → ⊥
none_there None t e n = cc
none_there (Some u) t e n = cc

gone : (x : List ℤ) (forest : Trees Labelled) → found x forest ≡ None → has_node x forest ≡ false
gone x forest n = test-false (has_node x forest) (λ h. some_found x forest h) (λ s. none_there (found x forest) s.0 s.1 n)

pub target_there : (x : List ℤ) (forest : Trees Labelled) (t : Tree Labelled) → found x forest ≡ Some t → None ≡ delete_refusal x forest
target_there x forest t e = sym (ap (λ (b : Bool). cond (not b) (Some refusal.Absent) None) (present x forest t e))

pub target_gone : (x : List ℤ) (forest : Trees Labelled) (r : Refusal) → r ≡ refusal.Absent → found x forest ≡ None → Some r ≡ delete_refusal x forest
target_gone x forest r e n = ap (λ (s : Refusal). Some s) e ∙ sym (ap (λ (b : Bool). cond (not b) (Some refusal.Absent) None) (gone x forest n))

pub place_gone : (place : Place) (x : List ℤ) (forest : Trees Labelled) (r : Refusal) → r ≡ refusal.Absent → found x forest ≡ None → Some r ≡ target_refusal place x forest
place_gone place x forest r e n = ap (λ (s : Refusal). Some s) e
    ∙ sym (ap (λ (b : Bool). cond (not b) (Some refusal.Absent) (cond (is_inside place && is_text_node (found x forest)) (Some refusal.Leaf) None)) (gone x forest n))

place_is : (place : Place) (x : List ℤ) (forest : Trees Labelled) (t : Tree Labelled) → found x forest ≡ Some t
    → target_refusal place x forest ≡ cond (is_inside place && not (is_element t.0.kind)) (Some refusal.Leaf) None
place_is place x forest t e =
    ap (λ (b : Bool). cond (not b) (Some refusal.Absent) (cond (is_inside place && is_text_node (found x forest)) (Some refusal.Leaf) None)) (present x forest t e)
    ∙ ap (λ (o : Option (Tree Labelled)). cond (is_inside place && is_text_node o) (Some refusal.Leaf) None) e

leaf_told : (inside element : Bool) → inside ≡ true → element ≡ false → Some refusal.Leaf ≡ cond (inside && not element) (Some refusal.Leaf) None
leaf_told true false e n = refl
leaf_told true true e n = absurd cc
leaf_told false element e n = absurd cc

outside_told : (inside element : Bool) → inside ≡ false → None ≡ cond (inside && not element) (Some refusal.Leaf) None
outside_told true element e = absurd cc
outside_told false element e = refl

element_told : (inside element : Bool) → element ≡ true → None ≡ cond (inside && not element) (Some refusal.Leaf) None
element_told true true e = refl
element_told false true e = refl
element_told inside false e = absurd cc

pub place_leaf : (place : Place) (x : List ℤ) (forest : Trees Labelled) (t : Tree Labelled) → found x forest ≡ Some t → is_inside place ≡ true → is_element t.0.kind ≡ false
    → Some refusal.Leaf ≡ target_refusal place x forest
place_leaf place x forest t e inside leaf = leaf_told (is_inside place) (is_element t.0.kind) inside leaf ∙ sym (place_is place x forest t e)

pub place_outside : (place : Place) (x : List ℤ) (forest : Trees Labelled) (t : Tree Labelled) → found x forest ≡ Some t → is_inside place ≡ false → None ≡ target_refusal place x forest
place_outside place x forest t e outside = outside_told (is_inside place) (is_element t.0.kind) outside ∙ sym (place_is place x forest t e)

pub place_element : (place : Place) (x : List ℤ) (forest : Trees Labelled) (t : Tree Labelled) → found x forest ≡ Some t → is_element t.0.kind ≡ true → None ≡ target_refusal place x forest
place_element place x forest t e element = element_told (is_inside place) (is_element t.0.kind) element ∙ sym (place_is place x forest t e)

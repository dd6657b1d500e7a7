-- A numbered tree is labelled, and has the levels and the kinds that it had.
use Rattle.std.proofs.Common.{◌≡◌, refl, ap, ◌∙◌, ℕ, ◌+◌, ◌*◌, ◌-◌, ◌<◌, true, false, List, [], ◌∷◌, arith, cond, ltb, eqb, Less, Greater, Equal, ◌&&◌}
use Rattle.std.specs.Prelude.{ℤ, pos, Option, Some, None, max}
use Rattle.std.proofs.lemmas.Bool.{lt-ltb, and_from, and_parts}
use Rattle.std.proofs.Math.Nat.{mul-add-mod_self_left}
use Rattle.std.specs.Ordering.{is_lt, ordering_then}
use Rattle.mm_label.specs.Label.{is_odd, is_segment}
use Rattle.mm_tree.specs.declared.plain.Kind.{Kind}
use Rattle.mm_tree.specs.Trees.{Trees, none, node, Tree, one, every, has_some, levels}
use Rattle.mm_tree.specs.Validity.{is_valid_node}
use Rattle.mm_tree.specs.Numbering.{child_label, number, number_from}
use Rattle.mm_tree.specs.Forests.{is_before, rises, is_child_label, are_labelled, has_valid_kind}
use Rattle.mm_tree.specs.Facts.Formed.{child_ok}

odd_is : (i : ℕ) → is_odd (pos (2 * i + 1)) ≡ true
odd_is i = ap (λ r. eqb r 1) (mul-add-mod_self_left 2 i 1)

less_one : (a b : ℕ) → a < b → is_before (pos a ∷ []) (pos b ∷ []) ≡ true
less_one a b h = ap (λ t. is_lt (ordering_then (cond t Less (cond (ltb b a) Greater Equal)) Equal)) (lt-ltb a b h)

abbrev odd_at : ℕ → List ℤ
odd_at k = pos (2 * (k + 1) - 1) ∷ []

odd_at_is : (k : ℕ) → 2 * (k + 1) - 1 ≡ 2 * k + 1
odd_at_is k = omega arith

whole_at : (k : ℕ) → is_segment (odd_at k) ≡ true
whole_at k = ap (λ n. is_segment (pos n ∷ [])) (odd_at_is k) ∙ ap (λ b. cond b true false) (odd_is k)

numbered_from : (y : List ℤ) (k : ℕ) (left : Option (List ℤ)) (ts : Trees Kind) → rises left (odd_at k) ≡ true → are_labelled y left (number_from y (k + 1) ts) ≡ true
numbered_from y k left none r = refl
numbered_from y k left (node kind inner rest) r =
    let x = child_label y (k + 1) in
    let c = child_ok y (odd_at k) x left refl (whole_at k) r in
    and_from (is_child_label y left x) _ c.0 (and_from (are_labelled x None (number_from x 1 inner)) _ (numbered_from x 0 None inner refl)
    (ap (λ s. are_labelled y (Some s) (number_from y (k + 1 + 1) rest)) c.1 ∙ numbered_from y (k + 1) (Some (odd_at k)) rest (less_one (2 * (k + 1) - 1) (2 * (k + 1 + 1) - 1) (omega arith))))

pub number_form : (x : List ℤ) (t : Tree Kind) → are_labelled x None (number x t).1 ≡ true
number_form x t = numbered_from x 0 None t.1 refl

pub levels-number_from : (y : List ℤ) (i : ℕ) (ts : Trees Kind) → levels (number_from y i ts) ≡ levels ts
levels-number_from y i none = refl
levels-number_from y i (node k inner rest) = λ j. max (1 + levels-number_from (child_label y i) 1 inner j) (levels-number_from y (i + 1) rest j)

pub levels-number : (x : List ℤ) (t : Tree Kind) → levels (one (number x t)) ≡ levels (one t)
levels-number x t = ap (λ n. max (1 + n) 0) (levels-number_from x 1 t.1)

has_some-number_from : (y : List ℤ) (i : ℕ) (ts : Trees Kind) → has_some (number_from y i ts) ≡ has_some ts
has_some-number_from y i none = refl
has_some-number_from y i (node k inner rest) = refl

valid_from : (y : List ℤ) (i : ℕ) (ts : Trees Kind) → every is_valid_node ts ≡ true → every has_valid_kind (number_from y i ts) ≡ true
valid_from y i none h = refl
valid_from y i (node k inner rest) h =
    let x = child_label y i in
    let p = and_parts (is_valid_node k (has_some inner)) (every is_valid_node inner && every is_valid_node rest) h in
    let q = and_parts (every is_valid_node inner) (every is_valid_node rest) p.1 in
    and_from (is_valid_node k (has_some (number_from x 1 inner))) _ (ap (λ b. is_valid_node k b) (has_some-number_from x 1 inner) ∙ p.0)
    (and_from (every has_valid_kind (number_from x 1 inner)) _ (valid_from x 1 inner q.0) (valid_from y (i + 1) rest q.1))

-- a numbered tree has the kinds that it had
pub valid_numbered : (x : List ℤ) (t : Tree Kind) → every is_valid_node (one t) ≡ true → every has_valid_kind (one (number x t)) ≡ true
valid_numbered x t h =
    let p = and_parts (is_valid_node t.0 (has_some t.1)) (every is_valid_node t.1 && true) h in
    let q = and_parts (every is_valid_node t.1) true p.1 in
    and_from (is_valid_node t.0 (has_some (number_from x 1 t.1))) _ (ap (λ b. is_valid_node t.0 b) (has_some-number_from x 1 t.1) ∙ p.0)
    (and_from (every has_valid_kind (number_from x 1 t.1)) _ (valid_from x 1 t.1 q.0) refl)

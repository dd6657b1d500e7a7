use Rattle.std.proofs.Common.{◌≡◌, ◌-◌, ◌≤◌, ℕ, ℤ, List, length, take, drop, reverse, refl, ap, ap₂, sym, subst, ◌∙◌, arith}
use Rattle.std.proofs.lemmas.List.{length-reverse}
use Rattle.mm_tree.specs.declared.node.Node.{Node}
use Rattle.mm_image.specs.Inside.Rebuilding.{count_below}
use Rattle.mm_image.proofs.Trees.{count_within, reversed_parts}
use Rattle.mm_image.proofs.rebuilding.take_below.Goals as goal

-- the count, and the length of the pile
counted : (x : List ℤ) (s : List Node) (k n : ℕ) → k ≡ count_below x (reverse s) → n ≡ length s → k ≤ n
counted x s k n e f = let t = count_within x (reverse s) in let u = length-reverse s in omega arith

below_part : (x : List ℤ) (s : List Node) (k n : ℕ) → k ≡ count_below x (reverse s) → n ≡ length s → reverse (drop (n - k) s) ≡ take (count_below x (reverse s)) (reverse s)
below_part x s k n e f = ap (λ (i : ℕ). reverse (drop i s)) (ap₂ (λ (a b : ℕ). a - b) f refl) ∙ (reversed_parts s k (subst (λ (i : ℕ). k ≤ i) f (counted x s k n e f))).0 ∙ ap (λ (i : ℕ). take i (reverse s)) e

other_part : (x : List ℤ) (s : List Node) (k n : ℕ) → k ≡ count_below x (reverse s) → n ≡ length s → reverse (take (n - k) s) ≡ drop (count_below x (reverse s)) (reverse s)
other_part x s k n e f = ap (λ (i : ℕ). reverse (take i s)) (ap₂ (λ (a b : ℕ). a - b) f refl) ∙ (reversed_parts s k (subst (λ (i : ℕ). k ≤ i) f (counted x s k n e f))).1 ∙ ap (λ (i : ℕ). drop i (reverse s)) e

pub overflow_sub-len : goal.overflow_sub-len
overflow_sub-len c =
    counted c.args.label.now c.args.trees.now.items c.count_below-count.result c.len.result
    (c.count_below-count.ensures ∙ ap (λ (z : List Node). count_below c.args.label.now (reverse z)) c.as_slice.ensures.value)
    (c.len.ensures ∙ sym c.as_slice.ensures.len ∙ ap length c.as_slice.ensures.value)

pub returns-clause-below : goal.returns-clause-below
returns-clause-below c =
    c.reverse.ensures.items ∙ ap reverse c.in_ok-below.ensures.tail
    ∙ below_part c.args.label.now c.args.trees.now.items c.count_below-count.result c.len.result
    (c.count_below-count.ensures ∙ ap (λ (z : List Node). count_below c.args.label.now (reverse z)) c.as_slice.ensures.value)
    (c.len.ensures ∙ sym c.as_slice.ensures.len ∙ ap length c.as_slice.ensures.value)

pub returns-clause-others : goal.returns-clause-others
returns-clause-others c =
    ap reverse c.in_ok-below.ensures.items
    ∙ other_part c.args.label.now c.args.trees.now.items c.count_below-count.result c.len.result
    (c.count_below-count.ensures ∙ ap (λ (z : List Node). count_below c.args.label.now (reverse z)) c.as_slice.ensures.value)
    (c.len.ensures ∙ sym c.as_slice.ensures.len ∙ ap length c.as_slice.ensures.value)

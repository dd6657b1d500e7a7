-- The shortest list, and what follows from its length.
use Rattle.std.proofs.Common.{inl, ◌≡◌, ℕ, zero, suc, ◌+◌, ◌*◌, ◌-◌, ◌<◌, ◌≤◌, Bool, false, cond, List, [], ◌∷◌, refl, ap, subst, ◌∙◌, get_or, length, arith, eqb}
use Rattle.mm_label.specs.Fronts.{Label, Within, Meets}
use Rattle.mm_lists.specs.Full.{Deepest, Word}
use Rattle.mm_tree.specs.Trees.{Trees}
use Rattle.mm_tree.specs.Search.{Worded, list_of, lists_of, slca}
use Rattle.mm_lists.specs.Formed.{WellFormed}
use Rattle.mm_lists.specs.Shortest.{least, IsShortest}
use Rattle.mm_slca.specs.Bound.{cost_of}
use Rattle.mm_lists.specs.Facts.Deepest.{one_list}
use Rattle.mm_slca.proofs.Smallest.{slca_deepest}
use Rattle.mm_lists.specs.Facts.Listed.{full_at}
use Rattle.mm_lists.specs.Facts.Shortest.{length_lists, least_is, cost_from, no_zero}

-- whatever the lists are, each may be counted
pub cost_counts : (qs : List Word) (forest : Trees Worded) → length qs ≤ cost_of (lists_of qs forest)
cost_counts qs forest =
    let ls = lists_of qs forest in
    subst (λ (n : ℕ). n ≤ cost_of ls) (length_lists qs forest) (cost_from (eqb (least ls) 0) (length ls) (2 * (length ls - 1) * least ls + 1) (least ls))

pub cost_full : (qs : List Word) (forest : Trees Worded) (at size : ℕ) → at < length qs → IsShortest qs forest at size → 0 < size
    → cost_of (lists_of qs forest) ≡ length qs + (2 * (length qs - 1) * size + 1) + size
cost_full qs forest at size h s pos =
    let ls = lists_of qs forest in
    let e = least_is qs forest at size h s in
    let z : eqb (least ls) 0 ≡ false = no_zero (least ls) (omega arith) in
    ap (λ (b : Bool). cond b (length ls) (length ls + (2 * (length ls - 1) * least ls + 1) + least ls)) z
    ∙ (ap (λ (n : ℕ). length ls + (2 * (length ls - 1) * n + 1) + n) e
    ∙ ap (λ (k : ℕ). k + (2 * (k - 1) * size + 1) + size) (length_lists qs forest))

-- the walk's answer is the definition's
pub slca_is : (qs : List Word) (forest : Trees Worded) (r : List Label) → 0 < length qs → WellFormed [] forest → Deepest (lists_of qs forest) r → r ≡ slca qs forest
slca_is [] forest r h g d = absurd (omega arith)
slca_is (q ∷ qs) forest r h g d = one_list (lists_of (q ∷ qs) forest) r (slca (q ∷ qs) forest) d (slca_deepest q qs forest g)

none_within : (ms : List Label) → length ms ≡ 0 → (x : Label) → Meets x ms → ⊥
none_within [] e x m = m
none_within (y ∷ ms) e x m = absurd (omega arith)

nothing_is : (r : List Label) → ((u : Label) → Within u r → ⊥) → [] ≡ r
nothing_is [] f = refl
nothing_is (u ∷ r) f = absurd (f u (inl refl))

-- where a list is empty there is no answer
pub slca_none : (qs : List Word) (forest : Trees Worded) (at : ℕ) → at < length qs → IsShortest qs forest at 0 → WellFormed [] forest → [] ≡ slca qs forest
slca_none [] forest at h s g = absurd (omega arith)
slca_none (q ∷ qs) forest at h s g =
    let d = slca_deepest q qs forest g in
    nothing_is (slca (q ∷ qs) forest) (λ u w. none_within (list_of (get_or (q ∷ qs) at []) forest) s.0 u (full_at (q ∷ qs) at u forest h (d.full u w).1))

pub steps_whole : (k n : ℕ) → 0 < k → k + (2 * (k - 1) * n + 1) + n + n ≡ k + 1 + 2 * k * n
steps_whole zero n h = absurd (omega arith)
steps_whole (suc j) n h = let e : suc j - 1 ≡ j = omega arith in rw e (omega arith)

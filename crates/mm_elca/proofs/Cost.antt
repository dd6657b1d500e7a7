-- The shortest list, and what follows from its length.
use Rattle.std.proofs.Common.{◌≡◌, ℕ, zero, suc, ◌+◌, ◌*◌, ◌-◌, ◌<◌, ◌≤◌, Bool, false, cond, List, ap, subst, ◌∙◌, length, arith, eqb}
use Rattle.mm_lists.specs.Full.{Word}
use Rattle.mm_tree.specs.Trees.{Trees}
use Rattle.mm_tree.specs.Search.{Worded, lists_of}
use Rattle.mm_lists.specs.Shortest.{IsShortest, least}
use Rattle.mm_lists.specs.Facts.Shortest.{length_lists, least_is, cost_from, no_zero}
use Rattle.mm_elca.specs.Bound.{cost_of}

-- ---- the bound

pub cost_counts : (qs : List Word) (forest : Trees Worded) → length qs ≤ cost_of (lists_of qs forest)
cost_counts qs forest =
    let ls = lists_of qs forest in
    subst (λ (n : ℕ). n ≤ cost_of ls) (length_lists qs forest) (cost_from (eqb (least ls) 0) (length ls) ((4 * length ls - 2) * least ls + 1) (least ls))

pub cost_full : (qs : List Word) (forest : Trees Worded) (at size : ℕ) → at < length qs → IsShortest qs forest at size → 0 < size
    → cost_of (lists_of qs forest) ≡ length qs + ((4 * length qs - 2) * size + 1) + size
cost_full qs forest at size h s pos =
    let ls = lists_of qs forest in
    let e = least_is qs forest at size h s in
    let z : eqb (least ls) 0 ≡ false = no_zero (least ls) (omega arith) in
    ap (λ (b : Bool). cond b (length ls) (length ls + ((4 * length ls - 2) * least ls + 1) + least ls)) z
    ∙ (ap (λ (n : ℕ). length ls + ((4 * length ls - 2) * n + 1) + n) e
    ∙ ap (λ (k : ℕ). k + ((4 * k - 2) * size + 1) + size) (length_lists qs forest))

pub steps_whole : (k n : ℕ) → 0 < k → k + ((4 * k - 2) * n + 1) + n + n ≡ k + 1 + 4 * k * n
steps_whole zero n h = absurd (omega arith)
steps_whole (suc k) n h =
    let e : 4 * suc k - 2 ≡ 4 * k + 2 = omega arith in
    rw e (omega arith)

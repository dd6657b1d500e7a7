use Rattle.std.proofs.Common.{◌≡◌, ◌++◌, ◌∷◌, [], ◌≤◌, ap, ap₂, sym, ◌∙◌, of_z, to_z, w64, rules, pos, get_or, take, drop, length, ◌-◌}
use Rattle.std.proofs.lemmas.Int.{to_z-of_z}
use Rattle.mm_label.specs.Between.{apart}
use Rattle.mm_label.proofs.Pushing.{cut_first, parted, shared_on}
use Rattle.mm_label.proofs.gap.inside.Goals as goal

pub returns-then-a-b : goal.returns-then-a-b
returns-then-a-b c =
    let cs = c.loop-left.left.now in
    let ds = c.loop-left.right.now in
    let l : 1 ≤ length cs = c.in-len1-up.len_at_least in
    let r : 1 ≤ length ds = c.in-len1-up-right.len_at_least in
    parted cs ds (take (length cs - 1) (drop 1 cs)) (take (length ds - 1) (drop 1 ds)) c.loop-left.out.items c.push_both.new.out.items _ c.apart.result (get_or cs 0 (pos 0)) (get_or ds 0 (pos 0))
    (cut_first cs l) (cut_first ds r) (λ e. c.if-a-b.true (ap (of_z w64) e))
    (c.apart.ensures ∙ ap₂ (λ a b. apart a (take (length cs - 1) (drop 1 cs)) b (take (length ds - 1) (drop 1 ds))) (to_z-of_z w64 (get_or cs 0 (pos 0)) (search rules)) (to_z-of_z w64 (get_or ds 0 (pos 0)) (search rules)))
    c.in_ok-push_both.ensures
    c.loop-left.invariant.2

pub loop-left-preserved : goal.loop-left-preserved
loop-left-preserved c =
    let cs = c.loop-left.left.now in
    let ds = c.loop-left.right.now in
    let l : 1 ≤ length cs = c.in-len1-up.len_at_least in
    let r : 1 ≤ length ds = c.in-len1-up-right.len_at_least in
    let a : to_z w64 (of_z w64 (get_or cs 0 (pos 0))) ≡ get_or cs 0 (pos 0) = to_z-of_z w64 (get_or cs 0 (pos 0)) (search rules) in
    let b : to_z w64 (of_z w64 (get_or ds 0 (pos 0))) ≡ get_or ds 0 (pos 0) = to_z-of_z w64 (get_or ds 0 (pos 0)) (search rules) in
    shared_on cs ds (take (length cs - 1) (drop 1 cs)) (take (length ds - 1) (drop 1 ds)) c.loop-left.out.items c.push.new.self.items _ (get_or cs 0 (pos 0)) (get_or ds 0 (pos 0))
    (cut_first cs l) (cut_first ds r) (sym a ∙ ap (to_z w64) c.if-a-b.false ∙ b)
    (c.in_ok-push.ensures.items ∙ ap (λ z. c.loop-left.out.items ++ z ∷ []) a)
    c.loop-left.invariant

use Rattle.std.proofs.Common.{arith, ap, ◌≡◌, ◌∙◌, sym, subst, length, List}
use Rattle.mm_tree.specs.Search.{lists_of, worded}
use Rattle.mm_label.specs.Fronts.{Label}
use Rattle.mm_elca.specs.Inside.Children.{AreBelow, AreChildren, AreChildrenTo}
use Rattle.mm_elca.specs.Inside.Clear.{HaveClear}
use Rattle.mm_elca.proofs.Judging.{step_below, step_children, step_stack, step_done}
use Rattle.mm_elca.proofs.Stacking.{snoc_length, cost_step}
use Rattle.mm_elca.proofs.search.judge.Goals as goal

pub returns-clause-stack : goal.returns-clause-stack
returns-clause-stack g c = λ f passed r s.
    step_stack (lists_of c.args.words.now (worded f)) c.args.x passed c.args.held.now.stack c.take_below.new.stack c.in_ok-under.under c.push.new.self r s (c.in_ok-under.ensures.parted s.falling) c.in_ok-under.ensures.off c.in_ok-push.ensures.ok

pub returns-clause-done : goal.returns-clause-done
returns-clause-done g c = λ f passed w r s j.
    let all = lists_of c.args.words.now (worded f) in
    let x = c.args.x in
    let u = c.in_ok-under.under in
    let was = c.args.held.now.stack in
    let p = c.in_ok-under.ensures.parted s.falling in
    let e : c.as_slice.result.now ≡ u = c.as_slice.ensures in
    let d : c.as_slice-2.result.now ≡ c.in_ok-kids.kids = c.as_slice-2.ensures in
    let b : AreBelow x u = step_below all x passed was c.take_below.new.stack u r s p c.in_ok-under.ensures.off in
    let k : AreChildrenTo x u c.in_ok-kids.kids = subst (λ (v : List Label). AreChildrenTo x v c.in_ok-kids.kids) e (c.in_ok-kids.ensures.value r.here.0 (subst (AreBelow x) (sym e) b)) in
    let a : AreChildren x c.in_ok-kids.kids = step_children x was c.take_below.new.stack u c.in_ok-kids.kids p k in
    let t : HaveClear all x c.in_ok-kids.kids c.in_ok-owns.owns =
    subst (λ (v : List Label). HaveClear all x v c.in_ok-owns.owns) d (c.in_ok-owns.ensures.value f w (subst (AreChildren x) (sym d) a)) in
    step_done all x passed was c.take_below.new.stack u c.in_ok-kids.kids c.args.held.now.done c.note.new.done c.in_ok-owns.owns r s p c.in_ok-under.ensures.off k j t c.in_ok-note.ensures

pub returns-clause-cost : goal.returns-clause-cost
returns-clause-cost g c =
    let e : length c.as_slice-2.result.now ≡ length c.in_ok-under.under = ap length c.as_slice-2.ensures ∙ (c.in_ok-kids.ensures.count ∙ ap length c.as_slice.ensures) in
    cost_step (length c.args.words.now) _ _ _ _ _ _ (omega (arith, c.in_ok-under.ensures.count, snoc_length _ _ _ c.in_ok-push.ensures.ok)) e c.in_ok-owns.ensures.cost

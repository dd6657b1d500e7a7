use Rattle.std.proofs.Common.{◌∙◌, ◌+◌, ◌++◌, ◌∷◌, [], List, sym, subst, take, arith}
use Rattle.mm_label.specs.Fronts.{Label}
use Rattle.mm_elca.specs.Inside.Children.{AreChildrenTo}
use Rattle.mm_elca.proofs.Clearing.{children_more, one_more, within_got}
use Rattle.mm_elca.proofs.Stacking.{snoc_length}
use Rattle.mm_elca.proofs.children.children_to.Goals as goal

pub loop-t-preserved : goal.loop-t-preserved
loop-t-preserved c = record {
  value = λ w b.
      let x = c.args.x.now in
      let ts = c.args.under.now in
      let i = c.loop-t.t-index in
      let t = c.t-item.result in
      let k = c.in_ok-child_to.field-0 in
      let h = b t (within_got t ts i c.loop-t-test.true c.t-item.is) in
      subst (AreChildrenTo x (take (i + 1) ts)) (sym c.in_ok-push.ensures.ok)
      (subst (λ (us : List Label). AreChildrenTo x us (c.loop-t.kids ++ k ∷ [])) (one_more t ts i c.loop-t-test.true c.t-item.is)
      (children_more x t k (take i ts) c.loop-t.kids (c.loop-t.invariant.value w b) (c.in_ok-child_to.ensures.child w h.0 h.1 h.2) (c.in_ok-child_to.ensures.above w h.0 h.1 h.2)));
  count = snoc_length _ _ _ c.in_ok-push.ensures.ok ∙ omega (arith, c.loop-t.invariant.count);
}

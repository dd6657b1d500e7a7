use Rattle.std.proofs.Common.{sym}
use Rattle.mm_lists.proofs.Kids.{between_first, between_up, between_end, between_top, parent_is, top_is}
use Rattle.mm_label.specs.Facts.Order.{same_label, other_label}
use Rattle.mm_lists.proofs.children.child_to.Goals as goal

pub loop-kid-init : goal.loop-kid-init
loop-kid-init c = λ v w f n. between_first _ _ _ c.in_ok-kid.ensures w f n

pub loop-kid-preserved : goal.loop-kid-preserved
loop-kid-preserved c = λ v w f n.
    between_up _ _ c.loop-kid.kid c.in-Some.up v (c.loop-kid.invariant v w f n) (parent_is _ _ _ c.in_ok-up.ensures c.in-Some.is) (other_label _ _ (sym c.if-eq.ensures))

pub returns-then-eq-clause-child : goal.returns-then-eq-clause-child
returns-then-eq-clause-child c = λ v w f n.
    between_end _ c.loop-kid.kid c.in-Some.up (parent_is _ _ _ c.in_ok-up.ensures c.in-Some.is) (same_label _ _ (sym c.if-eq.ensures))

pub returns-clause-child : goal.returns-clause-child
returns-clause-child c = λ v w f n. between_top _ _ c.loop-kid.kid v (c.loop-kid.invariant v w f n) (top_is c.in_ok-up.field-0 c.loop-kid.kid c.in_ok-up.ensures c.in_default.is)

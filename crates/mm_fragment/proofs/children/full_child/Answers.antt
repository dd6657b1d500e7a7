use Rattle.std.proofs.Common.{sym, subst, refl}
use Rattle.mm_label.specs.Fronts.{Label, Front}
use Rattle.mm_fragment.specs.Matching.{Reaches}
use Rattle.mm_label.specs.Facts.Fronts.{front_antisym}
use Rattle.mm_label.specs.Facts.Order.{other_label, same_label}
use Rattle.mm_label.specs.Facts.Children.{same_child}
use Rattle.mm_fragment.proofs.children.full_child.Goals as goal

pub returns-then-eq : goal.returns-then-eq
returns-then-eq c = λ a wx wt f k h g r.
    h.longer (front_antisym k c.args.root.now.label.now (subst (Front k) (same_label c.args.t.now c.args.root.now.label.now (sym c.if-eq.ensures)) g) h.below)

pub returns-then-reaches : goal.returns-then-reaches
returns-then-reaches c = λ a wx wt f.
    let n = other_label c.args.t.now c.args.root.now.label.now (sym c.if-eq.ensures) in
    (c.in_ok-kid.ensures.child wx wt f n, c.in_ok-kid.ensures.above wx wt f n, (c.if-reaches.ensures a).0 refl)

pub returns-else-reaches : goal.returns-else-reaches
returns-else-reaches c = λ a wx wt f k h g r.
    let n = other_label c.args.t.now c.args.root.now.label.now (sym c.if-eq.ensures) in
    let e = same_child c.args.root.now.label.now c.args.t.now k c.in_ok-kid.kid h g (c.in_ok-kid.ensures.child wx wt f n) (c.in_ok-kid.ensures.above wx wt f n) in
    let t = (c.if-reaches.ensures a).1 (subst (λ (z : Label). Reaches z c.args.root.now.answers.now) e r) in
    absurd cc

use Rattle.std.proofs.Common.{sym, subst, ◌∙◌}
use Rattle.std.specs.Prelude.{ℤ, List, None, Option, IfSome}
use Rattle.mm_label.specs.Fronts.{IsChild}
use Rattle.mm_label.specs.Refusals.{front_of}
use Rattle.mm_edit.specs.Inside.Placing.{BlamesHeld}
use Rattle.mm_edit.proofs.Numbers.{err_told}
use Rattle.mm_edit.proofs.Siting.{gap_first, open_first, up_blames}
use Rattle.mm_edit.proofs.sites.first.Goals as goal

pub returns-clause-gap : goal.returns-clause-gap
returns-clause-gap g c = λ f s h.
    sym (gap_first c.byte_order.ensures c.ancestry.ensures c.args.target.now f (g.K.Keeper.seen c.args.keeper.now).now c.as_slice.result.now c.in_ok-right.right s.1 h
    s.2 (g.met.K.Keeper.sorted c.args.keeper.now c.requires s.0) (c.as_slice.ensures.value ∙ c.in_ok-key.ensures) (c.in_ok-right.ensures.finds s.0)
    ∙ (λ i. record { parent = front_of (sym c.in_ok-parent.ensures.value i); left = None; right = c.in_ok-right.right }))

pub returns-clause-open : goal.returns-clause-open
returns-clause-open g c =
    let h = subst (λ (z : Option (List ℤ)). IfSome c.in_ok-right.right (IsChild (front_of z))) (sym c.in_ok-parent.ensures.value) c.in_ok-right.ensures.child in
    open_first (front_of c.in_ok-parent.parent) c.in_ok-right.right c.in_ok-parent.ensures.ends h

pub returns-in_err-right-clause-damaged : goal.returns-in_err-right-clause-damaged
returns-in_err-right-clause-damaged g c = λ maps.
    let m = (g.K.Keeper.seen c.args.keeper.now).now in
    let blamed = up_blames m c.as_slice.result.now c.in_err-right.field-0.0 (g.met.K.Keeper.sorted c.args.keeper.now c.requires maps).rises (c.in_err-right.ensures.damaged maps) in
    err_told c.from_residual-in_err-right.result c.from_residual-in_err-right.ensures.1 (λ h q. subst (BlamesHeld m) (sym q) blamed)

use Rattle.std.proofs.Common.{sym, subst, ◌∙◌}
use Rattle.std.specs.Prelude.{ℤ, List, None, Option, IfSome, option_map}
use Rattle.mm_label.specs.Fronts.{IsChild}
use Rattle.mm_label.specs.Refusals.{front_of}
use Rattle.mm_edit.specs.Inside.Placing.{BlamesHeld}
use Rattle.mm_edit.proofs.Numbers.{err_told}
use Rattle.mm_edit.proofs.Siting.{down_blames, gap_last, gap_top, open_last}
use Rattle.mm_edit.proofs.sites.last.Goals as goal

pub returns-clause-gap : goal.returns-clause-gap
returns-clause-gap g c = λ f s h.
    sym (gap_last c.byte_order.ensures c.ancestry.ensures (front_of (option_map (λ p. p.now) c.args.parent)) f (g.K.Keeper.seen c.args.keeper.now).now c.as_slice.result.now c.in_ok-left.left s.1 h
    s.2 (g.met.K.Keeper.sorted c.args.keeper.now c.requires s.0) (c.as_slice.ensures.value ∙ c.in_ok-key.ensures) (c.in_ok-left.ensures.finds s.0)
    ∙ (λ i. record { parent = front_of (sym c.in_ok-above.ensures.value i); left = c.in_ok-left.left; right = None }))

pub returns-clause-top : goal.returns-clause-top
returns-clause-top g c = λ f s e.
    (λ i. record { parent = front_of (c.in_ok-above.ensures.value i); left = c.in_ok-left.left; right = None })
    ∙ gap_top c.byte_order.ensures c.ancestry.ensures (front_of (option_map (λ p. p.now) c.args.parent)) f (g.K.Keeper.seen c.args.keeper.now).now c.as_slice.result.now c.in_ok-left.left s.1 e
    s.2 (g.met.K.Keeper.sorted c.args.keeper.now c.requires s.0) (c.as_slice.ensures.value ∙ c.in_ok-key.ensures) (c.in_ok-left.ensures.finds s.0)

pub returns-clause-open : goal.returns-clause-open
returns-clause-open g c =
    let h = subst (λ (z : Option (List ℤ)). IfSome c.in_ok-left.left (IsChild (front_of z))) (sym c.in_ok-above.ensures.value) c.in_ok-left.ensures.child in
    open_last (front_of c.in_ok-above.above) c.in_ok-left.left c.in_ok-above.ensures.ends h

pub returns-in_err-left-clause-damaged : goal.returns-in_err-left-clause-damaged
returns-in_err-left-clause-damaged g c = λ maps.
    let m = (g.K.Keeper.seen c.args.keeper.now).now in
    let blamed = down_blames m c.as_slice.result.now c.in_err-left.field-0.0 (g.met.K.Keeper.sorted c.args.keeper.now c.requires maps).rises (c.in_err-left.ensures.damaged maps) in
    err_told c.from_residual-in_err-left.result c.from_residual-in_err-left.ensures.1 (λ h q. subst (BlamesHeld m) (sym q) blamed)

use Rattle.std.proofs.Common.{sym, subst, ◌∙◌}
use Rattle.std.specs.Prelude.{ℤ, List, Option, Some, IfSome}
use Rattle.mm_label.specs.Fronts.{IsChild}
use Rattle.mm_label.specs.Refusals.{front_of}
use Rattle.mm_image.specs.Looking.{entry_at}
use Rattle.mm_keeper.specs.Entries.{last_to}
use Rattle.mm_tree.specs.Gaps.{IsOpen}
use Rattle.mm_edit.specs.Inside.Placing.{BlamesHeld, FindsChild}
use Rattle.mm_edit.proofs.Numbers.{err_told}
use Rattle.mm_edit.proofs.Siting.{down_blames, gap_before, open_before}
use Rattle.mm_edit.proofs.sites.before.Goals as goal

pub returns-clause-gap : goal.returns-clause-gap
returns-clause-gap g c = λ f s h.
    let m = (g.K.Keeper.seen c.args.keeper.now).now in
    let x = c.args.target.now in
    let key = c.as_slice.result.now in
    let found = subst (λ (z : Option (List ℤ)). FindsChild (front_of z) (entry_at m (last_to m key)) c.in_ok-found.found) c.lent.ensures (c.in_ok-found.ensures.finds s.0) in
    sym (gap_before c.byte_order.ensures c.ancestry.ensures x (front_of c.in_ok-parent.parent) f m key c.in_ok-found.found s.1 h c.parent_of.ensures.label c.in_ok-parent.ensures.child c.in_ok-parent.ensures.whole
    s.2 (g.met.K.Keeper.sorted c.args.keeper.now c.requires s.0) (c.as_slice.ensures.value ∙ c.in_ok-key.ensures) found
    ∙ (λ i. record { parent = front_of c.in_ok-parent.parent; left = sym c.keep_before-left.ensures i; right = Some (sym c.in_ok-right.ensures i) }))

pub returns-clause-open : goal.returns-clause-open
returns-clause-open g c =
    let h = subst (λ (z : Option (List ℤ)). IfSome c.in_ok-found.found (IsChild (front_of z))) c.lent.ensures c.in_ok-found.ensures.child in
    subst IsOpen (λ i. record { parent = front_of c.in_ok-parent.parent; left = sym c.keep_before-left.ensures i; right = Some (sym c.in_ok-right.ensures i) }) (open_before (front_of c.in_ok-parent.parent) c.args.target.now c.in_ok-found.found c.in_ok-parent.ensures.ends c.in_ok-parent.ensures.child h)

pub returns-in_err-found-clause-damaged : goal.returns-in_err-found-clause-damaged
returns-in_err-found-clause-damaged g c = λ maps.
    let m = (g.K.Keeper.seen c.args.keeper.now).now in
    let blamed = down_blames m c.as_slice.result.now c.in_err-found.field-0.0 (g.met.K.Keeper.sorted c.args.keeper.now c.requires maps).rises (c.in_err-found.ensures.damaged maps) in
    err_told c.from_residual-in_err-found.result c.from_residual-in_err-found.ensures.1 (λ h q. subst (BlamesHeld m) (sym q) blamed)

use Rattle.std.proofs.Common.{◌∙◌, ◌&&◌, refl, ap, sym, Bool, None, []}
use Rattle.std.proofs.lemmas.Result.{err_from_is_err_and}
use Rattle.mm_tree.specs.Edits.{gap, is_inside}
use Rattle.mm_tree.specs.Facts.Refusals.{absent_insert, leaf_insert, placed_insert}
use Rattle.mm_edit.proofs.Targeting.{target_told, unblamed}
use Rattle.mm_edit.proofs.planting.site_for.Goals as goal

pub returns-in-None-clause-refused : goal.returns-in-None-clause-refused
returns-in-None-clause-refused g c = λ f s t.
    let x = c.args.target.now in
    let tells = target_told c.byte_order.ensures c.ancestry.ensures x f (g.K.Keeper.seen c.args.keeper.now).now s.1 (g.met.K.Keeper.sorted c.args.keeper.now c.requires s.0).rises s.2 c.as_bytes-spelled.ensures.label in
    absent_insert c.args.place x t f (tells.absent (sym (c.in_ok-is_text.ensures.told s.0) ∙ c.in-None.is))

pub returns-then-is_in_text-clause-refused : goal.returns-then-is_in_text-clause-refused
returns-then-is_in_text-clause-refused g c = λ f s t.
    let x = c.args.target.now in
    let tells = target_told c.byte_order.ensures c.ancestry.ensures x f (g.K.Keeper.seen c.args.keeper.now).now s.1 (g.met.K.Keeper.sorted c.args.keeper.now c.requires s.0).rises s.2 c.as_bytes-spelled.ensures.label in
    let told = sym (c.in_ok-is_text.ensures.told s.0) ∙ c.in-Some.is in
    leaf_insert c.args.place x t f (tells.there c.in-Some.text told) (ap (λ (b : Bool). is_inside c.args.place && b) (tells.text c.in-Some.text told) ∙ sym c.is_in_text.ensures ∙ c.if-is_in_text.true)

pub returns-in_ok-site_at-in-Some-clause-gap : goal.returns-in_ok-site_at-in-Some-clause-gap
returns-in_ok-site_at-in-Some-clause-gap g c = λ f s.
    let x = c.args.target.now in
    let ground = c.is_text.ensures.ground in
    let tells = target_told c.byte_order.ensures c.ancestry.ensures x f (g.K.Keeper.seen c.args.keeper.now).now s.1 (g.met.K.Keeper.sorted c.args.keeper.now c.requires s.0).rises s.2 c.as_bytes-spelled.ensures.label in
    let told = sym (c.in_ok-is_text.ensures.told s.0) ∙ c.in-Some.is in
    c.in_ok-site_at-in-Some.ensures.gap f (ground.maps.0 s.0, s.1, ap (λ z. z.now) (ground.same s.0) ∙ s.2) (tells.there c.in-Some.text told)

pub returns-in_ok-site_at-in-Some-clause-accepted : goal.returns-in_ok-site_at-in-Some-clause-accepted
returns-in_ok-site_at-in-Some-clause-accepted g c = λ f s t.
    let x = c.args.target.now in
    let tells = target_told c.byte_order.ensures c.ancestry.ensures x f (g.K.Keeper.seen c.args.keeper.now).now s.1 (g.met.K.Keeper.sorted c.args.keeper.now c.requires s.0).rises s.2 c.as_bytes-spelled.ensures.label in
    let told = sym (c.in_ok-is_text.ensures.told s.0) ∙ c.in-Some.is in
    placed_insert c.args.place x t f (gap c.args.place x [] None f) (tells.there c.in-Some.text told)
    (ap (λ (b : Bool). is_inside c.args.place && b) (tells.text c.in-Some.text told) ∙ sym c.is_in_text.ensures ∙ c.if-is_in_text.false) refl

pub returns-in_err-site_at-in-Some-clause-refused : goal.returns-in_err-site_at-in-Some-clause-refused
returns-in_err-site_at-in-Some-clause-refused g c = λ f s.
    let ground = c.is_text.ensures.ground in
    let fine = unblamed f (g.K.Keeper.seen c.is_text.new.keeper).now c.in_err-site_at-in-Some.field-0.0 s.1 (ap (λ z. z.now) (ground.same s.0) ∙ s.2) (c.in_err-site_at-in-Some.ensures.damaged (ground.maps.0 s.0)) in
    let p = err_from_is_err_and c.from_residual-in_err-site_at-in-Some.result c.from_residual-in_err-site_at-in-Some.ensures.1 in
    rw (p.1, p.2) (λ t. fine)

use Rattle.std.proofs.Common.{◌≡◌, ◌∙◌, ap, sym, Some, Err}
use Rattle.std.specs.Prelude.{option_map}
use Rattle.std.proofs.lemmas.Result.{err_from_is_err_and}
use Rattle.mm_label.specs.Facts.Order.{other_label, same_label}
use Rattle.mm_keeper.specs.Entries.{Entry}
use Rattle.mm_image.specs.Keys.{chunk_key}
use Rattle.mm_check.specs.Reading.{place_of}
use Rattle.mm_check.specs.Inside.Reader.{Comes, HasStepped, Steps, as_open, as_place}
use Rattle.mm_check.proofs.Parts.{placed}
use Rattle.mm_check.proofs.Stepping.{at_node, begins_after, step_grown, step_not_ended, with_node}
use Rattle.mm_check.proofs.reader.Reader.step.Goals as goal

pub go_on-requires : goal.go_on-requires
go_on-requires c =
    let s = c.in-Some-take.started in
    let spot = c.in-Some.spot in
    let at : place_of c.args.key.now ≡ Some (as_place spot) = sym c.in_ok-spot.ensures.place ∙ ap (option_map as_place) c.in-Some.is in
    ap (λ x. chunk_key x spot.number) (same_label s.label spot.label (sym c.eq.ensures ∙ c.if-eq.true)) ∙ (placed c.args.key.now (as_place spot) at).is

pub returns-then-eq-clause-steps : goal.returns-then-eq-clause-steps
returns-then-eq-clause-steps c = λ p stands comes.
    let s = c.in-Some-take.started in
    let spot = c.in-Some.spot in
    let e : Entry = (c.args.key.now, c.args.value.now) in
    let at : place_of e.0 ≡ Some (as_place spot) = sym c.in_ok-spot.ensures.place ∙ ap (option_map as_place) c.in-Some.is in
    at_node c.args.self.now p s (λ q. HasStepped q e (with_node c.args.self.now c.in_ok-go_on.field-0)) stands (sym c.in-Some-take.ensures.value)
    (λ here. step_grown c.args.self.now p.nodes (as_open s) c.in_ok-go_on.field-0 (as_place spot) e here at (same_label s.label spot.label (sym c.eq.ensures ∙ c.if-eq.true)) (placed e.0 (as_place spot) at).is c.in_ok-go_on.ensures.grows)

pub returns-in_err-end_node-clause-steps : goal.returns-in_err-end_node-clause-steps
returns-in_err-end_node-clause-steps c = λ p stands comes.
    let s = c.in-Some-take.started in
    let spot = c.in-Some.spot in
    let e : Entry = (c.args.key.now, c.args.value.now) in
    let at : place_of e.0 ≡ Some (as_place spot) = sym c.in_ok-spot.ensures.place ∙ ap (option_map as_place) c.in-Some.is in
    let told = err_from_is_err_and c.from_residual-in_err-end_node.result c.from_residual-in_err-end_node.ensures.1 in
    let stopped = c.in_err-end_node.field-0.0 in
    rw (told.1, told.2) (at_node c.args.self.now p s (λ q. Steps q e c.end_node.new.self (Err stopped)) stands (sym c.in-Some-take.ensures.value)
    (λ here. step_not_ended p.nodes (as_open s) (as_place spot) e c.end_node.new.self c.end_node.new.self stopped at (other_label s.label spot.label (sym c.eq.ensures ∙ c.if-eq.false))
    (c.in_err-end_node.ensures.ends p.nodes here.kept here.later.0 here.later.1 here.way)))

pub returns-clause-steps : goal.returns-clause-steps
returns-clause-steps c = λ p stands comes.
    let s = c.in-Some-take.started in
    let spot = c.in-Some.spot in
    let e : Entry = (c.args.key.now, c.args.value.now) in
    let at : place_of e.0 ≡ Some (as_place spot) = sym c.in_ok-spot.ensures.place ∙ ap (option_map as_place) c.in-Some.is in
    at_node c.args.self.now p s (λ q. Comes q.nodes q.node e.0 → Steps q e c.begin-2.new.self c.begin-2.result) stands (sym c.in-Some-take.ensures.value)
    (λ here follows. begins_after c.key_order.ensures.chunks c.args.self.now c.end_node.new.self c.begin-2.new.self p.nodes (as_open s) (as_place spot) e c.begin-2.result here s.sized.fits follows at
    (other_label s.label spot.label (sym c.eq.ensures ∙ c.if-eq.false)) (c.in_ok-end_node.ensures.ends p.nodes here.kept here.later.0 here.later.1 here.way) c.in_ok-end_node.ensures.nodes c.begin-2.ensures.begins)
    comes

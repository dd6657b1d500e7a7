use Rattle.std.proofs.Common.{◌≡◌, ◌∙◌, ◌+◌, ◌*◌, ap, ap₂, sym, take, drop, Some, arith}
use Rattle.mm_image.specs.Content.{piece_limit}
use Rattle.mm_image.specs.Fields.{may_stand}
use Rattle.mm_check.specs.Reading.{not_due}
use Rattle.mm_check.specs.Inside.Reader.{as_open}
use Rattle.mm_check.proofs.Judging.{wrong_all, wrong_first, wrong_later, wrong_never}
use Rattle.mm_check.proofs.pieces.first_wrong.Goals as goal

pub loop-number-init : goal.loop-number-init
loop-number-init c = wrong_all (as_open c.args.started.now)

pub returns-then-not-branch : goal.returns-then-not-branch
returns-then-not-branch c =
    let o = as_open c.args.started.now in
    let i = c.loop-number.number in
    let t = c.loop-number-test.true in
    let e = c.from-number-end.ensures in
    let front : c.front_to.result.now ≡ take (piece_limit * (i + 1)) o.content = c.front_to.ensures ∙ ap (take (piece_limit * (i + 1))) c.as_slice-content.ensures.value in
    let piece : c.piece_of.result.now ≡ take piece_limit (drop (piece_limit * i) o.content) = c.piece_of.ensures ∙ ap (λ z. take piece_limit (drop (piece_limit * i) z)) c.as_slice-content.ensures.value in
    ap Some (c.in_ok-named.ensures ∙ ap₂ (λ k v. not_due (k, v)) (c.as_slice.ensures ∙ c.in_ok-key.ensures) piece)
    ∙ wrong_first o i (o.number + 1) (omega arith) (omega (arith, t, e)) c.loop-number.invariant (sym (ap may_stand front) ∙ sym c.in_ok-may_stand.ensures ∙ c.if-not-branch.true)

pub loop-number-preserved : goal.loop-number-preserved
loop-number-preserved c =
    let o = as_open c.args.started.now in
    let i = c.loop-number.number in
    let t = c.loop-number-test.true in
    let e = c.from-number-end.ensures in
    let front : c.front_to.result.now ≡ take (piece_limit * (i + 1)) o.content = c.front_to.ensures ∙ ap (take (piece_limit * (i + 1))) c.as_slice-content.ensures.value in
    wrong_later o i (o.number + 1) (omega (arith, t, e)) c.loop-number.invariant (sym (ap may_stand front) ∙ sym c.in_ok-may_stand.ensures ∙ c.if-not-branch.false)

pub returns : goal.returns
returns c =
    let o = as_open c.args.started.now in
    let t = c.loop-number-test.false in
    let e = c.from-number-end.ensures in
    wrong_never o c.loop-number.number (o.number + 1) (omega (arith, t, e)) c.loop-number.invariant

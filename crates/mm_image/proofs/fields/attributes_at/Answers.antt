use Rattle.std.proofs.Common.{◌∷◌, ◌++◌, [], ap, ◌∙◌}
use Rattle.std.specs.Prelude.{is_some}
use Rattle.std.proofs.lemmas.Result.{err_from_is_err_and}
use Rattle.mm_tree.specs.declared.plain.Attribute.{Attribute}
use Rattle.mm_image.proofs.Getting.{going_more, going_no_name, going_no_value, going_same_name}
use Rattle.mm_image.proofs.fields.attributes_at.Goals as goal

pub returns-in_err-name : goal.returns-in_err-name
returns-in_err-name c =
    let p = err_from_is_err_and c.from_residual.result c.from_residual.ensures.1 in
    rw (p.1, p.2) (going_no_name c.in_err-name.field-0.0 c.args.count c.loop.counter c.args.bytes.now c.loop.seen c.loop.attributes c.loop.rest.now c.loop.invariant c.loop-test.true c.in_err-name.ensures)

pub returns-in-Ok-Some : goal.returns-in-Ok-Some
returns-in-Ok-Some c =
    going_same_name c.args.count c.loop.counter c.args.bytes.now c.loop.seen c.loop.attributes c.loop.rest.now c.in_ok-name.name.now c.in_ok-name.behind.now c.loop.invariant c.loop-test.true c.in-Ok-Some.field-0 c.in-Ok-Some.ensures.old (ap is_some c.in-Ok-Some.field-0-is) c.in_ok-name.ensures

pub returns-in_err-value : goal.returns-in_err-value
returns-in_err-value c =
    let p = err_from_is_err_and c.from_residual-in_err-value.result c.from_residual-in_err-value.ensures.1 in
    rw (p.1, p.2)
    (going_no_value c.in_err-value.field-0.0 c.args.count c.loop.counter c.args.bytes.now c.loop.seen c.loop.attributes c.loop.rest.now c.in_ok-name.name.now c.in_ok-name.behind.now c.loop.invariant c.loop-test.true c.in-Ok-None.field-0 c.in-Ok-None.ensures.old (ap is_some c.in-Ok-None.field-0-is) c.in_ok-name.ensures
    c.in_err-value.ensures)

pub loop-preserved : goal.loop-preserved
loop-preserved c =
    going_more c.args.count c.loop.counter c.args.bytes.now c.loop.seen c.insert.new.self c.loop.attributes c.push.new.self c.loop.rest.now c.in_ok-name.name.now c.in_ok-name.behind.now c.in_ok-value.value.now c.in_ok-value.behind.now c.loop.invariant c.loop-test.true
    c.in-Ok-None.field-0 c.in-Ok-None.ensures.old (ap is_some c.in-Ok-None.field-0-is) c.in-Ok-None.ensures.updates c.in_ok-name.ensures c.in_ok-value.ensures
    (c.in_ok-push.ensures.ok ∙ ap (λ (a : Attribute). c.loop.attributes ++ a ∷ []) c.in_ok-attribute.ensures)

use Rattle.std.proofs.Common.{[], sym, ap, ◌∙◌, List, ℕ}
use Rattle.std.proofs.lemmas.Result.{err_from_is_err_and}
use Rattle.mm_tree.specs.declared.plain.Kind.TheVariants.{Element}
use Rattle.mm_image.specs.Fields.{Right}
use Rattle.mm_image.proofs.Getting.{element_ends, element_more, element_no_attributes, element_no_count, element_no_name}
use Rattle.mm_image.proofs.fields.element_in.Goals as goal

pub returns-in_err-name : goal.returns-in_err-name
returns-in_err-name c =
    let p = err_from_is_err_and c.from_residual.result c.from_residual.ensures.1 in
    rw (p.1, p.2) (element_no_name c.in_err-name.field-0.0 c.args.bytes.now c.in_err-name.ensures)

pub returns-in_err-count : goal.returns-in_err-count
returns-in_err-count c =
    let p = err_from_is_err_and c.from_residual-in_err-count.result c.from_residual-in_err-count.ensures.1 in
    rw (p.1, p.2)
    (element_no_count c.in_err-count.field-0.0 c.args.bytes.now c.in_ok-name.name.now c.in_ok-name.rest.now c.in_ok-name.ensures c.in_err-count.ensures)

pub returns-in_err-attributes : goal.returns-in_err-attributes
returns-in_err-attributes c =
    let p = err_from_is_err_and c.from_residual-in_err-attributes.result c.from_residual-in_err-attributes.ensures.1 in
    rw (p.1, p.2)
    (element_no_attributes c.in_err-attributes.field-0.0 c.args.bytes.now c.in_ok-name.name.now c.in_ok-name.rest.now c.in_ok-count.count c.in_ok-count.rest.now c.in_ok-name.ensures c.in_ok-count.ensures c.in_err-attributes.ensures)

pub returns-then-not-is_empty : goal.returns-then-not-is_empty
returns-then-not-is_empty c =
    element_more c.args.bytes.now c.in_ok-name.name.now c.in_ok-name.rest.now c.in_ok-count.count c.in_ok-count.rest.now c.in_ok-attributes.attributes c.in_ok-attributes.rest.now c.in_ok-name.ensures c.in_ok-count.ensures c.in_ok-attributes.ensures
    (sym c.if-not-is_empty.ensures)

pub returns : goal.returns
returns c =
    element_ends c.args.bytes.now c.in_ok-name.name.now c.in_ok-name.rest.now c.in_ok-count.count c.in_ok-count.rest.now c.in_ok-attributes.attributes c.in_ok-attributes.rest.now c.in_ok-name.ensures c.in_ok-count.ensures c.in_ok-attributes.ensures
    (sym c.if-not-is_empty.ensures)
    ∙ ap (λ (z : List ℕ). Right (Element z c.in_ok-attributes.attributes) []) (sym c.in_ok-name-2.ensures)

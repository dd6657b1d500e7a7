use Rattle.std.proofs.Common.{◌∙◌}
use Rattle.std.proofs.lemmas.Result.{err_from_is_err_and}
use Rattle.mm_tree.proofs.LoadFacts.{refused_segment, refused_label}
use Rattle.mm_tree.specs.Facts.Labels.{label_fits}
use Rattle.mm_tree.proofs.forest.next_label.Goals as goal

pub returns : goal.returns
returns c =
    let e = c.in_ok-child.ensures.value ∙ c.as_slice.ensures.value in
    let f = e ∙ c.in_ok-segment.ensures.value in
    record { label = (f, rw (← f) (label_fits c.in_ok-child.field-0 c.in_ok-child.ensures.label)); lies = rw e c.in_ok-segment.ensures.lies }

pub returns-in_err-segment-clause-label : goal.returns-in_err-segment-clause-label
returns-in_err-segment-clause-label c =
    let p = err_from_is_err_and c.from_residual.result c.from_residual.ensures.1 in
    rw (p.1, p.2) (refused_segment c.in_err-segment.field-0.0 _ c.in_err-segment.ensures.refused)

pub returns-in_err-child-clause-label : goal.returns-in_err-child-clause-label
returns-in_err-child-clause-label c =
    let p = err_from_is_err_and c.from_residual-in_err-child.result c.from_residual-in_err-child.ensures.1 in
    rw (p.1, p.2, ← c.in_ok-segment.ensures.value, ← c.as_slice.ensures.value) (refused_label c.in_err-child.field-0.0 _ c.in_err-child.ensures.refused)

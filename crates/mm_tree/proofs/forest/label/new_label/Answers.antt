use Rattle.std.proofs.Common.{ap, subst, ◌∙◌, List, ◌++◌}
use Rattle.std.specs.Prelude.{ℤ}
use Rattle.std.proofs.lemmas.Result.{err_from_is_err_and}
use Rattle.mm_label.specs.Between.{LiesBetween}
use Rattle.mm_tree.specs.Edits.{left_segment, right_segment}
use Rattle.mm_tree.specs.Gaps.{gap_of}
use Rattle.mm_tree.proofs.LoadFacts.{refused_label}
use Rattle.mm_tree.proofs.OpenFacts.{refused_below}
use Rattle.mm_tree.specs.Facts.Labels.{label_fits}
use Rattle.mm_tree.proofs.forest.label.new_label.Goals as goal

pub returns : goal.returns
returns c =
    let g = gap_of c.args.opening in
    let f = c.in_ok-child.ensures.value ∙ ap (λ (s : List ℤ). g.parent ++ s) (c.as_slice.ensures.value ∙ c.in_ok-segment.ensures.value) in
    record {
      label = (f, rw (← f) (label_fits c.in_ok-child.field-0 c.in_ok-child.ensures.label));
      lies = subst (λ (s : List ℤ). LiesBetween (left_segment g) s (right_segment g)) c.in_ok-segment.ensures.value c.in_ok-segment.ensures.lies;
    }

pub returns-in_err-segment-clause-label : goal.returns-in_err-segment-clause-label
returns-in_err-segment-clause-label c =
    let p = err_from_is_err_and c.from_residual.result c.from_residual.ensures.1 in
    rw (p.1, p.2) (refused_below c.in_err-segment.field-0.0 (gap_of c.args.opening).parent _ c.in_err-segment.ensures.refused)

pub returns-in_err-child-clause-label : goal.returns-in_err-child-clause-label
returns-in_err-child-clause-label c =
    let p = err_from_is_err_and c.from_residual-in_err-child.result c.from_residual-in_err-child.ensures.1 in
    rw (p.1, p.2, ← c.in_ok-segment.ensures.value, ← c.as_slice.ensures.value) (refused_label c.in_err-child.field-0.0 _ c.in_err-child.ensures.refused)

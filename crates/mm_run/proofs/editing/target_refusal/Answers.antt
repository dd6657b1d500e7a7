use Rattle.std.proofs.Common.{ap, sym, ◌∙◌}
use Rattle.mm_tree.specs.Facts.Walks.{node_of_out}
use Rattle.mm_tree.specs.Numbering.{Labelled}
use Rattle.mm_tree.specs.Trees.{Tree}
use Rattle.mm_tree.specs.Validity.{is_element}
use Rattle.mm_run.proofs.Answered.{place_element, place_gone, place_leaf, place_outside}
use Rattle.mm_run.proofs.editing.target_refusal.Goals.{else-is_inside-via-else-is_inside, else-is_inside-via-then-is_inside+else-not-is_element}
use Rattle.mm_run.proofs.editing.target_refusal.Goals as goal

pub returns-then-not-is_element-clause-value : goal.returns-then-not-is_element-clause-value
returns-then-not-is_element-clause-value g c = λ f h. place_leaf c.args.place c.args.target.now f _ (c.in-Ok.ensures.shown f h) (sym c.is_inside.ensures ∙ c.if-is_inside.true)
    (ap (λ (t : Tree Labelled). is_element t.0.kind) (node_of_out c.in-Ok.node) ∙ (sym c.is_element.ensures ∙ c.if-not-is_element.true))

pub returns-in-Ok-clause-value : goal.returns-in-Ok-clause-value
returns-in-Ok-clause-value g c = λ f h. elim c.else-is_inside.branch [
  | else-is_inside-via-then-is_inside+else-not-is_element w ↦ place_element c.args.place c.args.target.now f _ (c.in-Ok.ensures.shown f h)
      (ap (λ (t : Tree Labelled). is_element t.0.kind) (node_of_out c.in-Ok.node) ∙ (sym w.is_element.ensures ∙ w.if-not-is_element.false))
  | else-is_inside-via-else-is_inside w ↦ place_outside c.args.place c.args.target.now f _ (c.in-Ok.ensures.shown f h) (sym c.is_inside.ensures ∙ w.if-is_inside.false)
]

pub returns-in-Err-Refused-clause-value : goal.returns-in-Err-Refused-clause-value
returns-in-Err-Refused-clause-value g c = λ f h.
    rw c.in-Err-Refused.field-0-is
    (let a = rw c.in-Err-Refused.field-0-is at (c.in-Err-Refused.ensures.absent f h) in
    place_gone c.args.place c.args.target.now f _ a.0 a.1)

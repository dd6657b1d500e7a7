use Rattle.std.proofs.Common.{inl, inr, ap, sym, ◌∙◌}
use Rattle.mm_image.proofs.Trees.{fit, fit_fails, fit_more}
use Rattle.mm_image.proofs.placing.+fit_places.Goals as goal
use Rattle.mm_image.proofs.placing.+fit_places.Goals.{then-not-fits_place-via-then-not-fits_place, then-not-fits_place-via-else-not-fits_place+then-not-fit_places}

pub returns-then-not-fits_place : goal.returns-then-not-fits_place
returns-then-not-fits_place t c =
    fit_fails c.args.nodes.now c.loop-node.node-index c.node-item.result c.loop-node.invariant c.loop-node-test.true c.node-item.is (elim c.then-not-fits_place.branch [
      | then-not-fits_place-via-then-not-fits_place w ↦ inl (sym w.if-not-fits_place.ensures)
      | then-not-fits_place-via-else-not-fits_place+then-not-fit_places w ↦ inr (sym (w.if-not-fit_places.ensures ∙ ap fit w.as_slice.ensures))
    ])

pub loop-node-preserved : goal.loop-node-preserved
loop-node-preserved t c =
    fit_more c.args.nodes.now c.loop-node.node-index c.node-item.result c.loop-node.invariant c.loop-node-test.true c.node-item.is (sym c.if-not-fits_place.ensures) (sym (c.if-not-fit_places.ensures ∙ ap fit c.as_slice.ensures))

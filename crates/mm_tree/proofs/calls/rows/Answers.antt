use Rattle.std.proofs.Common.{◌∙◌, ap, sym, Bool, List}
use Rattle.std.specs.List.{list_all}
use Rattle.mm_tree.proofs.FragmentFacts.{row_is, rows_full, rows_more}
use Rattle.mm_tree.proofs.calls.rows.Goals.{then-not-all+in_ok-push, else-not-all}
use Rattle.mm_tree.proofs.calls.rows.Goals as goal

pub loop-node-preserved : goal.loop-node-preserved
loop-node-preserved c =
    let row = row_is c.args.query.now c.node-item.result c.in_ok-row.row c.in_ok-row.ensures in
    let test = sym (ap (λ (flags : List Bool). list_all (λ flag. flag) flags) c.as_slice.ensures) ∙ sym c.all.ensures in
    elim c.if-not-all.branch [
      | then-not-all+in_ok-push w ↦
          rows_more c.args.query.now c.args.nodes.now c.loop-node.node-index c.node-item.result c.in_ok-row.row c.loop-node.rows c.if-not-all.rows _ c.loop-node-test.true c.node-item.is row
          (test ∙ w.if-not-all.true) (w.rows-is ∙ w.in_ok-push.ensures.ok) c.loop-node.invariant
      | else-not-all w ↦
          rows_full c.args.query.now c.args.nodes.now c.loop-node.node-index c.node-item.result c.in_ok-row.row c.loop-node.rows c.if-not-all.rows _ c.loop-node-test.true c.node-item.is row
          (test ∙ w.if-not-all.false) w.rows-is c.loop-node.invariant
    ]

use Rattle.std.proofs.Common.{◌∙◌, ◌++◌, ap, ap₂, sym, map, List, Bool}
use Rattle.mm_tree.specs.declared.fragment.Fragment.{Fragment}
use Rattle.mm_tree.specs.declared.node.Node.{Node}
use Rattle.mm_tree.specs.Trees.{Trees}
use Rattle.mm_tree.specs.Fragments.{Named, contributors, fragment_tree, rows_of, shown}
use Rattle.mm_tree.specs.Inside.Fragmenting.{named_node, stands_out}
use Rattle.mm_tree.proofs.FragmentFacts.{known, picked, picked_end, picked_no, picked_yes, row_is}
use Rattle.mm_tree.proofs.calls.+pick.Goals.{then-stands_out+in_ok-children+in_ok-show+in_ok-push, else-stands_out}
use Rattle.mm_tree.proofs.calls.+pick.Goals as goal

pub loop-node-init : goal.loop-node-init
loop-node-init t c =
    let query = c.args.query.now in
    let all = rows_of query (known c.args.nodes.now) in
    ap (λ (fs : List Fragment). map fragment_tree fs ++ picked query all (known c.args.nodes.now)) c.new-picked.ensures

pub loop-node-preserved : goal.loop-node-preserved
loop-node-preserved t c =
    let query = c.args.query.now in
    let nodes = c.args.nodes.now in
    let all = rows_of query (known nodes) in
    let n = c.node-item.result in
    let row = row_is query n c.in_ok-row.row c.in_ok-row.ensures in
    let test = sym (c.stands_out.ensures ∙ ap₂ (λ (rows : List (List Bool)) (own : List Bool). stands_out rows own) (c.as_slice-in-loop-node.ensures ∙ c.in_ok-rows.ensures) c.as_slice.ensures) in
    elim c.if-stands_out.branch [
      | then-stands_out+in_ok-children+in_ok-show+in_ok-push w ↦
          picked_yes query all nodes c.loop-node.node-index n c.in_ok-row.row w.in_ok-show.field-0 c.loop-node.picked c.if-stands_out.picked _ c.loop-node-test.true c.node-item.is row
          (test ∙ w.if-stands_out.true)
          (w.in_ok-show.ensures ∙ ap (λ (ts : Trees Named). (shown query (named_node n), ts))
          (w.in_ok-children.ensures ∙ ap (λ (ns : List Node). contributors query (rows_of query (known ns)) (known ns)) w.as_slice-then-stands_out.ensures))
          (w.picked-is ∙ w.in_ok-push.ensures.ok) c.loop-node.invariant
      | else-stands_out w ↦
          picked_no query all nodes c.loop-node.node-index n c.in_ok-row.row c.loop-node.picked c.if-stands_out.picked _ c.loop-node-test.true c.node-item.is row
          (test ∙ w.if-stands_out.false) w.picked-is c.loop-node.invariant
    ]

pub returns : goal.returns
returns t c = picked_end c.args.query.now (rows_of c.args.query.now (known c.args.nodes.now)) c.args.nodes.now c.loop-node.node-index c.loop-node.picked c.loop-node-test.false c.loop-node.invariant

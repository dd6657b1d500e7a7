use Rattle.mm_command.proofs.FragmentFacts.{lines_on, lines_end}
use Rattle.mm_command.proofs.fragments.+push_nodes.Goals as goal

pub loop-fragment-preserved : goal.loop-fragment-preserved
loop-fragment-preserved t c =
    lines_on c.args.fragments.now c.loop-fragment.fragment-index c.fragment-item.result c.as_slice.result.now c.loop-fragment.reply.items _ _ _ c.loop-fragment-test.true c.fragment-item.is c.as_slice.ensures
    c.in_ok-push_node.ensures c.in_ok-push_nodes.ensures c.loop-fragment.invariant

pub returns : goal.returns
returns t c = lines_end c.args.fragments.now c.loop-fragment.fragment-index _ _ c.loop-fragment-test.false c.loop-fragment.invariant

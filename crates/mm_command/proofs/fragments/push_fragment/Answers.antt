use Rattle.mm_command.proofs.FragmentFacts.{fragment_on}
use Rattle.mm_command.proofs.fragments.push_fragment.Goals as goal

pub returns : goal.returns
returns c =
    fragment_on c.args.fragment.now c.as_slice-below.result.now c.nodes_in.result c.saturating_add-nodes.result c.args.reply.now.items _ _ _ c.as_slice-below.ensures c.nodes_in.ensures c.saturating_add-nodes.ensures
    c.in_ok-push_head.ensures c.in_ok-push_node.ensures c.in_ok-push_nodes.ensures

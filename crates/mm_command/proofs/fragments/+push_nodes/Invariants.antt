use Rattle.std.proofs.Common.{◌≡◌, ◌++◌, drop}
use Rattle.std.specs.List.{flat_map}
use Rattle.mm_tree.specs.Trees.{preorder}
use Rattle.mm_tree.specs.Fragments.{fragment_trees}
use Rattle.mm_command.specs.Replies.{shown_line}
use Rattle.mm_command.proofs.fragments.+push_nodes.Given as goal

-- the lines so far, with those of the fragments to come, are all
abbrev pub invariant-loop-fragment : goal.invariant-loop-fragment
invariant-loop-fragment l = l.reply.items ++ flat_map shown_line (preorder (fragment_trees (drop l.fragment-index l.fragments))) ≡ l.initial.reply.items ++ flat_map shown_line (preorder (fragment_trees l.fragments))

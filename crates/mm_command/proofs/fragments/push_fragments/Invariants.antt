use Rattle.std.proofs.Common.{◌≡◌, ◌++◌, take, map}
use Rattle.std.specs.List.{flat_map}
use Rattle.mm_tree.specs.Fragments.{fragment_tree}
use Rattle.mm_command.specs.Replies.{fragment_text}
use Rattle.mm_command.proofs.fragments.push_fragments.Given as goal

-- the first fragments stand behind what stood there
abbrev pub invariant-loop-fragment : goal.invariant-loop-fragment
invariant-loop-fragment l = l.reply.items ≡ l.initial.reply.items ++ flat_map fragment_text (map fragment_tree (take l.fragment-index l.fragments))

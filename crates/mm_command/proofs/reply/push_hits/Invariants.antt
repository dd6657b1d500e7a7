use Rattle.std.proofs.Common.{◌≡◌, ◌++◌, take}
use Rattle.std.specs.List.{flat_map}
use Rattle.mm_command.specs.Replies.{hit_line}
use Rattle.mm_command.proofs.reply.push_hits.Given as goal

-- the lines of the first hits stand behind what stood there
abbrev pub invariant-loop-hit : goal.invariant-loop-hit
invariant-loop-hit l = l.reply.items ≡ l.initial.reply.items ++ flat_map hit_line (take l.hit-index l.hits)

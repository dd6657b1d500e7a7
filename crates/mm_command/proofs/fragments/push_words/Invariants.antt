use Rattle.std.proofs.Common.{◌≡◌, ◌++◌, take}
use Rattle.std.specs.List.{flat_map}
use Rattle.mm_command.specs.Replies.{word_after_space}
use Rattle.mm_command.proofs.fragments.push_words.Given as goal

-- the first words stand behind what stood there
abbrev pub invariant-loop-word : goal.invariant-loop-word
invariant-loop-word l = l.reply.items ≡ l.initial.reply.items ++ flat_map word_after_space (take l.word-index l.words)

use Rattle.std.proofs.Common.{◌≡◌, length, get_or, [], ap, ◌∙◌, arith}
use Rattle.mm_keeper.specs.Blocks.{joined}
use Rattle.mm_keeper.specs.Facts.Blocked.{get-any}
use Rattle.mm_keeper.specs.Facts.Changing.{remove-joined, some-all}
use Rattle.mm_keeper.proofs.sorted_map.drop_empty.Goals as goal

pub returns-then-len-eq0-clause-same : goal.returns-then-len-eq0-clause-same
returns-then-len-eq0-clause-same c =
    let bs = c.args.blocks.now.items in
    let at = c.args.at in
    let n : c.len.result ≡ length (get_or bs at []) = c.len.ensures ∙ ap length (c.index.ensures ∙ get-any bs at _ [] c.requires.at) in
    ap joined c.remove.ensures.items ∙ remove-joined bs at c.requires.at (omega arith)

pub returns-else-len-eq0-clause-some : goal.returns-else-len-eq0-clause-some
returns-else-len-eq0-clause-some c =
    let bs = c.args.blocks.now.items in
    let at = c.args.at in
    let n : c.len.result ≡ length (get_or bs at []) = c.len.ensures ∙ ap length (c.index.ensures ∙ get-any bs at _ [] c.requires.at) in
    some-all bs at c.requires.some (omega arith)

use Rattle.std.proofs.Common.{ap, ◌∙◌, ◌++◌, w64, rules, pos, get_or}
use Rattle.std.proofs.lemmas.Int.{to_z-of_z}
use Rattle.mm_label.specs.Bytes.{rank, bytes_of}
use Rattle.mm_label.proofs.Pushing.{pushed_next}
use Rattle.mm_label.proofs.spelling.push_spelled.Goals as goal

pub loop-c-preserved : goal.loop-c-preserved
loop-c-preserved c =
    let cs = c.args.components.now in let i = c.loop-c.c-index in
    pushed_next cs i c.loop-c.out.items c.push_spelling.new.out.items (c.args.out.now.items ++ bytes_of cs) c.rank.result c.loop-c-test.true
    (c.rank.ensures.value ∙ ap rank (to_z-of_z w64 (get_or cs i (pos 0)) (search rules))) c.in_ok-push_spelling.ensures c.loop-c.invariant

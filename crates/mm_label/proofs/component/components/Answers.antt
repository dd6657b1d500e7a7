use Rattle.std.proofs.Common.{ap, ◌∙◌, ◌++◌, ◌∷◌, [], w64, rules}
use Rattle.std.proofs.lemmas.Int.{to_z-of_z}
use Rattle.mm_label.proofs.Readback.{collected_more}
use Rattle.mm_label.proofs.component.components.Goals as goal

pub loop-c-preserved : goal.loop-c-preserved
loop-c-preserved c =
    collected_more c.loop-c.found.items c.push.new.self.items c.loop-c.rest.now c.in-Some.after.now c.args.bytes.now c.in-Some.c
    (c.in_ok-push.ensures.items ∙ ap (λ x. c.loop-c.found.items ++ x ∷ []) (to_z-of_z w64 c.in-Some.c (search rules))) c.in-Some.ensures c.loop-c.invariant

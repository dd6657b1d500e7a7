use Rattle.std.proofs.Common.{◌∙◌, ap, List, ℕ, Option, []}
use Rattle.std.specs.Prelude.{unwrap_or}
use Rattle.mm_match.proofs.Siblings.{put_is}
use Rattle.mm_match.proofs.pruning.put.Goals as goal

pub returns : goal.returns
returns c = put_is c.args.siblings.now c.remove.new.self c.insert.new.self c.args.parent c.unwrap_or-masks.result c.in_ok-with_mask.field-0 c.args.mask
    (c.unwrap_or-masks.ensures ∙ (ap (λ (d : List ℕ). unwrap_or c.remove.result d) c.new.ensures ∙ ap (λ (o : Option (List ℕ)). unwrap_or o []) c.remove.ensures.value))
    c.in_ok-with_mask.ensures c.remove.ensures.updates.0 c.in_ok-insert.ensures.updates.0

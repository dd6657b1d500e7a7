use Rattle.std.proofs.Common.{◌∷◌, ◌++◌, [], List, ap, ◌∙◌, ℕ}
use Rattle.mm_image.proofs.Groups.{put_begun}
use Rattle.mm_image.proofs.gathering.put_first.Goals as goal

pub returns : goal.returns
returns c =
    let one = c.in_ok-push.ensures.ok ∙ ap (λ (z : List (List ℕ)). z ++ c.args.piece ∷ []) c.new-pieces.ensures in
    put_begun c.args.groups.now c.push-2.new.self c.args.label c.args.piece c.requires.groups c.requires.label c.requires.piece
    (c.in_ok-push-2.ensures.ok ∙ ap (λ (z : List (List ℕ)). c.args.groups.now ++ record { label = c.args.label; pieces = z } ∷ []) one)

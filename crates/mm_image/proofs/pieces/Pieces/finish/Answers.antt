use Rattle.std.proofs.Common.{◌≡◌, ◌++◌, [], ◌∷◌, List, ℕ, ◌<◌, ap, sym, ◌∙◌, length, arith}
use Rattle.std.proofs.lemmas.List.{append-nil}
use Rattle.std.proofs.lemmas.Bool.Decides.{nat_tests}
use Rattle.mm_image.specs.Inside.Cutting.{join, pieces_of}
use Rattle.mm_image.proofs.PieceFacts.{cut_with_last, cut_full, no_items}
use Rattle.mm_image.proofs.pieces.Pieces.finish.Goals as goal
use Rattle.mm_image.proofs.pieces.Pieces.finish.Goals.{then-not-is_empty+in_ok-push, else-not-is_empty}

pub returns : goal.returns
returns c =
    let full = c.self.inside.full in
    let last = c.self.inside.last.items in
    let whole : join full ++ last ≡ c.args.self = c.self.view_is in
    elim c.if-not-is_empty.branch [
      | then-not-is_empty+in_ok-push w ↦
          let some : 0 < length last = grind (arith, nat_tests) in
          w.full-is ∙ (w.in_ok-push.ensures.ok ∙ (ap (λ (z : List ℕ). full ++ z ∷ []) w.from_vec.ensures
          ∙ (sym (cut_with_last full last c.self.invariant.0 some c.self.invariant.1) ∙ ap pieces_of whole)))
      | else-not-is_empty w ↦
          let none : length last ≡ 0 = grind (arith, nat_tests) in
          w.full-is ∙ (sym (cut_full full c.self.invariant.0) ∙ ap pieces_of (sym (append-nil (join full)) ∙ (ap (λ (z : List ℕ). join full ++ z) (sym (no_items last none)) ∙ whole)))
    ]

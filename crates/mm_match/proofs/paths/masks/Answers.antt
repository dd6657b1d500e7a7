use Rattle.std.proofs.Common.{◌≡◌, sym, subst, List}
use Rattle.std.specs.Prelude.{◌↔◌}
use Rattle.std.proofs.lemmas.Result.{IfOk-weaker}
use Rattle.mm_match.specs.declared.mark.Mark.{Mark}
use Rattle.mm_label.specs.Fronts.{Label, Ascends, Within}
use Rattle.mm_match.specs.Marks.{IsOnPath, labels, mask_at}
use Rattle.mm_match.proofs.Listing.{ascends, on_path, words}
use Rattle.mm_match.proofs.paths.masks.Goals as goal

pub returns-clause-ordered : goal.returns-clause-ordered
returns-clause-ordered c = IfOk-weaker c.listed.result _ _ (λ r e. subst (λ (r : List Mark). Ascends (labels r)) (sym e) (ascends c.in_ok-masks.masks c.listed.ensures.ordered)) c.listed.ensures.value

pub returns-clause-on_path : goal.returns-clause-on_path
returns-clause-on_path c = IfOk-weaker c.listed.result _ _ (λ r e.
    subst (λ (r : List Mark). (x : Label) → Within x (labels r) ↔ IsOnPath c.args.root.now c.args.matches.now x) (sym e)
    (on_path c.args.root.now c.args.matches.now c.in_ok-masks.masks c.listed.ensures.ordered c.in_ok-masks.ensures)) c.listed.ensures.value

pub returns-clause-words : goal.returns-clause-words
returns-clause-words c = IfOk-weaker c.listed.result _ _ (λ r e.
    subst (λ (r : List Mark). (m : Mark) → Within m r → m.mask ≡ mask_at m.label c.args.matches.now) (sym e)
    (words c.args.root.now c.args.matches.now c.in_ok-masks.masks c.listed.ensures.ordered c.in_ok-masks.ensures)) c.listed.ensures.value

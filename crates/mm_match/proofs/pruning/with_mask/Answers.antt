use Rattle.std.proofs.Common.{◌∙◌, ap, sym, nat_eq}
use Rattle.std.specs.List.{list_any}
use Rattle.mm_match.specs.Marks.{under}
use Rattle.mm_match.proofs.Siblings.{pushed, contained}
use Rattle.mm_match.proofs.pruning.with_mask.Goals.{then-not-contains+in_ok-push, else-not-contains}
use Rattle.mm_match.proofs.pruning.with_mask.Goals as goal

pub returns : goal.returns
returns c = λ v. elim c.if-not-contains.branch [
  | then-not-contains+in_ok-push w ↦ ap (list_any (under v)) (w.masks-is ∙ w.in_ok-push.ensures.ok) ∙ pushed v c.args.mask c.args.masks
  | else-not-contains w ↦
      ap (list_any (under v)) w.masks-is
      ∙ contained v c.args.mask c.args.masks (sym (c.contains.ensures.value ∙ ap (list_any (λ y. nat_eq y c.args.mask)) c.as_slice.ensures) ∙ w.if-not-contains.false)
]

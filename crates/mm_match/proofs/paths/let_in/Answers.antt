use Rattle.std.proofs.Common.{◌∙◌, ◌<◌, ap, sym, subst, length, Option, Some}
use Rattle.mm_label.specs.Fronts.{Label, parent, unless_empty, or_empty}
use Rattle.mm_match.specs.Marks.{at_or_below}
use Rattle.mm_match.specs.Inside.Passing.{mask_in}
use Rattle.mm_label.specs.Facts.Fronts.{front_refl, front_trans}
use Rattle.mm_label.specs.Facts.Parents.{label_some, label_whole, unless_empty_some, parent_front, parent_shorter, parent_whole}
use Rattle.mm_match.proofs.PathFacts.{Stands, so_far, starts, ends, goes_on, stands_at, shorter_at, not_empty}
use Rattle.mm_match.proofs.paths.let_in.Goals as goal

pub loop-at-init : goal.loop-at-init
loop-at-init c =
    let root = c.args.root.now in
    let label = c.args.mark.now.label in
    let e = c.at_or_below-at.ensures ∙ (ap (λ (z : Label). at_or_below root (Some z)) c.in_ok-copy.ensures ∙ ap (at_or_below root) (sym (unless_empty_some label (label_some label c.as_bytes-2.ensures.label)))) in record {
      stands = subst (Stands root label) (sym e) (stands_at root label label (label_whole label c.as_bytes-2.ensures.label) (front_refl label));
      words = λ x. let old = mask_in c.args.masks.now x in
          sym (ap (λ (at : Option Label). so_far root label at x c.args.mark.now.mask old) e ∙ starts root label x c.args.mark.now.mask old (label_some root c.as_bytes.ensures.label));
    }

pub loop-at-smaller : goal.loop-at-smaller
loop-at-smaller c =
    let root = c.args.root.now in
    let a = c.in-Some.label in
    let s = subst (Stands root c.args.mark.now.label) c.in-Some.is c.loop-at.invariant.stands in
    let e = c.at_or_below-at-in-Some.ensures ∙ ap (at_or_below root) c.in_ok-parent.ensures in
    subst (λ (at : Option Label). length (or_empty at) < length (or_empty c.loop-at.at)) (sym e)
    (subst (λ (at : Option Label). length (or_empty (at_or_below root (unless_empty (parent a)))) < length (or_empty at)) (sym c.in-Some.is)
    (shorter_at root (parent a) (length a) (parent_shorter a (not_empty root a (label_some root c.as_bytes.ensures.label) s.1))))

pub loop-at-preserved : goal.loop-at-preserved
loop-at-preserved c =
    let root = c.args.root.now in
    let label = c.args.mark.now.label in
    let words = c.args.mark.now.mask in
    let a = c.in-Some.label in
    let s = subst (Stands root label) c.in-Some.is c.loop-at.invariant.stands in
    let e = c.at_or_below-at-in-Some.ensures ∙ ap (at_or_below root) c.in_ok-parent.ensures in record {
      stands = subst (Stands root label) (sym e) (stands_at root label (parent a) (parent_whole a) (front_trans (parent a) a label (parent_front a) s.2));
      words = λ x.
          let old = mask_in c.args.masks.now x in
          let old_at = mask_in c.args.masks.now a in
          goes_on root label a x words old_at old _ _ _ (label_some root c.as_bytes.ensures.label) s (λ p. ap (mask_in c.args.masks.now) p)
          (c.loop-at.invariant.words a ∙ ap (λ (at : Option Label). so_far root label at a words old_at) c.in-Some.is)
          (c.loop-at.invariant.words x ∙ ap (λ (at : Option Label). so_far root label at x words old) c.in-Some.is)
          (c.in_ok-add.ensures x)
          ∙ ap (λ (at : Option Label). so_far root label at x words old) (sym e);
    }

pub returns : goal.returns
returns c = λ x.
    let root = c.args.root.now in
    let label = c.args.mark.now.label in
    let words = c.args.mark.now.mask in
    let old = mask_in c.args.masks.now x in
    c.loop-at.invariant.words x ∙ (ap (λ (at : Option Label). so_far root label at x words old) c.in_default.is ∙ ends root label x words old)

use Rattle.std.proofs.Common.{◌≡◌, ◌||◌, ◌∙◌, [], ap, filter, subst, sym}
use Rattle.std.specs.List.{list_any}
use Rattle.mm_label.specs.Label.{is_child}
use Rattle.mm_check.specs.Inside.Path.{AreAbove, AreBefore, AreLabels, AreNested}
use Rattle.mm_check.proofs.Paths.{filter_above, filter_before, filter_labels, filter_nested, in_front}
use Rattle.mm_check.proofs.path.takes.Goals as goal

pub returns-clause-takes : goal.returns-clause-takes
returns-clause-takes c = λ before nested labels.
    let x = c.args.label.now in
    let path = c.args.path.now in
    let left : c.as_slice.result.now ≡ filter (in_front x) path = c.as_slice.ensures ∙ c.leave.ensures nested in
    c.hangs.ensures
    (subst (λ ys. AreAbove ys x) (sym left) (filter_above x path))
    (subst (λ ys. AreBefore ys x) (sym left) (filter_before x x path before))
    (subst AreNested (sym left) (filter_nested x path nested))
    (subst AreLabels (sym left) (filter_labels x path labels))
    ∙ ap (λ ys. is_child [] x || list_any (λ y. is_child y x) ys) left

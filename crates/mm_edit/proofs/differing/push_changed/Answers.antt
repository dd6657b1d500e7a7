use Rattle.std.proofs.Common.{◌∙◌, ap, sym, subst, ◌∷◌, []}
use Rattle.std.proofs.lemmas.List.{map-append}
use Rattle.mm_image.specs.Keyed.{keyed}
use Rattle.mm_edit.specs.Plans.{AreSized}
use Rattle.mm_edit.proofs.Halving.{pair}
use Rattle.mm_edit.proofs.Telling.{sized_behind}
use Rattle.mm_edit.proofs.differing.push_changed.Goals as goal

pub returns-in_ok-push-clause-sized : goal.returns-in_ok-push-clause-sized
returns-in_ok-push-clause-sized c = λ a b.
    subst AreSized (sym (ap keyed c.in_ok-push.ensures.items ∙ map-append pair c.args.entries.now.items (c.args.entry ∷ []))) (sized_behind (keyed c.args.entries.now.items) (pair c.args.entry) a b)

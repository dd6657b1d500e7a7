use Rattle.std.proofs.Common.{◌≡◌, ◌∙◌, ap, sym, drop, ◌+◌, ◌++◌, ◌∷◌, []}
use Rattle.std.specs.Prelude.{if◌then◌else◌, not}
use Rattle.mm_list.specs.Facts.{drop_at}
use Rattle.mm_keeper.specs.Entries.{has}
use Rattle.mm_image.specs.Keyed.{keyed}
use Rattle.mm_edit.specs.Difference.{gone, keys}
use Rattle.mm_edit.proofs.Halving.{pair}
use Rattle.mm_edit.proofs.Telling.{gone_more}
use Rattle.mm_edit.proofs.differing.gone.Goals as goal
use Rattle.mm_edit.proofs.differing.gone.Goals.{then-not-has+in_ok-from_slice+in_ok-push, else-not-has}

pub loop-entry-preserved : goal.loop-entry-preserved
loop-entry-preserved c = λ s.
    let i = c.loop-entry.entry-index in
    let e = c.entry-item.result in
    let told = c.loop-entry.keys.items in
    let after = keyed c.args.after.now in
    gone_more told c.if-not-has.keys.items (keys (gone (keyed c.args.before.now) after)) (keyed (drop i c.args.before.now)) (keyed (drop (i + 1) c.args.before.now)) after (pair e) c.has.result
    (ap keyed (drop_at c.args.before.now i e c.loop-entry-test.true c.entry-item.is))
    (c.has.ensures s ∙ ap (has after) c.as_slice.ensures)
    (elim c.if-not-has.branch as (λ _. c.if-not-has.keys.items ≡ (if not c.has.result then told ++ e.key ∷ [] else told)) [
      | then-not-has+in_ok-from_slice+in_ok-push w ↦ ap (λ z. z.items) w.keys-is ∙ w.in_ok-push.ensures.items ∙ ap (λ z. told ++ z ∷ []) (w.in_ok-from_slice.ensures ∙ w.as_slice-then-not-has.ensures) ∙ sym (ap (λ b. if not b then told ++ e.key ∷ [] else told) w.if-not-has.true)
      | else-not-has w ↦ ap (λ z. z.items) w.keys-is ∙ sym (ap (λ b. if not b then told ++ e.key ∷ [] else told) w.if-not-has.false)
    ])
    (c.loop-entry.invariant s)

use Rattle.std.proofs.Common.{◌∙◌, ap, [], ◌∷◌, length}
use Rattle.std.proofs.lemmas.List.{map-append}
use Rattle.mm_image.specs.Keyed.{keyed}
use Rattle.mm_edit.proofs.Halving.{pair}
use Rattle.mm_edit.proofs.Sizes.{one_sized}
use Rattle.mm_edit.proofs.counting.push_count.Goals as goal

pub returns-in_ok-push-clause-sized : goal.returns-in_ok-push-clause-sized
returns-in_ok-push-clause-sized c = λ a.
    one_sized (keyed c.args.entries.now) (keyed c.push.new.self) c.args.word.now c.in_ok-key.key c.in_ok-value.value c.as_bytes-spelled.ensures.word c.in_ok-key.ensures
    (ap length c.in_ok-value.ensures ∙ ap length c.to_be_bytes.ensures)
    (ap keyed c.in_ok-push.ensures.ok ∙ map-append pair c.args.entries.now (record { key = c.in_ok-key.key; value = c.in_ok-value.value } ∷ []))
    a

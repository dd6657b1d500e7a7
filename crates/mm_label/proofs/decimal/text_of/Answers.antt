use Rattle.std.proofs.Common.{◌++◌, ◌-◌, ap, sym, ◌∙◌, w64, rules, pos, get_or, take, drop, length, string_bytes}
use Rattle.std.specs.Fmt.{signed_decimal}
use Rattle.std.proofs.lemmas.Int.{to_z-of_z}
use Rattle.mm_label.proofs.Pushing.{cut_first}
use Rattle.mm_label.proofs.Texts.{text_made, text_of_none}
use Rattle.mm_label.proofs.decimal.text_of.Goals as goal
use Rattle.mm_label.proofs.decimal.text_of.Goals.{in_default, in-len1-up+in_ok-push_decimal+in_ok-push_dotted}

pub returns : goal.returns
returns c =
    let cs = c.args.components.now in
    elim c.if-components-lt1.branch [
      | in_default w ↦ ap string_bytes w.text-is ∙ c.new-text.ensures.bytes ∙ sym (text_of_none cs w.in_default.len_below)
      | in-len1-up+in_ok-push_decimal+in_ok-push_dotted w ↦
          ap string_bytes w.text-is
          ∙ text_made (string_bytes c.new-text.result) (string_bytes w.push_decimal.new.out) (string_bytes w.push_dotted.new.out) (get_or cs 0 (pos 0)) (take (length cs - 1) (drop 1 cs)) cs
          c.new-text.ensures.bytes
          (w.in_ok-push_decimal.ensures ∙ ap (λ x. string_bytes c.new-text.result ++ signed_decimal x) (to_z-of_z w64 (get_or cs 0 (pos 0)) (search rules)))
          w.in_ok-push_dotted.ensures
          (cut_first cs w.in-len1-up.len_at_least)
    ]

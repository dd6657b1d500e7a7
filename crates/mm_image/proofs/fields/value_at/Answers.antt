use Rattle.std.proofs.Common.{◌≡◌, ℕ, ◌∙◌, ap, sym, Bool, List, false, true}
use Rattle.std.specs.List.{list_all}
use Rattle.std.proofs.lemmas.Result.{err_from_is_err_and}
use Rattle.std.specs.Str.{chars}
use Rattle.mm_tree.specs.Characters.{is_char}
use Rattle.mm_tree.specs.Validity.{are_chars}
use Rattle.mm_image.specs.Fields.{Right, given}
use Rattle.mm_image.proofs.Getting.{chars_no, chars_none, chars_yes, value_got, value_no_bytes, value_no_size}
use Rattle.mm_image.proofs.fields.value_at.Goals as goal
use Rattle.mm_image.proofs.fields.value_at.Goals.{in_default-via-in-Ok+else-are_chars, in_default-via-in_default}

pub returns-in_err-size : goal.returns-in_err-size
returns-in_err-size c =
    let p = err_from_is_err_and c.from_residual.result c.from_residual.ensures.1 in
    rw (p.1, p.2) (value_no_size c.in_err-size.field-0.0 c.args.bytes.now c.in_err-size.ensures)

pub returns-in_err-value : goal.returns-in_err-value
returns-in_err-value c =
    let p = err_from_is_err_and c.from_residual-in_err-value.result c.from_residual-in_err-value.ensures.1 in
    rw (p.1, p.2) (value_no_bytes c.in_err-value.field-0.0 c.args.bytes.now c.in_ok-size.size c.in_ok-size.rest.now c.in_ok-size.ensures c.in_err-value.ensures)

pub returns-in-Ok : goal.returns-in-Ok
returns-in-Ok c =
    let value = c.in_ok-value.value.now in
    let rest = c.in_ok-value.rest.now in
    let cases = c.in-Ok.ensures.cases in
    let yes : are_chars value ≡ true = chars_yes value cases.1 (ap (λ (z : List ℕ). list_all is_char (chars z)) (sym cases.0) ∙ sym c.if-are_chars.ensures) in
    value_got c.args.bytes.now c.in_ok-size.size c.in_ok-size.rest.now value rest c.in_ok-size.ensures c.in_ok-value.ensures
    ∙ ap (λ (t : Bool). given t value rest) yes
    ∙ ap (λ (z : List ℕ). Right z rest) (sym cases.0)

pub returns-in_default : goal.returns-in_default
returns-in_default c =
    let value = c.in_ok-value.value.now in
    let rest = c.in_ok-value.rest.now in
    let none_there : are_chars value ≡ false = elim c.in_default.branch [
      | in_default-via-in-Ok+else-are_chars w ↦ chars_no value (ap (λ (z : List ℕ). list_all is_char (chars z)) (sym w.in-Ok.ensures.cases.0) ∙ sym w.if-are_chars.ensures)
      | in_default-via-in_default w ↦ chars_none value w.in_default.ensures.cases.0
    ] in
    value_got c.args.bytes.now c.in_ok-size.size c.in_ok-size.rest.now value rest c.in_ok-size.ensures c.in_ok-value.ensures
    ∙ ap (λ (t : Bool). given t value rest) none_there

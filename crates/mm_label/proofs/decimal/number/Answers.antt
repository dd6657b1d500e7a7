use Rattle.std.proofs.Common.{ap, sym, ◌∙◌, subst, w64, rules, ℤ, Some}
use Rattle.std.proofs.lemmas.Int.{to_z-of_z}
use Rattle.mm_label.specs.Label.{is_in_range}
use Rattle.mm_label.specs.Inside.Numbers.{IsOnlyNumber}
use Rattle.mm_label.proofs.Texts.{read_one, read_out, read_error}
use Rattle.mm_label.proofs.decimal.number.Goals as goal

pub returns-then-is_in_range : goal.returns-then-is_in_range
returns-then-is_in_range c =
    let same = to_z-of_z w64 c.in-Ok.c (search rules) in
    subst (λ (z : ℤ). IsOnlyNumber (Some z) c.args.piece.now) (sym same)
    (read_one c.args.piece.now c.parse.result c.in-Ok.c c.parse.ensures.value.0 c.in-Ok.is (ap is_in_range (sym same) ∙ sym c.is_in_range.ensures ∙ c.if-is_in_range.true))

pub returns-else-is_in_range : goal.returns-else-is_in_range
returns-else-is_in_range c =
    let same = to_z-of_z w64 c.in-Ok.c (search rules) in
    read_out c.args.piece.now c.parse.result c.in-Ok.c c.parse.ensures.value.0 c.in-Ok.is (ap is_in_range (sym same) ∙ sym c.is_in_range.ensures ∙ c.if-is_in_range.false)

pub returns-in-Err : goal.returns-in-Err
returns-in-Err c = read_error c.args.piece.now c.parse.result c.in-Err.field-0 c.parse.ensures.value.0 c.in-Err.is

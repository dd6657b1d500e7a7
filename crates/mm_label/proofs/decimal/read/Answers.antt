use Rattle.std.proofs.Common.{ap, ◌∙◌, map}
use Rattle.mm_label.proofs.Texts.{given_reading}
use Rattle.mm_label.proofs.decimal.read.Goals as goal

pub returns : goal.returns
returns c = given_reading c.numbers.result _ c.args.text.now (ap (λ ps. map (λ piece. piece.now) ps) c.as_slice.ensures.value ∙ c.in_ok-pieces.ensures) c.numbers.ensures

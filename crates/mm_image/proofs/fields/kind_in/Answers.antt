use Rattle.std.proofs.Common.{◌∷◌, ℕ, ap, sym, ◌∙◌}
use Rattle.std.proofs.lemmas.Result.{IfOk-weaker}
use Rattle.mm_image.specs.Fields.{kind_in, kind_told}
use Rattle.mm_image.proofs.Getting.{element_standing, no_bytes, none_standing, other_standing, text_standing}
use Rattle.mm_image.proofs.fields.kind_in.Goals as goal

pub returns-in_default : goal.returns-in_default
returns-in_default c = sym (ap kind_in (no_bytes c.args.content.now c.in_default.ensures.cases) ∙ ap kind_told none_standing)

pub returns-then-mark-eq-TEXT_MARK : goal.returns-then-mark-eq-TEXT_MARK
returns-then-mark-eq-TEXT_MARK c =
    let whole = c.in-Some.ensures.cases.0 ∙ ap (λ (b : ℕ). b ∷ c.in-Some.rest.now) c.if-mark-eq-TEXT_MARK.true in
    IfOk-weaker c.text_in.result _ _ (λ k e. e ∙ sym (ap kind_in whole ∙ ap kind_told (text_standing c.in-Some.rest.now))) c.text_in.ensures

pub returns-then-mark-eq-ELEMENT_MARK : goal.returns-then-mark-eq-ELEMENT_MARK
returns-then-mark-eq-ELEMENT_MARK c =
    let whole = c.in-Some.ensures.cases.0 ∙ ap (λ (b : ℕ). b ∷ c.in-Some.rest.now) c.if-mark-eq-ELEMENT_MARK.true in
    IfOk-weaker c.element_of.result _ _ (λ k e. e ∙ sym (ap kind_in whole ∙ ap kind_told (element_standing c.in-Some.rest.now))) c.element_of.ensures

pub returns-else-mark-eq-ELEMENT_MARK : goal.returns-else-mark-eq-ELEMENT_MARK
returns-else-mark-eq-ELEMENT_MARK c =
    sym (ap kind_in c.in-Some.ensures.cases.0 ∙ ap kind_told (other_standing c.in-Some.mark.now c.in-Some.rest.now c.if-mark-eq-TEXT_MARK.false c.if-mark-eq-ELEMENT_MARK.false))

use Rattle.std.proofs.Common.{◌∷◌, ℕ, ap, sym, ◌∙◌, not}
use Rattle.std.proofs.lemmas.Result.{IfOk-weaker}
use Rattle.mm_tree.specs.declared.plain.Kind.{Kind}
use Rattle.mm_image.specs.Fields.{Field, is_wrong, may_stand}
use Rattle.mm_image.proofs.Getting.{element_standing, no_bytes, none_standing, other_standing, text_standing}
use Rattle.mm_image.proofs.fields.may_stand.Goals as goal

pub returns-in_default : goal.returns-in_default
returns-in_default c = sym (ap may_stand (no_bytes c.args.content.now c.in_default.ensures.cases) ∙ ap (λ (t : Field Kind). not (is_wrong t)) none_standing)

pub returns-then-mark-eq-TEXT_MARK : goal.returns-then-mark-eq-TEXT_MARK
returns-then-mark-eq-TEXT_MARK c =
    let whole = c.in-Some.ensures.cases.0 ∙ ap (λ (b : ℕ). b ∷ c.in-Some.rest.now) c.if-mark-eq-TEXT_MARK.true in
    sym (ap may_stand whole ∙ ap (λ (t : Field Kind). not (is_wrong t)) (text_standing c.in-Some.rest.now))

pub returns-then-mark-eq-ELEMENT_MARK : goal.returns-then-mark-eq-ELEMENT_MARK
returns-then-mark-eq-ELEMENT_MARK c =
    let whole = c.in-Some.ensures.cases.0 ∙ ap (λ (b : ℕ). b ∷ c.in-Some.rest.now) c.if-mark-eq-ELEMENT_MARK.true in
    IfOk-weaker c.may_be_element.result _ _ (λ k e. e ∙ sym (ap may_stand whole ∙ ap (λ (t : Field Kind). not (is_wrong t)) (element_standing c.in-Some.rest.now))) c.may_be_element.ensures

pub returns-else-mark-eq-ELEMENT_MARK : goal.returns-else-mark-eq-ELEMENT_MARK
returns-else-mark-eq-ELEMENT_MARK c =
    sym (ap may_stand c.in-Some.ensures.cases.0 ∙ ap (λ (t : Field Kind). not (is_wrong t)) (other_standing c.in-Some.mark.now c.in-Some.rest.now c.if-mark-eq-TEXT_MARK.false c.if-mark-eq-ELEMENT_MARK.false))

use Rattle.std.proofs.Common.{◌∙◌, ap, sym, List, ℕ, ◌∷◌, ◌++◌}
use Rattle.mm_keeper_lists.proofs.Stripped.{strip_no, strip_yes}
use Rattle.mm_keeper_lists.proofs.reading.after_word.Goals as goal

pub returns-in_default-strip_prefix : goal.returns-in_default-strip_prefix
returns-in_default-strip_prefix c = λ r e.
    strip_no c.args.key.now c.in-Some.behind.now c.as_bytes.result.now c.in-Some.first.now c.in-Some.ensures.cases.0 c.in_default-strip_prefix.ensures.cases r
    (e ∙ ap (λ (z : List ℕ). 2 ∷ z ++ (0 ∷ r)) (sym c.as_bytes.ensures.value))

pub returns : goal.returns
returns c =
    strip_yes c.args.key.now c.in-Some.behind.now c.as_bytes.result.now c.in-Some-strip_prefix.rest.now c.in-Some-split_first.bytes.now c.in-Some.first.now c.in-Some-split_first.zero.now
    c.in-Some.ensures.cases.0 c.if-first-ne2.false c.in-Some-strip_prefix.ensures.cases.0 c.in-Some-strip_prefix.ensures.cases.1 c.in-Some-split_first.ensures.cases.0 c.if-zero-ne0.false
    ∙ ap (λ (z : List ℕ). 2 ∷ z ++ (0 ∷ c.in-Some-split_first.bytes.now)) c.as_bytes.ensures.value

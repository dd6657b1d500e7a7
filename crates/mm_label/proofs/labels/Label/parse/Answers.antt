use Rattle.std.proofs.Common.{List, ℤ, ap, subst, ◌∙◌, ◌++◌, option_map}
use Rattle.mm_label.specs.Bytes.{bytes_of}
use Rattle.mm_label.specs.Text.{text_of}
use Rattle.mm_label.specs.Inside.Numbers.{IsOnlyReading}
use Rattle.mm_label.proofs.Texts.{parsed_text, pushed_components}
use Rattle.mm_label.proofs.labels.Label.parse.Goals as goal

pub returns-clause-value : goal.returns-clause-value
returns-clause-value c =
    let items = c.in-Some.components.items in
    let only = subst (λ o. IsOnlyReading (option_map (λ v. v.items) o) c.args.text.now) c.in-Some.is c.in_ok-components.ensures in
    ap text_of (pushed_components items c.new-bytes.result.items c.push_spelled.new.out.items only.0 c.new-bytes.ensures.items
    (c.in_ok-push_spelled.ensures ∙ ap (λ (zs : List ℤ). c.new-bytes.result.items ++ bytes_of zs) c.as_slice-2.ensures.value))
    ∙ parsed_text items c.as_str.result.now c.args.text.now c.ne.result (c.as_str.ensures.value ∙ c.in_ok-canonical.ensures ∙ ap (λ (zs : List ℤ). text_of zs) c.as_slice.ensures.value) c.ne.ensures c.if-ne.false

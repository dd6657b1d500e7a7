use Rattle.std.proofs.Common.{◌≡◌, ◌++◌, ap, ◌∙◌, string_bytes}
use Rattle.hex.specs.Hex.{encode_lower}
use Rattle.mm_sample.specs.Summary.{asked_lines, found_lines, summary_text}
use Rattle.mm_sample.proofs.summary.write_summary.Goals as goal

pub returns : goal.returns
unfolding summary_text
returns c =
    let whole : c.into_bytes.result.items ≡ string_bytes c.push_str.new.self = ap (λ v. v.items) c.into_bytes.ensures.value in
    let found : string_bytes c.in_ok-found.found ≡ found_lines c.args.summary.now (string_bytes c.in_ok-digest.digest) = c.in_ok-found.ensures.ok in
    let asked : string_bytes c.in_ok-text.text ≡ asked_lines c.args.seed c.args.summary.now = c.in_ok-text.ensures.ok in
    whole ∙ (c.in_ok-push_str.ensures.bytes ∙ (ap (λ t. t ++ c.as_str.result.now) asked
    ∙ ap (λ t. asked_lines c.args.seed c.args.summary.now ++ t) (c.as_str.ensures.value ∙ (found ∙ ap (λ digest. found_lines c.args.summary.now digest) (c.in_ok-digest.ensures ∙ ap encode_lower c.as_slice.ensures)))))

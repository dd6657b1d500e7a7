use Rattle.std.proofs.Common.{sym, ap, ◌∙◌, List, ℕ, ◌++◌}
use Rattle.std.specs.Prelude.{encode_utf8}
use Rattle.std.proofs.lemmas.Str.{chars_past_char}
use Rattle.mm_xml.proofs.text.first.Goals as goal

pub returns : goal.returns
returns c =
    chars_past_char c.args.text.now c.as_str.result.now c.in_ok-c.c c.utf8.text
    (sym c.chars-characters.ensures.rest ∙ c.in_ok-c.ensures.steps.0 ∙ ap (λ (r : List ℕ). encode_utf8 c.in_ok-c.c ++ r) (sym c.as_str.ensures))

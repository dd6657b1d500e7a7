use Rattle.std.proofs.Common.{◌++◌, sym, ap, ◌∙◌, ◌&&◌, Bool, List, ℕ}
use Rattle.std.specs.List.{list_all}
use Rattle.std.specs.Prelude.{encode_utf8}
use Rattle.std.specs.Str.{chars}
use Rattle.std.proofs.lemmas.Str.{chars_past_char}
use Rattle.mm_tree.specs.Characters.{is_name, is_name_char}
use Rattle.mm_tree.proofs.characters.is_name.Goals as goal

pub returns-then-is_name_start : goal.returns-then-is_name_start
returns-then-is_name_start c =
    let spelled = chars_past_char c.args.text.now c.as_str.result.now c.in-Some.c c.utf8.text
    (sym c.chars-characters.ensures.rest ∙ c.in-Some.ensures.steps.0 ∙ ap (λ (r : List ℕ). encode_utf8 c.in-Some.c ++ r) (sym c.as_str.ensures)) in
    c.are_name_chars.ensures
    ∙ sym (ap is_name spelled ∙ ap (λ (b : Bool). b && list_all is_name_char (chars c.as_str.result.now)) (sym c.is_name_start.ensures ∙ c.if-is_name_start.true))

pub returns-else-is_name_start : goal.returns-else-is_name_start
returns-else-is_name_start c =
    let spelled = chars_past_char c.args.text.now c.next.new.self.rest.now c.in-Some.c c.utf8.text (sym c.chars-characters.ensures.rest ∙ c.in-Some.ensures.steps.0) in
    c.if-is_name_start.false
    ∙ sym (ap is_name spelled ∙ ap (λ (b : Bool). b && list_all is_name_char (chars c.next.new.self.rest.now)) (sym c.is_name_start.ensures ∙ c.if-is_name_start.false))

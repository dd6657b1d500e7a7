use Rattle.std.proofs.Common.{ap, ◌∙◌, List, ℕ, Option}
use Rattle.std.specs.Str.{chars}
use Rattle.mm_xml.proofs.DoctypeFacts.{doctyped, marked_doctype}
use Rattle.mm_xml.proofs.lexeme.marked_of.Goals as goal

pub returns-in-Some-after_doctype : goal.returns-in-Some-after_doctype
returns-in-Some-after_doctype c =
    marked_doctype (chars c.args.text.now) (chars c.in_ok-rest.rest.now) c.in_default.ensures c.in_default-strip.ensures c.in_ok-rest.ensures ∙ ap (λ (o : Option (List ℕ)). doctyped o) c.in-Some-after_doctype.ensures

pub returns-in-None-after_doctype : goal.returns-in-None-after_doctype
returns-in-None-after_doctype c =
    marked_doctype (chars c.args.text.now) (chars c.in_ok-rest.rest.now) c.in_default.ensures c.in_default-strip.ensures c.in_ok-rest.ensures ∙ ap (λ (o : Option (List ℕ)). doctyped o) c.in-None-after_doctype.ensures

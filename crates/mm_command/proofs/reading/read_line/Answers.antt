use Rattle.std.proofs.Common.{List, ℕ, subst, arith, sym, ◌∙◌}
use Rattle.mm_command.specs.Lines.{line_of_text, Gives}
use Rattle.mm_command.proofs.Spaces.{is_read, is_no_text}
use Rattle.mm_command.proofs.reading.read_line.Goals as goal

pub returns-in-Err : goal.returns-in-Err
returns-in-Err c = is_no_text c.args.line.now c.without_return-text.result.now c.without_return-text.ensures c.in-Err.ensures.cases.0

pub returns-in-Ok : goal.returns-in-Ok
returns-in-Ok c =
    is_read c.args.line.now c.without_return-text.result.now c.words_line.result c.without_return-text.ensures (omega (arith, c.if-text-gt-LINE_LIMIT.false)) (sym c.are_printable.ensures ∙ c.if-not-are_printable.false)
    c.in-Ok.ensures.cases.1 (subst (λ (t : List ℕ). Gives c.words_line.result (line_of_text t)) c.in-Ok.ensures.cases.0 c.words_line.ensures)

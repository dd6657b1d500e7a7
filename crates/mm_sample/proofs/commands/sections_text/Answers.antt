use Rattle.std.proofs.Common.{◌∙◌, ap, ◌++◌, string_bytes, arith}
use Rattle.mm_sample.proofs.Pieces.{drawn_on, piece_by_piece, sections_left, all_sections}
use Rattle.mm_sample.proofs.commands.sections_text.Goals as goal

pub loop-done-preserved : goal.loop-done-preserved
loop-done-preserved c = record {
  left = piece_by_piece _ _ _ _ _ _ c.loop-done.invariant.left (sections_left 8 c.loop-done.done c.loop-done.draws.number c.section_text.new.draws.number (omega arith) c.section_text.ensures.draws) (c.in_ok-push_str.ensures.bytes ∙ ap (λ t. string_bytes c.loop-done.text ++ t) (c.as_str.ensures.value ∙ c.in_ok-section.ensures.text));
  drawn = drawn_on 4 c.loop-done.done _ c.loop-done.draws.number _ c.loop-done.invariant.drawn c.section_text.ensures.draws;
}

pub returns-clause-text : goal.returns-clause-text
returns-clause-text c = all_sections 8 c.loop-done.done c.loop-done.draws.number _ _ (omega arith) c.loop-done.invariant.left

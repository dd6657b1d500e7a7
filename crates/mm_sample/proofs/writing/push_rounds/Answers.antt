use Rattle.std.proofs.Common.{arith}
use Rattle.mm_sample.proofs.Pieces.{piece_by_piece, two_pieces, rounds_left, all_rounds}
use Rattle.mm_sample.proofs.writing.push_rounds.Goals as goal

pub loop-round-preserved : goal.loop-round-preserved
loop-round-preserved c =
    piece_by_piece _ _ _ _ _ _ c.loop-round.invariant
    (rounds_left 300 c.loop-round.round c.loop-round.draws.number c.push_change.new.draws.number c.push_search.new.draws.number (omega arith) c.in_ok-push_change.ensures.draws c.in_ok-push_search.ensures.draws)
    (two_pieces _ _ _ _ _ c.in_ok-push_change.ensures.text c.in_ok-push_search.ensures.text)

pub returns : goal.returns
returns c = all_rounds 300 c.loop-round.round c.loop-round.draws.number _ _ (omega arith) c.loop-round.invariant

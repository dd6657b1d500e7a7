use Rattle.std.proofs.Common.{ap, ◌∙◌, [], ◌∷◌, ◌++◌, w64, rules}
use Rattle.std.proofs.lemmas.Int.{to_z-of_z}
use Rattle.mm_label.proofs.Texts.{piece_more, piece_stop, pieces_all}
use Rattle.mm_label.proofs.decimal.numbers.Goals as goal

pub returns-in-None : goal.returns-in-None
returns-in-None c =
    piece_stop c.args.pieces.now c.loop-piece.piece-index (record { ref_ptr = (0, 0); now = [] }) c.loop-piece.found.items c.number.result c.loop-piece-test.true c.in-None.is c.number.ensures c.loop-piece.invariant

pub loop-piece-preserved : goal.loop-piece-preserved
loop-piece-preserved c =
    piece_more c.args.pieces.now c.loop-piece.piece-index (record { ref_ptr = (0, 0); now = [] }) c.loop-piece.found.items c.push.new.self.items c.number.result c.in-Some.c c.loop-piece-test.true c.in-Some.is c.number.ensures
    (c.in_ok-push-in-Some.ensures.items ∙ ap (λ x. c.loop-piece.found.items ++ x ∷ []) (to_z-of_z w64 c.in-Some.c (search rules))) c.loop-piece.invariant

pub returns : goal.returns
returns c = pieces_all c.args.pieces.now c.loop-piece.piece-index c.loop-piece.found.items c.loop-piece-test.false c.loop-piece.invariant

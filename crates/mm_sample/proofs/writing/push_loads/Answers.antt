use Rattle.std.proofs.Common.{◌≡◌, ◌*◌, refl, ap, ◌∙◌, arith}
use Rattle.mm_sample.specs.Draws.{after}
use Rattle.mm_sample.proofs.Pieces.{drawn_on, piece_by_piece, loads_left, all_loads}
use Rattle.mm_sample.proofs.writing.push_loads.Goals as goal

pub loop-document-init : goal.loop-document-init
unfolding after
loop-document-init c = record { left = refl; drawn = refl }

pub loop-document-preserved : goal.loop-document-preserved
loop-document-preserved c = record {
  left = piece_by_piece _ _ _ _ _ _ c.loop-document.invariant.left (loads_left 200 c.loop-document.document c.loop-document.draws.number c.push_load.new.draws.number (omega arith) c.in_ok-push_load.ensures.draws) c.in_ok-push_load.ensures.text;
  drawn = drawn_on 32 c.loop-document.document _ c.loop-document.draws.number _ c.loop-document.invariant.drawn c.in_ok-push_load.ensures.draws;
}

pub returns-clause-text : goal.returns-clause-text
returns-clause-text c = all_loads 200 c.loop-document.document c.loop-document.draws.number _ _ (omega arith) c.loop-document.invariant.left

pub returns-clause-draws : goal.returns-clause-draws
returns-clause-draws c = let all : 32 * c.loop-document.document ≡ 6400 = omega arith in c.loop-document.invariant.drawn ∙ ap (λ n. after n c.args.draws.now.number) all

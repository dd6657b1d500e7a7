use Rattle.std.proofs.Common.{[], refl}
use Rattle.std.proofs.lemmas.Result.{err_from_is_err_and}
use Rattle.mm_image.specs.Facts.Grounds.{ground_along}
use Rattle.mm_check.proofs.Concluding.{due_counts, due_words, judged_sound, none_named, same_none, tells_behind, tells_front}
use Rattle.mm_check.proofs.Passing.{differs_onward}
use Rattle.mm_check.proofs.checking.sound_nodes.Goals as goal

pub returns-in_err-expect_none_before-clause-decides : goal.returns-in_err-expect_none_before-clause-decides
returns-in_err-expect_none_before-clause-decides g c = λ maps.
    let p = err_from_is_err_and c.from_residual-in_err-expect_none_before.result c.from_residual-in_err-expect_none_before.ensures.1 in
    let x = g.K.Keeper.seen c.args.keeper.now in
    let reader = c.read_chunks.new.reader in
    let at = c.in_ok-at.at in
    let spelled = c.in_ok-at.ensures.spells maps in
    rw (p.1, p.2) (tells_front x reader at spelled (g.K.Keeper.seen c.read_chunks.new.keeper) c.in_err-expect_none_before.field-0.0 (c.read_chunks.ensures.ground.same maps) (c.in_err-expect_none_before.ensures.fronts (c.read_chunks.ensures.ground.maps.0 maps)))

pub returns-in_err-at-2-clause-decides : goal.returns-in_err-at-2-clause-decides
returns-in_err-at-2-clause-decides g c = λ maps.
    let p = err_from_is_err_and c.from_residual-in_err-at-2.result c.from_residual-in_err-at-2.ensures.1 in
    let g2 = ground_along g.K.Keeper.over g.K.Keeper.has_maps g.K.Keeper.tells g.K.Keeper.seen g.K.Keeper.written g.K.Keeper.changes g.K.Keeper.moment g.K.Keeper.left_since c.args.keeper.now c.read_chunks.new.keeper c.expect_none_before.new.keeper g.met.K.Keeper.counts_now c.read_chunks.ensures.ground c.expect_none_before.ensures.ground in
    let x = g.K.Keeper.seen c.args.keeper.now in
    let reader = c.read_chunks.new.reader in
    let at = c.in_ok-at.at in
    let spelled = c.in_ok-at.ensures.spells maps in
    let y = g.K.Keeper.seen c.expect_none_before.new.keeper in
    let front = g.K.Keeper.seen c.read_chunks.new.keeper in
    let low = c.in_ok-expect_none_before.ensures.fronts (c.read_chunks.ensures.ground.maps.0 maps) in
    let counts = due_counts x reader at spelled in
    let words = due_words x reader at spelled in
    rw (p.1, p.2) (tells_behind x reader at spelled c.contents_read_back.ensures.whole c.expect_occurrences.ensures.ordered front (c.read_chunks.ensures.ground.same maps) low y at words c.in_err-at-2.field-0.0 (g2.same maps) refl (c.in_err-at-2.ensures.differs (g2.maps.0 maps) counts))

pub returns-in_err-at-2-clause-ground : goal.returns-in_err-at-2-clause-ground
returns-in_err-at-2-clause-ground g c =
    let g2 = ground_along g.K.Keeper.over g.K.Keeper.has_maps g.K.Keeper.tells g.K.Keeper.seen g.K.Keeper.written g.K.Keeper.changes g.K.Keeper.moment g.K.Keeper.left_since c.args.keeper.now c.read_chunks.new.keeper c.expect_none_before.new.keeper g.met.K.Keeper.counts_now c.read_chunks.ensures.ground c.expect_none_before.ensures.ground in
    let g3 = ground_along g.K.Keeper.over g.K.Keeper.has_maps g.K.Keeper.tells g.K.Keeper.seen g.K.Keeper.written g.K.Keeper.changes g.K.Keeper.moment g.K.Keeper.left_since c.args.keeper.now c.expect_none_before.new.keeper c.expect_occurrences.new.keeper g.met.K.Keeper.counts_now g2 c.expect_occurrences.ensures.ground in
    g3

pub returns-in_err-at-3-clause-decides : goal.returns-in_err-at-3-clause-decides
returns-in_err-at-3-clause-decides g c = λ maps.
    let p = err_from_is_err_and c.from_residual-in_err-at-3.result c.from_residual-in_err-at-3.ensures.1 in
    let g2 = ground_along g.K.Keeper.over g.K.Keeper.has_maps g.K.Keeper.tells g.K.Keeper.seen g.K.Keeper.written g.K.Keeper.changes g.K.Keeper.moment g.K.Keeper.left_since c.args.keeper.now c.read_chunks.new.keeper c.expect_none_before.new.keeper g.met.K.Keeper.counts_now c.read_chunks.ensures.ground c.expect_none_before.ensures.ground in
    let g3 = ground_along g.K.Keeper.over g.K.Keeper.has_maps g.K.Keeper.tells g.K.Keeper.seen g.K.Keeper.written g.K.Keeper.changes g.K.Keeper.moment g.K.Keeper.left_since c.args.keeper.now c.expect_none_before.new.keeper c.expect_occurrences.new.keeper g.met.K.Keeper.counts_now g2 c.expect_occurrences.ensures.ground in
    let x = g.K.Keeper.seen c.args.keeper.now in
    let reader = c.read_chunks.new.reader in
    let at = c.in_ok-at.at in
    let spelled = c.in_ok-at.ensures.spells maps in
    let y = g.K.Keeper.seen c.expect_none_before.new.keeper in
    let front = g.K.Keeper.seen c.read_chunks.new.keeper in
    let low = c.in_ok-expect_none_before.ensures.fronts (c.read_chunks.ensures.ground.maps.0 maps) in
    let counts = due_counts x reader at spelled in
    let words = due_words x reader at spelled in
    let over = differs_onward x y at at c.in_ok-at-2.at words words words counts (g2.same maps) refl refl (c.in_ok-at-2.ensures.differs (g2.maps.0 maps) counts) in
    rw (p.1, p.2) (tells_behind x reader at spelled c.contents_read_back.ensures.whole c.expect_occurrences.ensures.ordered front (c.read_chunks.ensures.ground.same maps) low (g.K.Keeper.seen c.expect_occurrences.new.keeper) c.in_ok-at-2.at counts c.in_err-at-3.field-0.0 (g3.same maps) over (c.in_err-at-3.ensures.differs (g3.maps.0 maps) []))

pub returns-in_err-at-3-clause-ground : goal.returns-in_err-at-3-clause-ground
returns-in_err-at-3-clause-ground g c =
    let g2 = ground_along g.K.Keeper.over g.K.Keeper.has_maps g.K.Keeper.tells g.K.Keeper.seen g.K.Keeper.written g.K.Keeper.changes g.K.Keeper.moment g.K.Keeper.left_since c.args.keeper.now c.read_chunks.new.keeper c.expect_none_before.new.keeper g.met.K.Keeper.counts_now c.read_chunks.ensures.ground c.expect_none_before.ensures.ground in
    let g3 = ground_along g.K.Keeper.over g.K.Keeper.has_maps g.K.Keeper.tells g.K.Keeper.seen g.K.Keeper.written g.K.Keeper.changes g.K.Keeper.moment g.K.Keeper.left_since c.args.keeper.now c.expect_none_before.new.keeper c.expect_occurrences.new.keeper g.met.K.Keeper.counts_now g2 c.expect_occurrences.ensures.ground in
    let g4 = ground_along g.K.Keeper.over g.K.Keeper.has_maps g.K.Keeper.tells g.K.Keeper.seen g.K.Keeper.written g.K.Keeper.changes g.K.Keeper.moment g.K.Keeper.left_since c.args.keeper.now c.expect_occurrences.new.keeper c.expect_counts.new.keeper g.met.K.Keeper.counts_now g3 c.expect_counts.ensures.ground in
    g4

pub returns-in_err-expect_none-clause-decides : goal.returns-in_err-expect_none-clause-decides
returns-in_err-expect_none-clause-decides g c = λ maps.
    let p = err_from_is_err_and c.from_residual-in_err-expect_none.result c.from_residual-in_err-expect_none.ensures.1 in
    let g2 = ground_along g.K.Keeper.over g.K.Keeper.has_maps g.K.Keeper.tells g.K.Keeper.seen g.K.Keeper.written g.K.Keeper.changes g.K.Keeper.moment g.K.Keeper.left_since c.args.keeper.now c.read_chunks.new.keeper c.expect_none_before.new.keeper g.met.K.Keeper.counts_now c.read_chunks.ensures.ground c.expect_none_before.ensures.ground in
    let g3 = ground_along g.K.Keeper.over g.K.Keeper.has_maps g.K.Keeper.tells g.K.Keeper.seen g.K.Keeper.written g.K.Keeper.changes g.K.Keeper.moment g.K.Keeper.left_since c.args.keeper.now c.expect_none_before.new.keeper c.expect_occurrences.new.keeper g.met.K.Keeper.counts_now g2 c.expect_occurrences.ensures.ground in
    let g4 = ground_along g.K.Keeper.over g.K.Keeper.has_maps g.K.Keeper.tells g.K.Keeper.seen g.K.Keeper.written g.K.Keeper.changes g.K.Keeper.moment g.K.Keeper.left_since c.args.keeper.now c.expect_occurrences.new.keeper c.expect_counts.new.keeper g.met.K.Keeper.counts_now g3 c.expect_counts.ensures.ground in
    let x = g.K.Keeper.seen c.args.keeper.now in
    let reader = c.read_chunks.new.reader in
    let at = c.in_ok-at.at in
    let spelled = c.in_ok-at.ensures.spells maps in
    let y = g.K.Keeper.seen c.expect_none_before.new.keeper in
    let front = g.K.Keeper.seen c.read_chunks.new.keeper in
    let low = c.in_ok-expect_none_before.ensures.fronts (c.read_chunks.ensures.ground.maps.0 maps) in
    let counts = due_counts x reader at spelled in
    let words = due_words x reader at spelled in
    let over = differs_onward x y at at c.in_ok-at-2.at words words words counts (g2.same maps) refl refl (c.in_ok-at-2.ensures.differs (g2.maps.0 maps) counts) in
    let more = differs_onward x (g.K.Keeper.seen c.expect_occurrences.new.keeper) at c.in_ok-at-2.at c.in_ok-at-3.at words counts counts [] (g3.same maps) over refl (c.in_ok-at-3.ensures.differs (g3.maps.0 maps) []) in
    rw (p.1, p.2) (tells_behind x reader at spelled c.contents_read_back.ensures.whole c.expect_occurrences.ensures.ordered front (c.read_chunks.ensures.ground.same maps) low (g.K.Keeper.seen c.expect_counts.new.keeper) c.in_ok-at-3.at [] c.in_err-expect_none.field-0.0 (g4.same maps) more (c.in_err-expect_none.ensures.differs (g4.maps.0 maps)))

pub returns-in_err-expect_none-clause-ground : goal.returns-in_err-expect_none-clause-ground
returns-in_err-expect_none-clause-ground g c =
    let g2 = ground_along g.K.Keeper.over g.K.Keeper.has_maps g.K.Keeper.tells g.K.Keeper.seen g.K.Keeper.written g.K.Keeper.changes g.K.Keeper.moment g.K.Keeper.left_since c.args.keeper.now c.read_chunks.new.keeper c.expect_none_before.new.keeper g.met.K.Keeper.counts_now c.read_chunks.ensures.ground c.expect_none_before.ensures.ground in
    let g3 = ground_along g.K.Keeper.over g.K.Keeper.has_maps g.K.Keeper.tells g.K.Keeper.seen g.K.Keeper.written g.K.Keeper.changes g.K.Keeper.moment g.K.Keeper.left_since c.args.keeper.now c.expect_none_before.new.keeper c.expect_occurrences.new.keeper g.met.K.Keeper.counts_now g2 c.expect_occurrences.ensures.ground in
    let g4 = ground_along g.K.Keeper.over g.K.Keeper.has_maps g.K.Keeper.tells g.K.Keeper.seen g.K.Keeper.written g.K.Keeper.changes g.K.Keeper.moment g.K.Keeper.left_since c.args.keeper.now c.expect_occurrences.new.keeper c.expect_counts.new.keeper g.met.K.Keeper.counts_now g3 c.expect_counts.ensures.ground in
    let g5 = ground_along g.K.Keeper.over g.K.Keeper.has_maps g.K.Keeper.tells g.K.Keeper.seen g.K.Keeper.written g.K.Keeper.changes g.K.Keeper.moment g.K.Keeper.left_since c.args.keeper.now c.expect_counts.new.keeper c.expect_none.new.keeper g.met.K.Keeper.counts_now g4 c.expect_none.ensures.ground in
    g5

pub returns-clause-decides : goal.returns-clause-decides
returns-clause-decides g c = λ maps.
    let g2 = ground_along g.K.Keeper.over g.K.Keeper.has_maps g.K.Keeper.tells g.K.Keeper.seen g.K.Keeper.written g.K.Keeper.changes g.K.Keeper.moment g.K.Keeper.left_since c.args.keeper.now c.read_chunks.new.keeper c.expect_none_before.new.keeper g.met.K.Keeper.counts_now c.read_chunks.ensures.ground c.expect_none_before.ensures.ground in
    let g3 = ground_along g.K.Keeper.over g.K.Keeper.has_maps g.K.Keeper.tells g.K.Keeper.seen g.K.Keeper.written g.K.Keeper.changes g.K.Keeper.moment g.K.Keeper.left_since c.args.keeper.now c.expect_none_before.new.keeper c.expect_occurrences.new.keeper g.met.K.Keeper.counts_now g2 c.expect_occurrences.ensures.ground in
    let g4 = ground_along g.K.Keeper.over g.K.Keeper.has_maps g.K.Keeper.tells g.K.Keeper.seen g.K.Keeper.written g.K.Keeper.changes g.K.Keeper.moment g.K.Keeper.left_since c.args.keeper.now c.expect_occurrences.new.keeper c.expect_counts.new.keeper g.met.K.Keeper.counts_now g3 c.expect_counts.ensures.ground in
    let x = g.K.Keeper.seen c.args.keeper.now in
    let reader = c.read_chunks.new.reader in
    let at = c.in_ok-at.at in
    let spelled = c.in_ok-at.ensures.spells maps in
    let y = g.K.Keeper.seen c.expect_none_before.new.keeper in
    let front = g.K.Keeper.seen c.read_chunks.new.keeper in
    let low = c.in_ok-expect_none_before.ensures.fronts (c.read_chunks.ensures.ground.maps.0 maps) in
    let counts = due_counts x reader at spelled in
    let words = due_words x reader at spelled in
    let over = differs_onward x y at at c.in_ok-at-2.at words words words counts (g2.same maps) refl refl (c.in_ok-at-2.ensures.differs (g2.maps.0 maps) counts) in
    let more = differs_onward x (g.K.Keeper.seen c.expect_occurrences.new.keeper) at c.in_ok-at-2.at c.in_ok-at-3.at words counts counts [] (g3.same maps) over refl (c.in_ok-at-3.ensures.differs (g3.maps.0 maps) []) in
    let none = none_named x reader at spelled c.contents_read_back.ensures.whole c.expect_occurrences.ensures.ordered front (c.read_chunks.ensures.ground.same maps) low c.in_ok-at-3.at more (same_none x (g.K.Keeper.seen c.expect_counts.new.keeper) c.in_ok-at-3.at (g4.same maps) (c.in_ok-expect_none.ensures.differs (g4.maps.0 maps))) in
    judged_sound x reader at spelled c.contents_read_back.ensures.whole c.expect_occurrences.ensures.ordered front (c.read_chunks.ensures.ground.same maps) low c.key_order.ensures.chunks (g.met.K.Keeper.sorted c.args.keeper.now c.requires maps).rises none

pub returns-clause-ground : goal.returns-clause-ground
returns-clause-ground g c =
    let g2 = ground_along g.K.Keeper.over g.K.Keeper.has_maps g.K.Keeper.tells g.K.Keeper.seen g.K.Keeper.written g.K.Keeper.changes g.K.Keeper.moment g.K.Keeper.left_since c.args.keeper.now c.read_chunks.new.keeper c.expect_none_before.new.keeper g.met.K.Keeper.counts_now c.read_chunks.ensures.ground c.expect_none_before.ensures.ground in
    let g3 = ground_along g.K.Keeper.over g.K.Keeper.has_maps g.K.Keeper.tells g.K.Keeper.seen g.K.Keeper.written g.K.Keeper.changes g.K.Keeper.moment g.K.Keeper.left_since c.args.keeper.now c.expect_none_before.new.keeper c.expect_occurrences.new.keeper g.met.K.Keeper.counts_now g2 c.expect_occurrences.ensures.ground in
    let g4 = ground_along g.K.Keeper.over g.K.Keeper.has_maps g.K.Keeper.tells g.K.Keeper.seen g.K.Keeper.written g.K.Keeper.changes g.K.Keeper.moment g.K.Keeper.left_since c.args.keeper.now c.expect_occurrences.new.keeper c.expect_counts.new.keeper g.met.K.Keeper.counts_now g3 c.expect_counts.ensures.ground in
    let g5 = ground_along g.K.Keeper.over g.K.Keeper.has_maps g.K.Keeper.tells g.K.Keeper.seen g.K.Keeper.written g.K.Keeper.changes g.K.Keeper.moment g.K.Keeper.left_since c.args.keeper.now c.expect_counts.new.keeper c.expect_none.new.keeper g.met.K.Keeper.counts_now g4 c.expect_none.ensures.ground in
    g5

use Rattle.std.proofs.Common.{◌++◌, ◌∷◌, ◌∙◌, None, map, ap}
use Rattle.std.proofs.lemmas.Result.{err_from_is_err_and}
use Rattle.byteorder.specs.Endian.{big_bytes}
use Rattle.mm_check.specs.Inside.Stopping.{counted_list}
use Rattle.mm_image.specs.Facts.Grounds.{accounts_along, ground_along}
use Rattle.mm_check.proofs.Passing.{differs_onward, left_onward, count_next, stands_onward, told_onward}
use Rattle.mm_check.proofs.behind.expect_counts.Goals as goal

pub returns-in_err-at-clause-differs : goal.returns-in_err-at-clause-differs
returns-in_err-at-clause-differs g c = λ maps due.
    let p = err_from_is_err_and c.from_residual-in_err-at.result c.from_residual-in_err-at.ensures.1 in
    let x = g.K.Keeper.seen c.args.keeper.now in
    let y = g.K.Keeper.seen c.loop-word.keeper in
    let left = c.loop-word.word-iterator in
    let rest = c.next.new.self in
    let key = c.as_slice.result.now in
    let value = c.count_value-count.result in
    let more = map counted_list rest ++ due in
    rw (p.1, p.2) (told_onward x y c.args.at c.loop-word.at (map counted_list c.args.lists.now.entries ++ due) (map counted_list left ++ due) ((key, value) ∷ more) c.in_err-at.field-0.0 (c.loop-word.invariant.ground.same maps) (c.loop-word.invariant.differs maps due)
    (count_next left rest c.in-Some.word.now c.in-Some.labels.now key value due c.in-Some.ensures.steps (c.as_slice.ensures ∙ c.in_ok-key.ensures) (c.count_value-count.ensures ∙ ap (big_bytes 8) c.len.ensures)) (c.in_err-at.ensures.differs (c.loop-word.invariant.ground.maps.0 maps) more))

pub returns-in_err-at-clause-ground : goal.returns-in_err-at-clause-ground
returns-in_err-at-clause-ground g c =
    ground_along g.K.Keeper.over g.K.Keeper.has_maps g.K.Keeper.tells g.K.Keeper.seen g.K.Keeper.written g.K.Keeper.changes g.K.Keeper.moment g.K.Keeper.left_since c.args.keeper.now c.loop-word.keeper c.expect.new.keeper
    g.met.K.Keeper.counts_now c.loop-word.invariant.ground c.expect.ensures.ground

pub loop-word-preserved : goal.loop-word-preserved
loop-word-preserved g c =
    let x = g.K.Keeper.seen c.args.keeper.now in
    let y = g.K.Keeper.seen c.loop-word.keeper in
    let left = c.loop-word.word-iterator in
    let rest = c.next.new.self in
    let key = c.as_slice.result.now in
    let value = c.count_value-count.result in
    record {
      ground = ground_along g.K.Keeper.over g.K.Keeper.has_maps g.K.Keeper.tells g.K.Keeper.seen g.K.Keeper.written g.K.Keeper.changes g.K.Keeper.moment g.K.Keeper.left_since c.args.keeper.now c.loop-word.keeper c.expect.new.keeper
          g.met.K.Keeper.counts_now c.loop-word.invariant.ground c.expect.ensures.ground;
      accounts = accounts_along g.K.Keeper.over g.K.Keeper.has_maps g.K.Keeper.is_sound g.K.Keeper.is_spent g.K.Keeper.fault_count g.K.Keeper.want_count c.args.keeper.now c.loop-word.keeper c.expect.new.keeper None
          c.loop-word.invariant.accounts c.in_ok-at.ensures.accounts;
      differs = λ maps due.
          let more = map counted_list rest ++ due in
          differs_onward x y c.args.at c.loop-word.at c.in_ok-at.at (map counted_list c.args.lists.now.entries ++ due) (map counted_list left ++ due) ((key, value) ∷ more) more (c.loop-word.invariant.ground.same maps) (c.loop-word.invariant.differs maps due)
          (count_next left rest c.in-Some.word.now c.in-Some.labels.now key value due c.in-Some.ensures.steps (c.as_slice.ensures ∙ c.in_ok-key.ensures) (c.count_value-count.ensures ∙ ap (big_bytes 8) c.len.ensures)) (c.in_ok-at.ensures.differs (c.loop-word.invariant.ground.maps.0 maps) more);
      stands = λ maps. stands_onward x y c.in_ok-at.at (c.loop-word.invariant.ground.same maps) (c.in_ok-at.ensures.stands (c.loop-word.invariant.ground.maps.0 maps));
      left = λ maps. left_onward x y c.args.at c.loop-word.at c.in_ok-at.at c.args.steps.now c.loop-word.steps c.expect.new.steps (c.loop-word.invariant.ground.same maps) (c.loop-word.invariant.left maps) (c.in_ok-at.ensures.left (c.loop-word.invariant.ground.maps.0 maps));
    }

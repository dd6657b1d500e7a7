use Rattle.std.proofs.Common.{◌≡◌, ◌++◌, ◌∷◌, ◌∙◌, ℤ, List, None, ap, sym}
use Rattle.std.specs.Prelude.{flat_map}
use Rattle.std.proofs.lemmas.Result.{err_from_is_err_and}
use Rattle.mm_check.specs.Inside.Stopping.{listed}
use Rattle.mm_image.specs.Facts.Grounds.{accounts_along, ground_along}
use Rattle.mm_check.proofs.Passing.{differs_onward, left_onward, part_next, stands_onward, told_onward}
use Rattle.mm_check.proofs.behind.expect_occurrences.Goals as goal

pub returns-in_err-at-clause-differs : goal.returns-in_err-at-clause-differs
returns-in_err-at-clause-differs g c = λ maps due.
    let p = err_from_is_err_and c.from_residual.result c.from_residual.ensures.1 in
    let x = g.K.Keeper.seen c.args.keeper.now in
    let y = g.K.Keeper.seen c.loop-word.keeper in
    let left = c.loop-word.word-iterator in
    let rest = c.next.new.self in
    let word = c.in-Some.word.now in
    let labels = c.as_slice.result.now in
    let first : left ≡ (word, labels) ∷ rest = c.in-Some.ensures.steps ∙ ap (λ (l : List (List ℤ)). (word, l) ∷ rest) (sym c.as_slice.ensures) in
    let more = flat_map listed rest ++ due in
    rw (p.1, p.2) (told_onward x y c.args.at c.loop-word.at (flat_map listed c.args.lists.now.entries ++ due) (flat_map listed left ++ due) (listed (word, labels) ++ more) c.in_err-at.field-0.0 (c.loop-word.invariant.ground.same maps) (c.loop-word.invariant.differs maps due)
    (part_next listed left rest (word, labels) due first) (c.in_err-at.ensures.differs (c.loop-word.invariant.ground.maps.0 maps) more))

pub returns-in_err-at-clause-ground : goal.returns-in_err-at-clause-ground
returns-in_err-at-clause-ground g c =
    ground_along g.K.Keeper.over g.K.Keeper.has_maps g.K.Keeper.tells g.K.Keeper.seen g.K.Keeper.written g.K.Keeper.changes g.K.Keeper.moment g.K.Keeper.left_since c.args.keeper.now c.loop-word.keeper c.expect_word.new.keeper
    g.met.K.Keeper.counts_now c.loop-word.invariant.ground c.expect_word.ensures.ground

pub loop-word-preserved : goal.loop-word-preserved
loop-word-preserved g c =
    let x = g.K.Keeper.seen c.args.keeper.now in
    let y = g.K.Keeper.seen c.loop-word.keeper in
    let left = c.loop-word.word-iterator in
    let rest = c.next.new.self in
    let word = c.in-Some.word.now in
    let labels = c.as_slice.result.now in
    let first : left ≡ (word, labels) ∷ rest = c.in-Some.ensures.steps ∙ ap (λ (l : List (List ℤ)). (word, l) ∷ rest) (sym c.as_slice.ensures) in
    record {
      ground = ground_along g.K.Keeper.over g.K.Keeper.has_maps g.K.Keeper.tells g.K.Keeper.seen g.K.Keeper.written g.K.Keeper.changes g.K.Keeper.moment g.K.Keeper.left_since c.args.keeper.now c.loop-word.keeper c.expect_word.new.keeper
          g.met.K.Keeper.counts_now c.loop-word.invariant.ground c.expect_word.ensures.ground;
      accounts = accounts_along g.K.Keeper.over g.K.Keeper.has_maps g.K.Keeper.is_sound g.K.Keeper.is_spent g.K.Keeper.fault_count g.K.Keeper.want_count c.args.keeper.now c.loop-word.keeper c.expect_word.new.keeper None
          c.loop-word.invariant.accounts c.in_ok-at.ensures.accounts;
      differs = λ maps due.
          let more = flat_map listed rest ++ due in
          differs_onward x y c.args.at c.loop-word.at c.in_ok-at.at (flat_map listed c.args.lists.now.entries ++ due) (flat_map listed left ++ due) (listed (word, labels) ++ more) more (c.loop-word.invariant.ground.same maps) (c.loop-word.invariant.differs maps due)
          (part_next listed left rest (word, labels) due first) (c.in_ok-at.ensures.differs (c.loop-word.invariant.ground.maps.0 maps) more);
      stands = λ maps. stands_onward x y c.in_ok-at.at (c.loop-word.invariant.ground.same maps) (c.in_ok-at.ensures.stands (c.loop-word.invariant.ground.maps.0 maps));
      left = λ maps. left_onward x y c.args.at c.loop-word.at c.in_ok-at.at c.args.steps.now c.loop-word.steps c.expect_word.new.steps (c.loop-word.invariant.ground.same maps) (c.loop-word.invariant.left maps) (c.in_ok-at.ensures.left (c.loop-word.invariant.ground.maps.0 maps));
    }

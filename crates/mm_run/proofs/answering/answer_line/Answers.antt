use Rattle.mm_run.proofs.Carrying.{carried_told}
use Rattle.mm_run.proofs.answering.answer_line.Goals as goal

pub returns-in-Load-clause-answer : goal.returns-in-Load-clause-answer
returns-in-Load-clause-answer g c = λ f r.
    rw c.in-Load.is (carried_told g.K.Keeper.has_maps g.K.Keeper.is_sound g.K.Keeper.seen g.K.Keeper.is_spent g.K.Keeper.moment g.K.Keeper.left_since _ _ f c.args.store.now.keeper c.answer_load.new.store.keeper _ _ c.answer_load.result c.told.result c.told.ensures (c.answer_load.ensures.answer f r))

pub returns-in-Insert-clause-answer : goal.returns-in-Insert-clause-answer
returns-in-Insert-clause-answer g c = λ f r.
    rw c.in-Insert.is (carried_told g.K.Keeper.has_maps g.K.Keeper.is_sound g.K.Keeper.seen g.K.Keeper.is_spent g.K.Keeper.moment g.K.Keeper.left_since _ _ f c.args.store.now.keeper c.answer_insert.new.store.keeper _ _ c.answer_insert.result c.told-in-Insert.result c.told-in-Insert.ensures (c.answer_insert.ensures.answer f r))

pub returns-in-Delete-clause-answer : goal.returns-in-Delete-clause-answer
returns-in-Delete-clause-answer g c = λ f r.
    rw c.in-Delete.is (carried_told g.K.Keeper.has_maps g.K.Keeper.is_sound g.K.Keeper.seen g.K.Keeper.is_spent g.K.Keeper.moment g.K.Keeper.left_since _ _ f c.args.store.now.keeper c.answer_delete.new.store.keeper _ _ c.answer_delete.result c.told-in-Delete.result c.told-in-Delete.ensures (c.answer_delete.ensures.answer f r))

pub returns-in-Replace-clause-answer : goal.returns-in-Replace-clause-answer
returns-in-Replace-clause-answer g c = λ f r.
    rw c.in-Replace.is (carried_told g.K.Keeper.has_maps g.K.Keeper.is_sound g.K.Keeper.seen g.K.Keeper.is_spent g.K.Keeper.moment g.K.Keeper.left_since _ _ f c.args.store.now.keeper c.answer_replace.new.store.keeper _ _ c.answer_replace.result c.told-in-Replace.result c.told-in-Replace.ensures (c.answer_replace.ensures.answer f r))

pub returns-in-Search-clause-answer : goal.returns-in-Search-clause-answer
returns-in-Search-clause-answer g c = λ f r.
    rw c.in-Search.is (carried_told g.K.Keeper.has_maps g.K.Keeper.is_sound g.K.Keeper.seen g.K.Keeper.is_spent g.K.Keeper.moment g.K.Keeper.left_since _ _ f c.args.store.now.keeper c.answer_search.new.store.keeper _ _ c.answer_search.result c.told-in-Search.result c.told-in-Search.ensures (c.answer_search.ensures.answer f r))

pub returns-in-Show-clause-answer : goal.returns-in-Show-clause-answer
returns-in-Show-clause-answer g c = λ f r.
    rw c.in-Show.is (carried_told g.K.Keeper.has_maps g.K.Keeper.is_sound g.K.Keeper.seen g.K.Keeper.is_spent g.K.Keeper.moment g.K.Keeper.left_since _ _ f c.args.store.now.keeper c.answer_show.new.store.keeper _ _ c.answer_show.result c.told-in-Show.result c.told-in-Show.ensures (c.answer_show.ensures.answer f r))

pub returns-in-Check-clause-answer : goal.returns-in-Check-clause-answer
returns-in-Check-clause-answer g c = λ f r.
    rw c.in-Check.is (carried_told g.K.Keeper.has_maps g.K.Keeper.is_sound g.K.Keeper.seen g.K.Keeper.is_spent g.K.Keeper.moment g.K.Keeper.left_since _ _ f c.args.store.now.keeper c.answer_check.new.store.keeper _ _ c.answer_check.result c.told-in-Check.result c.told-in-Check.ensures (c.answer_check.ensures.answer f r))

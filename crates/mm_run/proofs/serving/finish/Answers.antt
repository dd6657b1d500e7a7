use Rattle.std.proofs.Common.{◌≡◌, Err, Some, refl}
use Rattle.mm_image.specs.Image.{image}
use Rattle.mm_command.specs.Replies.{reply_text}
use Rattle.mm_run.proofs.Carrying.{moment_still}
use Rattle.mm_run.proofs.Finishing.{said_none, said_some, sink-sliced, stands_told, store_answers_if, told_only, told_slice, told_sort}
use Rattle.mm_run.proofs.serving.finish.Goals as goal

pub returns-in-None-clause-told : goal.returns-in-None-clause-told
returns-in-None-clause-told g c = λ maps. said_none (g.W.Sink.written c.args.sink.now) c.args.reply tt c.in-None.is

pub returns-in-None-clause-any_moment : goal.returns-in-None-clause-any_moment
returns-in-None-clause-any_moment g c = λ f r. moment_still g.K.Keeper.has_maps g.K.Keeper.is_sound g.K.Keeper.seen g.K.Keeper.is_spent g.K.Keeper.moment g.K.Keeper.left_since g.met.K.Keeper.only_kept c.args.store.now.keeper f (λ m. m ≡ Some (image f)) r c.args.store.now.sound c.requires.unspent refl

pub returns-in-Err-clause-any_moment : goal.returns-in-Err-clause-any_moment
returns-in-Err-clause-any_moment g c = λ f r. moment_still g.K.Keeper.has_maps g.K.Keeper.is_sound g.K.Keeper.seen g.K.Keeper.is_spent g.K.Keeper.moment g.K.Keeper.left_since g.met.K.Keeper.only_kept c.args.store.now.keeper f (λ m. m ≡ Some (image f)) r c.args.store.now.sound c.requires.unspent refl

pub returns-in-Err-clause-told : goal.returns-in-Err-clause-told
returns-in-Err-clause-told g c = λ maps. said_some (g.W.Sink.written c.args.sink.now) (g.W.Sink.written c.tell.new.sink) c.args.reply c.in-Some.reply (Err c.in-Err.status) c.in-Some.is (told_only _ _ (reply_text c.in-Some.reply) c.in-Err.status c.in-Err.ensures.told)

pub returns-in-Err-clause-stands : goal.returns-in-Err-clause-stands
returns-in-Err-clause-stands g c = stands_told g.K.Keeper.over g.K.Keeper.has_maps g.K.Keeper.is_spent g.K.Keeper.fault_count c.args.store.now.keeper _ _ (reply_text c.in-Some.reply) c.in-Err.status c.in-Err.ensures.told

pub returns-in-Err-clause-sort : goal.returns-in-Err-clause-sort
returns-in-Err-clause-sort g c = told_sort _ _ (reply_text c.in-Some.reply) c.in-Err.status c.in-Err.ensures.told

pub returns-clause-told : goal.returns-clause-told
returns-clause-told g c = λ maps. said_some (g.W.Sink.written c.args.sink.now) (g.W.Sink.written c.tell.new.sink) c.args.reply c.in-Some.reply c.slice_after.result c.in-Some.is (told_slice _ _ (reply_text c.in-Some.reply) c.slice_after.result c.in-Ok.ensures.told (c.slice_after.ensures.broke maps))

pub returns-clause-sink_faults : goal.returns-clause-sink_faults
returns-clause-sink_faults g c = sink-sliced c.slice_after.result _ _ c.slice_after.ensures.sort c.in-Ok.ensures.sink_faults

pub returns-clause-sort : goal.returns-clause-sort
returns-clause-sort g c = store_answers_if c.slice_after.result c.slice_after.ensures.sort

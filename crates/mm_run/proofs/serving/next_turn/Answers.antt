use Rattle.std.proofs.Common.{[], true, false, refl, inl, arith, ◌∙◌, sym}
use Rattle.mm_run.specs.Commands.{all_commands}
use Rattle.mm_run.specs.Inside.Input.{reach}
use Rattle.mm_run.specs.Stores.{IsLeftBy}
use Rattle.mm_run.proofs.Carrying.{moment_still}
use Rattle.mm_run.proofs.Finishing.{left_before, moment_of_next}
use Rattle.mm_run.proofs.Turns.{all-command, all-last, command_some, ends_last, ends_quit, failed, idles_of, moved_of, replied, source-still}
use Rattle.mm_run.proofs.serving.next_turn.Goals as goal

pub returns-in-Ok-End-clause-turn : goal.returns-in-Ok-End-clause-turn
returns-in-Ok-End-clause-turn g c = λ f r. (r, ends_last (rw c.in-Ok-End.field-0-is at c.in-Ok-End.ensures.next) tt refl (omega arith))

pub returns-in-Ok-Quit-clause-turn : goal.returns-in-Ok-Quit-clause-turn
returns-in-Ok-Quit-clause-turn g c = λ f r. (r, ends_quit (rw c.in-Ok-Quit.field-0-is at c.in-Ok-Quit.ensures.next) refl (omega arith))

pub returns-in-Ok-Full-clause-turn : goal.returns-in-Ok-Full-clause-turn
returns-in-Ok-Full-clause-turn g c = λ f r.
    let full = rw c.in-Ok-Full.field-0-is at c.in-Ok-Full.ensures.next in
    (full.0.got, idles_of full.0.went refl (omega arith), full.0.none, full.1, r)

pub returns-in-Err-Source-clause-turn : goal.returns-in-Err-Source-clause-turn
returns-in-Err-Source-clause-turn g c = λ f r.
    let broken = rw c.in-Err-Source.field-0-is at c.in-Err-Source.ensures.next in
    (broken.got, idles_of broken.went refl (omega arith), broken.none, r)

pub returns-in-Err-Memory-clause-turn : goal.returns-in-Err-Memory-clause-turn
returns-in-Err-Memory-clause-turn g c = λ f r.
    let some = rw c.in-Err-Memory.field-0-is at c.in-Err-Memory.ensures.next in
    inl (some.got, idles_of some.went refl (omega arith), r)

pub returns-in-Ok-End-clause-any_moment : goal.returns-in-Ok-End-clause-any_moment
returns-in-Ok-End-clause-any_moment g c = λ f r bytes known.
    let o = c.args.options.now in
    let cs = all_commands (reach c.args.buffer.now) bytes in
    moment_still g.K.Keeper.has_maps g.K.Keeper.is_sound g.K.Keeper.seen g.K.Keeper.is_spent g.K.Keeper.moment g.K.Keeper.left_since g.met.K.Keeper.only_kept c.args.store.now.keeper f (IsLeftBy o f cs) r c.args.store.now.sound c.requires.unspent (left_before o f cs)

pub returns-in-Ok-Quit-clause-any_moment : goal.returns-in-Ok-Quit-clause-any_moment
returns-in-Ok-Quit-clause-any_moment g c = λ f r bytes known.
    let o = c.args.options.now in
    let cs = all_commands (reach c.args.buffer.now) bytes in
    moment_still g.K.Keeper.has_maps g.K.Keeper.is_sound g.K.Keeper.seen g.K.Keeper.is_spent g.K.Keeper.moment g.K.Keeper.left_since g.met.K.Keeper.only_kept c.args.store.now.keeper f (IsLeftBy o f cs) r c.args.store.now.sound c.requires.unspent (left_before o f cs)

pub returns-in-Ok-Full-clause-any_moment : goal.returns-in-Ok-Full-clause-any_moment
returns-in-Ok-Full-clause-any_moment g c = λ f r bytes known.
    let o = c.args.options.now in
    let cs = all_commands (reach c.args.buffer.now) bytes in
    moment_still g.K.Keeper.has_maps g.K.Keeper.is_sound g.K.Keeper.seen g.K.Keeper.is_spent g.K.Keeper.moment g.K.Keeper.left_since g.met.K.Keeper.only_kept c.args.store.now.keeper f (IsLeftBy o f cs) r c.args.store.now.sound c.requires.unspent (left_before o f cs)

pub returns-in-Err-Source-clause-any_moment : goal.returns-in-Err-Source-clause-any_moment
returns-in-Err-Source-clause-any_moment g c = λ f r bytes known.
    let o = c.args.options.now in
    let cs = all_commands (reach c.args.buffer.now) bytes in
    moment_still g.K.Keeper.has_maps g.K.Keeper.is_sound g.K.Keeper.seen g.K.Keeper.is_spent g.K.Keeper.moment g.K.Keeper.left_since g.met.K.Keeper.only_kept c.args.store.now.keeper f (IsLeftBy o f cs) r c.args.store.now.sound c.requires.unspent (left_before o f cs)

pub returns-in-Err-Memory-clause-any_moment : goal.returns-in-Err-Memory-clause-any_moment
returns-in-Err-Memory-clause-any_moment g c = λ f r bytes known.
    let o = c.args.options.now in
    let cs = all_commands (reach c.args.buffer.now) bytes in
    moment_still g.K.Keeper.has_maps g.K.Keeper.is_sound g.K.Keeper.seen g.K.Keeper.is_spent g.K.Keeper.moment g.K.Keeper.left_since g.met.K.Keeper.only_kept c.args.store.now.keeper f (IsLeftBy o f cs) r c.args.store.now.sound c.requires.unspent (left_before o f cs)

pub returns-then-quits-clause-any_moment : goal.returns-then-quits-clause-any_moment
returns-then-quits-clause-any_moment g c = λ f r bytes known.
    let o = c.args.options.now in
    let cs = all_commands (reach c.args.buffer.now) bytes in
    moment_still g.K.Keeper.has_maps g.K.Keeper.is_sound g.K.Keeper.seen g.K.Keeper.is_spent g.K.Keeper.moment g.K.Keeper.left_since g.met.K.Keeper.only_kept c.args.store.now.keeper f (IsLeftBy o f cs) r c.args.store.now.sound c.requires.unspent (left_before o f cs)

pub returns-then-quits-clause-turn : goal.returns-then-quits-clause-turn
returns-then-quits-clause-turn g c = λ f r. (r, ends_last (rw c.in-Ok-Last.field-0-is at c.in-Ok-Last.ensures.next) (sym c.quits.ensures ∙ c.if-quits.true) refl (omega arith))

pub returns-in-Ok-clause-turn : goal.returns-in-Ok-clause-turn
returns-in-Ok-clause-turn g c = λ f r.
    let last = rw c.in-Ok-Last.field-0-is at c.in-Ok-Last.ensures.next in
    let h = c.in-Ok.ensures.answer f r in
    (h.1, h.4, replied c.args.options.now true _ _ last.got c.in-Ok-Last.command (moved_of last.went) (last.last, (last.end, last.few)) (c.reply.ensures.steps f r) (sym c.quits.ensures ∙ c.if-quits.false) h.0 h.2 h.3)

pub returns-in-Ok-clause-last_smaller : goal.returns-in-Ok-clause-last_smaller
returns-in-Ok-clause-last_smaller g c = λ is.
    let last = rw c.in-Ok-Last.field-0-is at c.in-Ok-Last.ensures.next in
    let some = command_some last.got c.in-Ok-Last.command last.last in
    omega (arith, last.went.count, some)

pub returns-in-Err-clause-turn : goal.returns-in-Err-clause-turn
returns-in-Err-clause-turn g c = λ f r.
    let last = rw c.in-Ok-Last.field-0-is at c.in-Ok-Last.ensures.next in
    failed c.args.options.now g.K.Keeper.has_maps g.K.Keeper.seen g.K.Keeper.moment g.K.Keeper.left_since true _ _ c.reply.new.store.keeper c.in-Err.status last.got c.in-Ok-Last.command
    (moved_of last.went) (last.last, (last.end, last.few)) (c.reply.ensures.steps f r) (c.in-Err.ensures.answer f r)

pub returns-in-Err-clause-source_faults : goal.returns-in-Err-clause-source_faults
returns-in-Err-clause-source_faults g c = c.in-Ok-Last.ensures.faults ∙ sym (source-still c.in-Err.status _ c.in-Err.ensures.sort)

pub returns-in-Err-reply-clause-turn : goal.returns-in-Err-reply-clause-turn
returns-in-Err-reply-clause-turn g c = λ f r.
    let cut = rw c.in-Ok-Command.field-0-is at c.in-Ok-Command.ensures.next in
    failed c.args.options.now g.K.Keeper.has_maps g.K.Keeper.seen g.K.Keeper.moment g.K.Keeper.left_since false _ _ c.reply-in-Ok-Command.new.store.keeper c.in-Err-reply.status cut.0.got c.in-Ok-Command.command
    (moved_of cut.0.went) cut.0.cuts.each (c.reply-in-Ok-Command.ensures.steps f r) (c.in-Err-reply.ensures.answer f r)

pub returns-in-Err-reply-clause-source_faults : goal.returns-in-Err-reply-clause-source_faults
returns-in-Err-reply-clause-source_faults g c = c.in-Ok-Command.ensures.faults ∙ sym (source-still c.in-Err-reply.status _ c.in-Err-reply.ensures.sort)

pub returns-in-Ok-reply-clause-turn : goal.returns-in-Ok-reply-clause-turn
returns-in-Ok-reply-clause-turn g c = λ f r.
    let cut = rw c.in-Ok-Command.field-0-is at c.in-Ok-Command.ensures.next in
    let h = c.in-Ok-reply.ensures.answer f r in
    (h.1, h.4, replied c.args.options.now false _ _ cut.0.got c.in-Ok-Command.command (moved_of cut.0.went) cut.0.cuts.each (c.reply-in-Ok-Command.ensures.steps f r) cut.1 h.0 h.2 h.3)

pub returns-in-Ok-reply-clause-smaller : goal.returns-in-Ok-reply-clause-smaller
returns-in-Ok-reply-clause-smaller g c = λ is.
    let cut = rw c.in-Ok-Command.field-0-is at c.in-Ok-Command.ensures.next in
    omega (arith, cut.0.went.count, cut.0.some)

pub returns-in-Ok-clause-any_moment : goal.returns-in-Ok-clause-any_moment
returns-in-Ok-clause-any_moment g c = λ f r bytes known.
    let last = rw c.in-Ok-Last.field-0-is at c.in-Ok-Last.ensures.next in
    moment_of_next g.K.Keeper.moment g.K.Keeper.left_since c.args.options.now c.in-Ok-Last.command f c.args.store.now.keeper c.reply.new.store.keeper _ ([], all-last last bytes known) (c.reply.ensures.any_moment f r)

pub returns-in-Err-clause-any_moment : goal.returns-in-Err-clause-any_moment
returns-in-Err-clause-any_moment g c = λ f r bytes known.
    let last = rw c.in-Ok-Last.field-0-is at c.in-Ok-Last.ensures.next in
    moment_of_next g.K.Keeper.moment g.K.Keeper.left_since c.args.options.now c.in-Ok-Last.command f c.args.store.now.keeper c.reply.new.store.keeper _ ([], all-last last bytes known) (c.reply.ensures.any_moment f r)

pub returns-in-Ok-reply-clause-any_moment : goal.returns-in-Ok-reply-clause-any_moment
returns-in-Ok-reply-clause-any_moment g c = λ f r bytes known.
    let cut = rw c.in-Ok-Command.field-0-is at c.in-Ok-Command.ensures.next in
    moment_of_next g.K.Keeper.moment g.K.Keeper.left_since c.args.options.now c.in-Ok-Command.command f c.args.store.now.keeper c.reply-in-Ok-Command.new.store.keeper _ (all-command cut.0 bytes known) (c.reply-in-Ok-Command.ensures.any_moment f r)

pub returns-in-Err-reply-clause-any_moment : goal.returns-in-Err-reply-clause-any_moment
returns-in-Err-reply-clause-any_moment g c = λ f r bytes known.
    let cut = rw c.in-Ok-Command.field-0-is at c.in-Ok-Command.ensures.next in
    moment_of_next g.K.Keeper.moment g.K.Keeper.left_since c.args.options.now c.in-Ok-Command.command f c.args.store.now.keeper c.reply-in-Ok-Command.new.store.keeper _ (all-command cut.0 bytes known) (c.reply-in-Ok-Command.ensures.any_moment f r)

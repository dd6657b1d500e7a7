use Rattle.std.proofs.Common.{refl, ap, subst, ◌∙◌, None}
use Rattle.mm_run.specs.Inside.Turning.{IsTurnFault}
use Rattle.mm_run.specs.declared.status.Status.TheVariants as status
use Rattle.mm_run.specs.Statuses.{source_faults_after, sink_faults_after}
use Rattle.mm_run.proofs.Carrying.{stands_along, stands_still}
use Rattle.mm_run.proofs.Turns.{goes_on, served_ended, served_failed, served_last, turning_of}
use Rattle.mm_run.proofs.serving.serve.Goals as goal

pub turns-init : goal.turns-init
turns-init g c = record {
  goes_on = λ f r. (f, r, λ end s served. served);
  stands = stands_still g.K.Keeper.over g.K.Keeper.has_maps g.K.Keeper.is_spent g.K.Keeper.fault_count c.args.store.now.keeper None (λ e. absurd cc) (λ e. absurd cc);
  unspent = c.requires.unspent;
  kept_limit = refl;
  source_faults = refl;
  sink_faults = refl;
}

pub turns-preserved : goal.turns-preserved
turns-preserved g c = let stands = c.in-Ok-Answered.ensures.stands in
    record {
      goes_on = λ f r.
          let h = c.turns.invariant.goes_on f r in
          let turn = rw c.in-Ok-Answered.field-0-is at (c.in-Ok-Answered.ensures.turn h.0 h.1) in
          (turn.0, turn.1, λ end s served. h.2 end s (goes_on c.args.options.now _ _ end s (turning_of c.args.options.now turn.2) served));
      stands = stands_along g.K.Keeper.over g.K.Keeper.has_maps g.K.Keeper.is_spent g.K.Keeper.fault_count c.args.store.now.keeper c.turns.store.keeper c.next_turn.new.store.keeper None c.turns.invariant.stands stands;
      unspent = stands.unspent refl c.turns.invariant.unspent;
      kept_limit = c.next_turn.ensures.kept_limit ∙ c.turns.invariant.kept_limit;
      source_faults = c.in-Ok-Answered.ensures.source_faults ∙ c.turns.invariant.source_faults;
      sink_faults = c.in-Ok-Answered.ensures.sink_faults ∙ c.turns.invariant.sink_faults;
    }

pub returns-in-Ok-Last-clause-served : goal.returns-in-Ok-Last-clause-served
returns-in-Ok-Last-clause-served g c = λ f r.
    let h = c.turns.invariant.goes_on f r in
    let turn = rw c.in-Ok-Last.field-0-is at (c.in-Ok-Last.ensures.turn h.0 h.1) in
    (turn.0, λ e. turn.1, h.2 _ status.Ok (served_last c.args.options.now turn.2))

pub returns-in-Ok-Last-clause-source_faults : goal.returns-in-Ok-Last-clause-source_faults
returns-in-Ok-Last-clause-source_faults g c = c.in-Ok-Last.ensures.source_faults ∙ ap (source_faults_after status.Ok) c.turns.invariant.source_faults

pub returns-in-Ok-Last-clause-sink_faults : goal.returns-in-Ok-Last-clause-sink_faults
returns-in-Ok-Last-clause-sink_faults g c = c.in-Ok-Last.ensures.sink_faults ∙ ap (sink_faults_after status.Ok) c.turns.invariant.sink_faults

pub returns-in-Ok-Last-clause-stands : goal.returns-in-Ok-Last-clause-stands
returns-in-Ok-Last-clause-stands g c = stands_along g.K.Keeper.over g.K.Keeper.has_maps g.K.Keeper.is_spent g.K.Keeper.fault_count c.args.store.now.keeper c.turns.store.keeper c.next_turn.new.store.keeper _ c.turns.invariant.stands c.in-Ok-Last.ensures.stands

pub returns-in-Ok-Ended-clause-served : goal.returns-in-Ok-Ended-clause-served
returns-in-Ok-Ended-clause-served g c = λ f r.
    let h = c.turns.invariant.goes_on f r in
    let turn = rw c.in-Ok-Ended.field-0-is at (c.in-Ok-Ended.ensures.turn h.0 h.1) in
    (h.0, λ e. turn.0, h.2 _ status.Ok (served_ended c.args.options.now refl turn.1))

pub returns-in-Ok-Ended-clause-source_faults : goal.returns-in-Ok-Ended-clause-source_faults
returns-in-Ok-Ended-clause-source_faults g c = c.in-Ok-Ended.ensures.source_faults ∙ ap (source_faults_after status.Ok) c.turns.invariant.source_faults

pub returns-in-Ok-Ended-clause-sink_faults : goal.returns-in-Ok-Ended-clause-sink_faults
returns-in-Ok-Ended-clause-sink_faults g c = c.in-Ok-Ended.ensures.sink_faults ∙ ap (sink_faults_after status.Ok) c.turns.invariant.sink_faults

pub returns-in-Ok-Ended-clause-stands : goal.returns-in-Ok-Ended-clause-stands
returns-in-Ok-Ended-clause-stands g c = stands_along g.K.Keeper.over g.K.Keeper.has_maps g.K.Keeper.is_spent g.K.Keeper.fault_count c.args.store.now.keeper c.turns.store.keeper c.next_turn.new.store.keeper _ c.turns.invariant.stands c.in-Ok-Ended.ensures.stands

pub returns-in-Err-clause-served : goal.returns-in-Err-clause-served
returns-in-Err-clause-served g c = λ f r.
    let h = c.turns.invariant.goes_on f r in (
      h.0,
      λ e. absurd (subst IsTurnFault e c.in-Err.ensures.sort),
      h.2 _ c.in-Err.status
          (served_failed c.args.options.now g.K.Keeper.has_maps g.K.Keeper.seen g.K.Keeper.moment g.K.Keeper.left_since _ _ c.next_turn.new.store.keeper c.in-Err.status refl (c.in-Err.ensures.turn h.0 h.1)),
    )

pub returns-in-Err-clause-source_faults : goal.returns-in-Err-clause-source_faults
returns-in-Err-clause-source_faults g c = c.in-Err.ensures.source_faults ∙ ap (source_faults_after c.in-Err.status) c.turns.invariant.source_faults

pub returns-in-Err-clause-sink_faults : goal.returns-in-Err-clause-sink_faults
returns-in-Err-clause-sink_faults g c = c.in-Err.ensures.sink_faults ∙ ap (sink_faults_after c.in-Err.status) c.turns.invariant.sink_faults

pub returns-in-Err-clause-stands : goal.returns-in-Err-clause-stands
returns-in-Err-clause-stands g c = stands_along g.K.Keeper.over g.K.Keeper.has_maps g.K.Keeper.is_spent g.K.Keeper.fault_count c.args.store.now.keeper c.turns.store.keeper c.next_turn.new.store.keeper _ c.turns.invariant.stands c.in-Err.ensures.stands

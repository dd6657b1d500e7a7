use Rattle.std.proofs.Common.{arith}
use Rattle.mm_store.specs.Editing.{edit_refusal, edited, edited_label, edited_nodes}
use Rattle.mm_run.specs.Steps.{edit_cost, weighed}
use Rattle.mm_run.proofs.Carrying.{rests_along}
use Rattle.mm_run.proofs.Edited.{edit_done, edit_moment, edit_refused, edit_within}
use Rattle.mm_run.proofs.editing.apply.Goals as goal

pub returns-in-Ok-clause-answer : goal.returns-in-Ok-clause-answer
returns-in-Ok-clause-answer g c = λ f r.
    let edit = c.args.edit in
    let limit = c.args.store.now.limit in
    let why = edit_refusal limit edit f in
    let old = c.args.store.now.keeper in
    let new = c.apply.new.self.keeper in
    record {
      answered = (edited edit f, edit_done why (edited_label edit f) (edited_nodes edit f) (edited edit f) f _ _ (c.in-Ok.ensures.accepted f r.0) (c.in-Ok.ensures.label f r.0) (c.in-Ok.ensures.nodes f r.0), (c.in-Ok.ensures.now f r.0, c.in-Ok.ensures.kept f r.0));
      undamaged = tt;
      any_moment = λ unspent. edit_moment g.K.Keeper.has_maps g.K.Keeper.is_sound g.K.Keeper.seen g.K.Keeper.is_spent g.K.Keeper.moment g.K.Keeper.left_since g.met.K.Keeper.only_kept why (edited_label edit f) (edited_nodes edit f) (edited edit f) f old new r
          c.args.store.now.sound unspent (λ n. (c.apply.ensures.stays f r.0 n).any_moment r.0.0) (c.apply.ensures.any_moment f r.0 unspent r.1);
      steps = (edit_cost f (weighed why (edited edit f) f), omega arith, edit_within limit edit f _ _ (c.apply.ensures.cost f r.0) (c.apply.ensures.early f r.0));
    }

pub returns-in-Err-Refused-clause-answer : goal.returns-in-Err-Refused-clause-answer
returns-in-Err-Refused-clause-answer g c = λ f r.
    let edit = c.args.edit in
    let limit = c.args.store.now.limit in
    let why = edit_refusal limit edit f in
    let old = c.args.store.now.keeper in
    let new = c.apply.new.self.keeper in
    let ground = rw c.in-Err-Refused.field-0-is at c.in-Err-Refused.ensures.unchanged in
    record {
      answered = (
        f,
        edit_refused why (edited_label edit f) (edited_nodes edit f) (edited edit f) f _ (rw c.in-Err-Refused.field-0-is at (c.in-Err-Refused.ensures.refused f r.0)),
        rests_along g.K.Keeper.has_maps g.K.Keeper.seen old new f r ground.maps.0 ground.same,
      );
      undamaged = tt;
      any_moment = λ unspent. edit_moment g.K.Keeper.has_maps g.K.Keeper.is_sound g.K.Keeper.seen g.K.Keeper.is_spent g.K.Keeper.moment g.K.Keeper.left_since g.met.K.Keeper.only_kept why (edited_label edit f) (edited_nodes edit f) (edited edit f) f old new r
          c.args.store.now.sound unspent (λ n. (c.apply.ensures.stays f r.0 n).any_moment r.0.0) (c.apply.ensures.any_moment f r.0 unspent r.1);
      steps = (edit_cost f (weighed why (edited edit f) f), omega arith, edit_within limit edit f _ _ (c.apply.ensures.cost f r.0) (c.apply.ensures.early f r.0));
    }

pub returns-in-Err-Fault-clause-answer : goal.returns-in-Err-Fault-clause-answer
returns-in-Err-Fault-clause-answer g c = λ f r.
    let edit = c.args.edit in
    let limit = c.args.store.now.limit in
    let why = edit_refusal limit edit f in
    let old = c.args.store.now.keeper in
    let new = c.apply.new.self.keeper in
    record {
      answered = tt;
      undamaged = rw c.in-Err-Fault.field-0-is at (c.in-Err-Fault.ensures.refused f r.0);
      any_moment = λ unspent. edit_moment g.K.Keeper.has_maps g.K.Keeper.is_sound g.K.Keeper.seen g.K.Keeper.is_spent g.K.Keeper.moment g.K.Keeper.left_since g.met.K.Keeper.only_kept why (edited_label edit f) (edited_nodes edit f) (edited edit f) f old new r
          c.args.store.now.sound unspent (λ n. (c.apply.ensures.stays f r.0 n).any_moment r.0.0) (c.apply.ensures.any_moment f r.0 unspent r.1);
      steps = (edit_cost f (weighed why (edited edit f) f), omega arith, edit_within limit edit f _ _ (c.apply.ensures.cost f r.0) (c.apply.ensures.early f r.0));
    }

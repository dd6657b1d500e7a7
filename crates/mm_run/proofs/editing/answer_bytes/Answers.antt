use Rattle.std.proofs.Common.{ap, arith, subst, sym, Err}
use Rattle.mm_command.specs.Replies.{reply_text}
use Rattle.mm_run.specs.Inside.Edits.{planned}
use Rattle.mm_run.proofs.Carrying.{carried_as}
use Rattle.mm_store.specs.Editing.{IsValidEdit}
use Rattle.mm_run.proofs.Planning.{looked, spelled, spelled-allows, spelled-deep, unspelled, valid_with}
use Rattle.mm_run.proofs.editing.answer_bytes.Goals as goal

pub returns-in-Ok-clause-answer : goal.returns-in-Ok-clause-answer
returns-in-Ok-clause-answer g c = λ options e f r.
    let found = rw c.as_slice.ensures.value at c.in-Ok.ensures.found in
    let limit = c.args.store.now.limit in
    carried_as g.K.Keeper.has_maps g.K.Keeper.is_sound g.K.Keeper.seen g.K.Keeper.is_spent g.K.Keeper.moment g.K.Keeper.left_since reply_text _ _ _ _ f c.args.store.now.keeper c.apply.new.store.keeper _ _ _
    (λ reply later. spelled options limit c.args.edit c.in-Ok.tree f c.args.bytes e found.0 found.1 reply later)
    (λ n. spelled-allows options limit c.args.edit c.in-Ok.tree f c.args.bytes e found.0 n)
    (rw c.with_tree.ensures at (c.apply.ensures.answer f r))

pub returns-in-Err-NotXml-clause-answer : goal.returns-in-Err-NotXml-clause-answer
returns-in-Err-NotXml-clause-answer g c = λ options e f r.
    carried_as g.K.Keeper.has_maps g.K.Keeper.is_sound g.K.Keeper.seen g.K.Keeper.is_spent g.K.Keeper.moment g.K.Keeper.left_since reply_text _ _ _ _ f c.args.store.now.keeper c.refuse_at.new.store.keeper _ _ _
    (unspelled (planned options c.args.edit f) f c.args.bytes (rw c.as_slice.ensures.value at (c.in-Err-NotXml.ensures.none (ap (λ e. Err e) c.in-Err-NotXml.field-0-is))))
    (λ n. looked _ (planned options c.args.edit f) c.args.bytes f n)
    (c.refuse_at.ensures.answer options f r)

pub returns-in-Err-TooDeep-clause-answer : goal.returns-in-Err-TooDeep-clause-answer
returns-in-Err-TooDeep-clause-answer g c = λ options e f r.
    carried_as g.K.Keeper.has_maps g.K.Keeper.is_sound g.K.Keeper.seen g.K.Keeper.is_spent g.K.Keeper.moment g.K.Keeper.left_since reply_text _ _ _ _ f c.args.store.now.keeper c.refuse_at-in-Err-TooDeep.new.store.keeper _ _ _
    (spelled-deep (planned options c.args.edit f) f c.args.bytes (rw c.as_slice.ensures.value at (c.in-Err-TooDeep.ensures.deep (ap (λ e. Err e) c.in-Err-TooDeep.field-0-is))))
    (λ n. looked _ (planned options c.args.edit f) c.args.bytes f n)
    (c.refuse_at-in-Err-TooDeep.ensures.answer options f r)

pub apply-requires : goal.apply-requires
apply-requires g c = subst IsValidEdit (sym c.with_tree.ensures) (valid_with c.args.edit c.in-Ok.tree (c.in-Ok.ensures.valid (omega (arith, c.as_slice.ensures.bound))))

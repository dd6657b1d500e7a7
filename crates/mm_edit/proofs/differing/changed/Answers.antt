use Rattle.std.proofs.Common.{ap, subst, refl}
use Rattle.std.specs.Vec.Iter.{into_iter_items}
use Rattle.mm_image.specs.Keyed.{keyed}
use Rattle.mm_edit.specs.Difference.{changed, holds}
use Rattle.mm_edit.specs.Plans.{AreSized}
use Rattle.mm_edit.proofs.Halving.{pair}
use Rattle.mm_edit.proofs.Telling.{changed_more, one_less}
use Rattle.mm_edit.proofs.differing.changed.Goals as goal

pub loop-entry-preserved : goal.loop-entry-preserved
loop-entry-preserved c =
    let left = into_iter_items c.next.new.self in
    let e = c.in-Some.entry in
    let before = keyed c.args.before.now in
    let next = ap keyed c.in-Some.ensures.steps.0 in
    record {
      may_step = tt;
      ends = tt;
      whole = one_less _ _ _ left e c.loop-entry.invariant.whole c.in-Some.ensures.steps.1 c.in-Some.ensures.steps.0;
      changed = λ s. changed_more (keyed c.loop-entry.entries.items) (keyed c.push_changed.new.entries.items) (changed before (keyed c.args.after.items)) (keyed (into_iter_items c.loop-entry.entry-iterator)) (keyed left) before (pair e)
          (holds before (pair e)) next refl (c.in_ok-push_changed.ensures.put s) (c.loop-entry.invariant.changed s);
      sized = λ a. let t = c.loop-entry.invariant.sized a in let u = subst AreSized next t.1 in (c.in_ok-push_changed.ensures.sized t.0 (u.0, tt), u.1);
    }

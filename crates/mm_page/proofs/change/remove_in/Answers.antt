use Rattle.std.proofs.Common.{◌≡◌, ◌+◌, ◌*◌, ◌-◌, suc, ap, ◌∙◌, arith}
use Rattle.std.specs.List.{remove}
use Rattle.mm_page.specs.Leaf.{entries_of, place_in}
use Rattle.mm_page.proofs.Rows.{leaf-count}
use Rattle.mm_page.proofs.Moves.{IsMoved, IsGap, remove-done, remove-room}
use Rattle.mm_page.proofs.change.remove_in.Goals.{After-place-end, After-move_part-2}
use Rattle.mm_page.proofs.change.remove_in.Goals as goal

room : (c : After-place-end) → IsGap c.args.bytes.now (16 + 2 * c.read_two-count.result) c.place-at.result c.place-after.result c.place-end.result
room c =
    let old = c.args.bytes.now in
    let n = c.read_two-count.ensures.number ∙ leaf-count old c.requires.leaf in
    let e = c.place-end.ensures ∙ ap (λ t. place_in (entries_of old) t) n in
    let j : c.args.index + 1 ≡ suc c.args.index = omega arith in
    let t : c.place-after.result ≡ place_in (entries_of old) (suc c.args.index) = c.place-after.ensures ∙ ap (λ x. place_in (entries_of old) x) j in
    remove-room old c.args.index _ _ _ _ c.requires.leaf n (omega (arith, n, c.requires.index)) c.place-at.ensures t e

done : (c : After-move_part-2) → IsMoved c.args.bytes.now c.move_part-2.new.bytes (c.read_two-count.result - 1) (remove (entries_of c.args.bytes.now) c.args.index)
done c =
    let old = c.args.bytes.now in
    let n = c.read_two-count.ensures.number ∙ leaf-count old c.requires.leaf in
    let e = c.place-end.ensures ∙ ap (λ t. place_in (entries_of old) t) n in
    let j : c.args.index + 1 ≡ suc c.args.index = omega arith in
    let t : c.place-after.result ≡ place_in (entries_of old) (suc c.args.index) = c.place-after.ensures ∙ ap (λ x. place_in (entries_of old) x) j in
    remove-done old c.args.index c.read_two-count.result c.place-at.result c.place-after.result c.place-end.result _ _ c.requires.leaf n (omega (arith, n, c.requires.index)) c.place-at.ensures t e
    c.move_part.ensures.bytes c.move_part-2.ensures.bytes

pub move_part-requires-clause-from : goal.move_part-requires-clause-from
move_part-requires-clause-from c = let w = room (goal.at.move_part-requires-clause-from c).After-place-end in omega (arith, w.start, w.order, w.last, w.all, w.size)

pub move_part-requires-clause-to : goal.move_part-requires-clause-to
move_part-requires-clause-to c = let w = room (goal.at.move_part-requires-clause-to c).After-place-end in omega (arith, w.start, w.order, w.last, w.all, w.size)

pub overflow_sub-end : goal.overflow_sub-end
overflow_sub-end c = let w = room (goal.at.overflow_sub-end c).After-place-end in omega (arith, w.start, w.order, w.last, w.all, w.size)

pub move_part-requires-2-clause-from : goal.move_part-requires-2-clause-from
move_part-requires-2-clause-from c = let w = room (goal.at.move_part-requires-2-clause-from c).After-place-end in omega (arith, w.start, w.order, w.last, w.all, w.size, c.move_part.ensures.length)

pub move_part-requires-2-clause-to : goal.move_part-requires-2-clause-to
move_part-requires-2-clause-to c = let w = room (goal.at.move_part-requires-2-clause-to c).After-place-end in omega (arith, w.start, w.order, w.last, w.all, w.size, c.move_part.ensures.length)

pub finish-requires : goal.finish-requires
finish-requires c = record { row = (done (goal.at.finish-requires c).After-move_part-2).row }

pub returns-clause-entries : goal.returns-clause-entries
returns-clause-entries c = c.finish.ensures.entries ∙ (done (goal.at.returns-clause-entries c).After-move_part-2).read

pub returns-clause-next : goal.returns-clause-next
returns-clause-next c = c.finish.ensures.next ∙ (done (goal.at.returns-clause-next c).After-move_part-2).next

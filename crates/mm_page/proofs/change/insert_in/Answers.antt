use Rattle.std.proofs.Common.{◌+◌, ◌*◌, length, ap, ◌∙◌, arith}
use Rattle.std.specs.List.{insert}
use Rattle.mm_page.specs.Leaf.{entries_of, place_in}
use Rattle.mm_page.proofs.Rows.{leaf-count}
use Rattle.mm_page.proofs.Moves.{IsMoved, IsRoom, insert-done, insert-room}
use Rattle.mm_page.proofs.change.insert_in.Goals.{After-place-end, After-write_cell}
use Rattle.mm_page.proofs.change.insert_in.Goals as goal

room : (c : After-place-end) → IsRoom c.args.bytes.now (16 + 2 * c.read_two-count.result) c.place-at.result c.place-end.result (c.place-at.result + 6 + length c.args.key.now + length c.args.value.now)
room c =
    let old = c.args.bytes.now in
    let n = c.read_two-count.ensures.number ∙ leaf-count old c.requires.leaf in
    let e = c.place-end.ensures ∙ ap (λ t. place_in (entries_of old) t) n in
    insert-room old c.args.key.now c.args.value.now c.args.index _ _ _ c.requires.leaf n c.place-at.ensures e c.requires.room

done : (c : After-write_cell) → IsMoved c.args.bytes.now c.write_cell.new.bytes (c.read_two-count.result + 1) (insert (entries_of c.args.bytes.now) c.args.index (c.args.key.now, c.args.value.now))
done c =
    let old = c.args.bytes.now in
    let n = c.read_two-count.ensures.number ∙ leaf-count old c.requires.leaf in
    let e = c.place-end.ensures ∙ ap (λ t. place_in (entries_of old) t) n in
    insert-done old c.args.key.now c.args.value.now c.args.index c.read_two-count.result c.place-at.result c.place-end.result _ _ _ c.requires.leaf n c.place-at.ensures e
    c.requires.index c.requires.within c.requires.fresh c.requires.key.0 c.requires.key.1 c.requires.value c.requires.room c.move_part.ensures.bytes c.move_part-2.ensures.bytes c.write_cell.ensures.bytes

pub overflow_sub-end : goal.overflow_sub-end
overflow_sub-end c = let w = room (goal.at.overflow_sub-end c).After-place-end in omega (arith, w.order, w.start, w.all, w.room, w.size)

pub overflow_add-at : goal.overflow_add-at
overflow_add-at c = let w = room (goal.at.overflow_add-at c).After-place-end in omega (arith, w.order, w.start, w.all, w.room, w.size)

pub overflow_add-at-2 : goal.overflow_add-at-2
overflow_add-at-2 c = let w = room (goal.at.overflow_add-at-2 c).After-place-end in omega (arith, w.order, w.start, w.all, w.room, w.size)

pub overflow_add-at-3 : goal.overflow_add-at-3
overflow_add-at-3 c = let w = room (goal.at.overflow_add-at-3 c).After-place-end in omega (arith, w.order, w.start, w.all, w.room, w.size)

pub move_part-requires-clause-from : goal.move_part-requires-clause-from
move_part-requires-clause-from c = let w = room (goal.at.move_part-requires-clause-from c).After-place-end in omega (arith, w.order, w.start, w.all, w.room, w.size)

pub move_part-requires-clause-to : goal.move_part-requires-clause-to
move_part-requires-clause-to c = let w = room (goal.at.move_part-requires-clause-to c).After-place-end in omega (arith, w.order, w.start, w.all, w.room, w.size)

pub move_part-requires-2-clause-from : goal.move_part-requires-2-clause-from
move_part-requires-2-clause-from c = let w = room (goal.at.move_part-requires-2-clause-from c).After-place-end in omega (arith, w.order, w.start, w.all, w.room, w.size, c.move_part.ensures.length)

pub move_part-requires-2-clause-to : goal.move_part-requires-2-clause-to
move_part-requires-2-clause-to c = let w = room (goal.at.move_part-requires-2-clause-to c).After-place-end in omega (arith, w.order, w.start, w.all, w.room, w.size, c.move_part.ensures.length)

pub overflow_add-at-4 : goal.overflow_add-at-4
overflow_add-at-4 c = let w = room (goal.at.overflow_add-at-4 c).After-place-end in omega (arith, w.order, w.start, w.all, w.room, w.size)

pub write_cell-requires-clause-room : goal.write_cell-requires-clause-room
write_cell-requires-clause-room c = let w = room (goal.at.write_cell-requires-clause-room c).After-place-end in omega (arith, w.order, w.start, w.all, w.room, w.size, c.move_part.ensures.length, c.move_part-2.ensures.length)

pub finish-requires : goal.finish-requires
finish-requires c = record { row = (done (goal.at.finish-requires c).After-write_cell).row }

pub returns-clause-entries : goal.returns-clause-entries
returns-clause-entries c = c.finish.ensures.entries ∙ (done (goal.at.returns-clause-entries c).After-write_cell).read

pub returns-clause-next : goal.returns-clause-next
returns-clause-next c = c.finish.ensures.next ∙ (done (goal.at.returns-clause-next c).After-write_cell).next

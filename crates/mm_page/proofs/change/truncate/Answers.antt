use Rattle.std.proofs.Common.{length, take, refl, ◌∙◌, arith}
use Rattle.mm_page.specs.Leaf.{entries_of, place_in}
use Rattle.mm_page.proofs.Rows.{leaf-count}
use Rattle.mm_page.proofs.Moves.{IsMoved}
use Rattle.mm_page.proofs.Splitting.{IsSplitting, splitting, front-done}
use Rattle.mm_page.proofs.change.truncate.Goals.{After-place-at, After-move_part}
use Rattle.mm_page.proofs.change.truncate.Goals as goal

room : (c : After-place-at) → IsSplitting c.args.bytes.now c.args.index c.read_two-count.result c.place-at.result (place_in (entries_of c.args.bytes.now) (length (entries_of c.args.bytes.now)))
room c =
    let old = c.args.bytes.now in
    let n = c.read_two-count.ensures.number ∙ leaf-count old c.requires.leaf in
    splitting old c.args.index c.read_two-count.result c.place-at.result (place_in (entries_of old) (length (entries_of old))) c.requires.leaf n c.requires.index c.place-at.ensures refl

done : (c : After-move_part) → IsMoved c.args.bytes.now c.move_part.new.bytes c.args.index (take c.args.index (entries_of c.args.bytes.now))
done c =
    let old = c.args.bytes.now in
    let n = c.read_two-count.ensures.number ∙ leaf-count old c.requires.leaf in
    let end = place_in (entries_of old) (length (entries_of old)) in
    let w = splitting old c.args.index c.read_two-count.result c.place-at.result end c.requires.leaf n c.requires.index c.place-at.ensures refl in
    front-done old c.args.index c.read_two-count.result c.place-at.result end _ c.requires.leaf n w c.move_part.ensures.bytes

pub overflow_sub-at : goal.overflow_sub-at
overflow_sub-at c = let w = room (goal.at.overflow_sub-at c).After-place-at in omega (arith, w.start, w.within, w.order, w.all, w.size)

pub move_part-requires-clause-from : goal.move_part-requires-clause-from
move_part-requires-clause-from c = let w = room (goal.at.move_part-requires-clause-from c).After-place-at in omega (arith, w.start, w.within, w.order, w.all, w.size)

pub move_part-requires-clause-to : goal.move_part-requires-clause-to
move_part-requires-clause-to c = let w = room (goal.at.move_part-requires-clause-to c).After-place-at in omega (arith, w.start, w.within, w.order, w.all, w.size)

pub finish-requires : goal.finish-requires
finish-requires c = record { row = (done (goal.at.finish-requires c).After-move_part).row }

pub returns-clause-entries : goal.returns-clause-entries
returns-clause-entries c = c.finish.ensures.entries ∙ (done (goal.at.returns-clause-entries c).After-move_part).read

pub returns-clause-next : goal.returns-clause-next
returns-clause-next c = c.finish.ensures.next ∙ (done (goal.at.returns-clause-next c).After-move_part).next

use Rattle.std.proofs.Common.{◌≡◌, ◌+◌, suc, ap, ◌∙◌, arith}
use Rattle.mm_page.specs.Limits.{revalued}
use Rattle.mm_page.specs.Leaf.{entries_of, place_in}
use Rattle.mm_page.proofs.Rows.{leaf-count, leaf-entry}
use Rattle.mm_page.proofs.Moves.{IsMoved}
use Rattle.mm_page.proofs.Setting.{IsSetting, setting, set-done}
use Rattle.mm_page.proofs.change.set_in.Goals.{After-read_two-key, After-write_part}
use Rattle.mm_page.proofs.change.set_in.Goals as goal

room : (c : After-read_two-key) → IsSetting c.args.bytes.now c.args.value.now c.args.index c.read_two-count.result c.place-at.result c.place-after.result c.place-end.result c.read_two-key.result
room c =
    let old = c.args.bytes.now in
    let n = c.read_two-count.ensures.number ∙ leaf-count old c.requires.leaf in
    let e = c.place-end.ensures ∙ ap (λ t. place_in (entries_of old) t) n in
    let j : c.args.index + 1 ≡ suc c.args.index = omega arith in
    let t : c.place-after.result ≡ place_in (entries_of old) (suc c.args.index) = c.place-after.ensures ∙ ap (λ x. place_in (entries_of old) x) j in
    setting old c.args.value.now c.args.index c.read_two-count.result c.place-at.result c.place-after.result c.place-end.result c.read_two-key.result c.requires.leaf n c.requires.index c.place-at.ensures t e c.read_two-key.ensures.number c.requires.room

done : (c : After-write_part) → IsMoved c.args.bytes.now c.write_part.new.bytes c.read_two-count.result (revalued (entries_of c.args.bytes.now) c.args.index c.args.value.now)
done c =
    let old = c.args.bytes.now in
    let n = c.read_two-count.ensures.number ∙ leaf-count old c.requires.leaf in
    let e = c.place-end.ensures ∙ ap (λ t. place_in (entries_of old) t) n in
    let j : c.args.index + 1 ≡ suc c.args.index = omega arith in
    let t : c.place-after.result ≡ place_in (entries_of old) (suc c.args.index) = c.place-after.ensures ∙ ap (λ x. place_in (entries_of old) x) j in
    let w =
    setting old c.args.value.now c.args.index c.read_two-count.result c.place-at.result c.place-after.result c.place-end.result c.read_two-key.result c.requires.leaf n c.requires.index c.place-at.ensures t e c.read_two-key.ensures.number c.requires.room in
    set-done old c.args.value.now c.args.index c.read_two-count.result c.place-at.result c.place-after.result c.place-end.result c.read_two-key.result _ _ _ c.requires.leaf n c.requires.index c.place-at.ensures t c.requires.value c.requires.room w
    c.move_part.ensures.bytes c.write_two.ensures.bytes c.write_part.ensures.bytes

pub read_two-key-requires : goal.read_two-key-requires
read_two-key-requires c =
    let e = leaf-entry c.args.bytes.now c.args.index c.requires.leaf c.requires.index in
    omega (arith, c.place-at.ensures, e.room, c.requires.leaf.size)

pub overflow_sub-end : goal.overflow_sub-end
overflow_sub-end c = let w = room (goal.at.overflow_sub-end c).After-read_two-key in omega (arith, w.start, w.order, w.last, w.all, w.room, w.size)

pub move_part-requires-clause-from : goal.move_part-requires-clause-from
move_part-requires-clause-from c = let w = room (goal.at.move_part-requires-clause-from c).After-read_two-key in omega (arith, w.start, w.order, w.last, w.all, w.room, w.size)

pub move_part-requires-clause-to : goal.move_part-requires-clause-to
move_part-requires-clause-to c = let w = room (goal.at.move_part-requires-clause-to c).After-read_two-key in omega (arith, w.start, w.order, w.last, w.all, w.room, w.size)

pub write_two-requires-clause-room : goal.write_two-requires-clause-room
write_two-requires-clause-room c = let w = room (goal.at.write_two-requires-clause-room c).After-read_two-key in omega (arith, w.start, w.order, w.last, w.all, w.room, w.size, c.move_part.ensures.length)

pub write_part-requires : goal.write_part-requires
write_part-requires c = let w = room (goal.at.write_part-requires c).After-read_two-key in omega (arith, w.start, w.order, w.last, w.all, w.room, w.size, c.move_part.ensures.length, c.write_two.ensures.length)

pub finish-requires : goal.finish-requires
finish-requires c = record { row = (done (goal.at.finish-requires c).After-write_part).row }

pub returns-clause-entries : goal.returns-clause-entries
returns-clause-entries c = c.finish.ensures.entries ∙ (done (goal.at.returns-clause-entries c).After-write_part).read

pub returns-clause-next : goal.returns-clause-next
returns-clause-next c = c.finish.ensures.next ∙ (done (goal.at.returns-clause-next c).After-write_part).next

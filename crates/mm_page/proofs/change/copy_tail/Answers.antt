use Rattle.std.proofs.Common.{◌≡◌, ◌+◌, ◌*◌, ◌-◌, length, drop, ap, ◌∙◌, arith}
use Rattle.mm_page.specs.Leaf.{pasted, entries_of, place_in}
use Rattle.mm_page.proofs.Blocks.{block-length}
use Rattle.mm_page.proofs.Rows.{leaf-count}
use Rattle.mm_page.proofs.Moves.{IsMoved}
use Rattle.mm_page.proofs.Splitting.{IsSplitting, splitting, back-done}
use Rattle.mm_page.proofs.change.copy_tail.Goals.{After-place-end, After-write_part}
use Rattle.mm_page.proofs.change.copy_tail.Goals as goal

room : (c : After-place-end) → IsSplitting c.args.bytes.now c.args.index c.read_two-count.result c.place-at.result c.place-end.result
room c =
    let old = c.args.bytes.now in
    let n = c.read_two-count.ensures.number ∙ leaf-count old c.requires.leaf in
    let e = c.place-end.ensures ∙ ap (λ t. place_in (entries_of old) t) n in
    splitting old c.args.index c.read_two-count.result c.place-at.result c.place-end.result c.requires.leaf n c.requires.index c.place-at.ensures e

done : (c : After-write_part) → IsMoved c.args.fresh.now c.write_part.new.bytes (c.read_two-count.result - c.args.index) (drop c.args.index (entries_of c.args.bytes.now))
done c =
    let old = c.args.bytes.now in
    let n = c.read_two-count.ensures.number ∙ leaf-count old c.requires.leaf in
    let e = c.place-end.ensures ∙ ap (λ t. place_in (entries_of old) t) n in
    let w = splitting old c.args.index c.read_two-count.result c.place-at.result c.place-end.result c.requires.leaf n c.requires.index c.place-at.ensures e in
    back-done old c.args.fresh.now c.args.index c.read_two-count.result c.place-at.result c.place-end.result _ c.requires.leaf c.requires.size n c.place-at.ensures w
    (c.write_part.ensures.bytes ∙ ap (λ t. pasted c.args.fresh.now (16 + 2 * (c.read_two-count.result - c.args.index)) t) c.part-tail.ensures)

pub overflow_sub-end : goal.overflow_sub-end
overflow_sub-end c = let w = room (goal.at.overflow_sub-end c).After-place-end in omega (arith, w.start, w.within, w.order, w.all, w.size)

pub part-tail-requires : goal.part-tail-requires
part-tail-requires c = let w = room (goal.at.part-tail-requires c).After-place-end in omega (arith, w.start, w.within, w.order, w.all, w.size)

pub overflow_sub-count : goal.overflow_sub-count
overflow_sub-count c = let w = room (goal.at.overflow_sub-count c).After-place-end in omega (arith, w.start, w.within, w.order, w.all, w.size)

pub write_part-requires : goal.write_part-requires
write_part-requires c =
    let w = room (goal.at.write_part-requires c).After-place-end in
    let q : length c.part-tail.result.now ≡ c.place-end.result - c.place-at.result = ap length c.part-tail.ensures ∙ block-length c.place-at.result (c.place-end.result - c.place-at.result) c.args.bytes.now (omega (arith, w.order, w.all, w.size)) in
    omega (arith, q, w.start, w.within, w.order, w.all, c.requires.size)

pub finish-requires : goal.finish-requires
finish-requires c = record { row = (done (goal.at.finish-requires c).After-write_part).row }

pub returns-clause-entries : goal.returns-clause-entries
returns-clause-entries c = c.finish.ensures.entries ∙ (done (goal.at.returns-clause-entries c).After-write_part).read

pub returns-clause-next : goal.returns-clause-next
returns-clause-next c = c.finish.ensures.next ∙ (done (goal.at.returns-clause-next c).After-write_part).next

use Rattle.std.proofs.Common.{ap, ◌∙◌, arith}
use Rattle.mm_page.specs.Leaf.{entries_of, place_in}
use Rattle.mm_page.proofs.Rows.{leaf-count, place-end, leaf-size}
use Rattle.mm_page.proofs.change.room_in.Goals as goal

pub overflow_sub-result : goal.overflow_sub-result
overflow_sub-result c =
    let bytes = c.args.bytes.now in
    let m = entries_of bytes in
    let n = c.read_two-count.ensures.number ∙ leaf-count bytes c.requires in
    let e = c.place-end.ensures ∙ ap (λ t. place_in m t) n in
    omega (arith, e, place-end m, leaf-size bytes c.requires)

pub returns : goal.returns
returns c =
    let bytes = c.args.bytes.now in
    let m = entries_of bytes in
    let n = c.read_two-count.ensures.number ∙ leaf-count bytes c.requires in
    let e = c.place-end.ensures ∙ ap (λ t. place_in m t) n in
    omega (arith, e, place-end m, leaf-size bytes c.requires)

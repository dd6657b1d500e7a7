use Rattle.std.proofs.Common.{◌≡◌, ◌+◌, ◌*◌, [], length, sym, ap, ap₂, ◌∙◌, arith}
use Rattle.mm_page.specs.Leaf.{entries_of, place_in, number_at}
use Rattle.mm_page.proofs.Rows.{IsLast, leaf-count, slot-back, place-last}
use Rattle.mm_page.proofs.change.place.Goals.{After-read_two-at}
use Rattle.mm_page.proofs.change.place.Goals as goal

last : (c : After-read_two-at) → IsLast c.args.bytes.now c.read_two-count.result
last c = place-last c.args.bytes.now c.read_two-count.result c.requires.leaf (c.read_two-count.ensures.number ∙ leaf-count c.args.bytes.now c.requires.leaf) (omega (arith, c.if-count-eq0.false))

pub returns-then-index-count : goal.returns-then-index-count
returns-then-index-count c =
    let bytes = c.args.bytes.now in
    let n = leaf-count bytes c.requires.leaf in
    c.read_two.ensures.number ∙ slot-back bytes (entries_of bytes) c.args.index ([], []) c.requires.leaf.holds.places (omega (arith, n, c.read_two-count.ensures.number, c.if-index-count.true))

pub read_two-key-requires : goal.read_two-key-requires
read_two-key-requires c = omega (arith, (last (goal.at.read_two-key-requires c).After-read_two-at).bound, c.read_two-at.ensures.number, c.requires.leaf.size)

pub read_two-value-requires : goal.read_two-value-requires
read_two-value-requires c = omega (arith, (last (goal.at.read_two-value-requires c).After-read_two-at).bound, c.read_two-at.ensures.number, c.requires.leaf.size)

pub returns : goal.returns
returns c =
    let bytes = c.args.bytes.now in
    let n = c.read_two-count.ensures.number ∙ leaf-count bytes c.requires.leaf in
    let i : c.args.index ≡ length (entries_of bytes) = omega (arith, c.requires.index, n, c.if-index-count.false) in
    let at = c.read_two-at.ensures.number in
    ap₂ (λ s t. c.read_two-at.result + 4 + s + t) (c.read_two-key.ensures.number ∙ ap (λ t. number_at t bytes) at) (c.read_two-value.ensures.number ∙ ap (λ t. number_at (t + 2) bytes) at)
    ∙ ap (λ t. t + 4 + number_at (number_at (14 + 2 * c.read_two-count.result) bytes) bytes + number_at (number_at (14 + 2 * c.read_two-count.result) bytes + 2) bytes) at
    ∙ (last (goal.at.returns c).After-read_two-at).end ∙ ap (λ t. place_in (entries_of bytes) t) (sym i)

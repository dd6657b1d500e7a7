use Rattle.std.proofs.Common.{◌≡◌, ◌+◌, ◌*◌, suc, length, take, ap, ap₂, ◌∙◌, arith}
use Rattle.std.proofs.lemmas.List.{take_all}
use Rattle.mm_page.specs.Leaf.{pasted, entries_at, slots, cells, number_at}
use Rattle.mm_page.proofs.Writing.{IsStep, slots-step, entries-length}
use Rattle.mm_page.proofs.change.write_slots.Goals.{After-write_two}
use Rattle.mm_page.proofs.change.write_slots.Goals as goal

step : (c : After-write_two) → IsStep c.args.bytes.now (entries_at c.args.bytes.now c.args.count (16 + 2 * c.args.count)) (16 + 2 * c.args.count) c.walk.i c.walk.at c.walk.bytes
step c =
    let n = c.args.count in
    let e = entries-length c.args.bytes.now n (16 + 2 * n) in
    slots-step c.args.bytes.now (entries_at c.args.bytes.now n (16 + 2 * n)) (16 + 2 * n) c.walk.i c.walk.at c.walk.bytes (omega (arith, e)) c.requires.row (omega (arith, e, c.walk-test.true)) c.walk.invariant.at c.walk.invariant.bytes

pub write_two-requires-clause-small : goal.write_two-requires-clause-small
write_two-requires-clause-small c =
    let n = c.args.count in
    let e = entries-length c.args.bytes.now n (16 + 2 * n) in
    omega (arith, (slots-step c.args.bytes.now (entries_at c.args.bytes.now n (16 + 2 * n)) (16 + 2 * n) c.walk.i c.walk.at c.walk.bytes (omega (arith, e)) c.requires.row (omega (arith, e, c.walk-test.true)) c.walk.invariant.at c.walk.invariant.bytes).room)

pub read_two-key-requires : goal.read_two-key-requires
read_two-key-requires c = let st = step (goal.at.read_two-key-requires c).After-write_two in omega (arith, st.room, st.was_long, c.write_two.ensures.length)

pub read_two-value-requires : goal.read_two-value-requires
read_two-value-requires c = let st = step (goal.at.read_two-value-requires c).After-write_two in omega (arith, st.room, st.was_long, c.write_two.ensures.length)

pub walk-preserved : goal.walk-preserved
walk-preserved c =
    let n = c.args.count in
    let m = entries_at c.args.bytes.now n (16 + 2 * n) in
    let st = step (goal.at.walk-preserved c).After-write_two in
    let j : suc c.walk.i ≡ c.walk.i + 1 = omega arith in
    let k = c.read_two-key.ensures.number ∙ ap (λ t. number_at c.walk.at t) c.write_two.ensures.bytes ∙ st.key in
    let v = c.read_two-value.ensures.number ∙ ap (λ t. number_at (c.walk.at + 2) t) c.write_two.ensures.bytes ∙ st.value in
    record {
      bytes = c.write_two.ensures.bytes ∙ st.written ∙ ap (λ t. pasted c.args.bytes.now 16 (slots (16 + 2 * n) (take t m))) j;
      at = ap₂ (λ s t. c.walk.at + 4 + s + t) k v ∙ st.next ∙ ap (λ t. 16 + 2 * n + length (cells (take t m))) j;
    }

pub returns-clause-slots : goal.returns-clause-slots
returns-clause-slots c =
    let n = c.args.count in
    let m = entries_at c.args.bytes.now n (16 + 2 * n) in
    c.walk.invariant.bytes ∙ ap (λ t. pasted c.args.bytes.now 16 (slots (16 + 2 * n) t)) (take_all c.walk.i m (omega (arith, entries-length c.args.bytes.now n (16 + 2 * n), c.walk-test.false)))

pub returns-clause-end : goal.returns-clause-end
returns-clause-end c =
    let n = c.args.count in
    let m = entries_at c.args.bytes.now n (16 + 2 * n) in
    c.walk.invariant.at ∙ ap (λ t. 16 + 2 * n + length (cells t)) (take_all c.walk.i m (omega (arith, entries-length c.args.bytes.now n (16 + 2 * n), c.walk-test.false)))

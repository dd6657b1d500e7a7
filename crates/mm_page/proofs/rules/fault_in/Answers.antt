use Rattle.std.proofs.Common.{◌≡◌, ◌+◌, suc, ◌-◌, sym, ap, ap₂, ◌∙◌, subst, arith, refl}
use Rattle.mm_page.specs.Leaf.{block, cell_end, key_at, two}
use Rattle.mm_page.specs.Inside.Rows.{AreCells}
use Rattle.mm_page.proofs.Reading.{fault-step, fault-some, cells-step, fault-found, fault-sort, fault-slots, right-leaf}
use Rattle.mm_page.proofs.rules.fault_in.Goals as goal

pub returns-then-sort-ne76-clause-fault : goal.returns-then-sort-ne76-clause-fault
returns-then-sort-ne76-clause-fault c = fault-sort c.args.bytes.now _ refl c.if-sort-ne76.true

pub returns-then-count-gt2040-clause-fault : goal.returns-then-count-gt2040-clause-fault
returns-then-count-gt2040-clause-fault c = fault-slots c.args.bytes.now _ c.read_two-count.ensures.number c.if-sort-ne76.false c.if-count-gt2040.true

pub returns-in-Some-clause-fault : goal.returns-in-Some-clause-fault
returns-in-Some-clause-fault c =
    let bytes = c.args.bytes.now in
    let n = c.read_two-count.ensures.number in
    sym (fault-found bytes c.if-sort-ne76.false (omega (arith, n, c.if-count-gt2040.false)) ∙ c.walk.invariant.fault
    ∙ fault-some bytes (c.read_two-count.result - c.walk.i) (c.read_two-count.result - c.walk.i - 1) c.walk.i c.walk.at c.walk.last.now c.in-Some.wrong (omega (arith, c.walk-test.true)) (sym c.cell_fault.ensures.fault ∙ c.in-Some.is))

pub walk-preserved : goal.walk-preserved
walk-preserved c =
    let bytes = c.args.bytes.now in
    let n = c.read_two-count.result - c.walk.i in
    let p = c.read_two-count.result - (c.walk.i + 1) in
    let k = c.read_two-key.ensures.number in
    let to : c.walk.at + 4 + c.read_two-key.result + c.read_two-value.result ≡ cell_end bytes c.walk.at
    = ap₂ (λ x y. c.walk.at + 4 + x + y) k c.read_two-value.ensures.number in
    let key : c.part-last-in-walk.result.now ≡ key_at bytes c.walk.at = c.part-last-in-walk.ensures ∙ ap (λ x. block (c.walk.at + 4) x bytes) k in
    let r = c.cell_fault.ensures.right c.in_default.is in
    let a : n ≡ suc p = omega (arith, c.walk-test.true) in
    let j : c.walk.i + 1 ≡ suc c.walk.i = omega arith in
    record {
      within = omega (arith, to, r.room);
      fault = c.walk.invariant.fault ∙ fault-step bytes n p c.walk.i (c.walk.i + 1) c.walk.at _ c.walk.last.now _ a j to key (sym c.cell_fault.ensures.fault ∙ c.in_default.is);
      cells = λ h. c.walk.invariant.cells (cells-step bytes n p c.walk.i (c.walk.i + 1) c.walk.at _ c.walk.last.now _ a j to key r h);
    }

pub returns-clause-fault : goal.returns-clause-fault
returns-clause-fault c =
    let bytes = c.args.bytes.now in
    let n = c.read_two-count.ensures.number in
    let z : c.read_two-count.result - c.walk.i ≡ 0 = omega (arith, c.walk-test.false) in
    sym (fault-found bytes c.if-sort-ne76.false (omega (arith, n, c.if-count-gt2040.false)) ∙ c.walk.invariant.fault ∙ ap (λ t. Rattle.mm_page.specs.Rules.fault_from bytes t c.walk.i c.walk.at c.walk.last.now) z)

pub returns-clause-leaf : goal.returns-clause-leaf
returns-clause-leaf c h =
    let bytes = c.args.bytes.now in
    let z : c.read_two-count.result - c.walk.i ≡ 0 = omega (arith, c.walk-test.false) in
    right-leaf bytes c.requires c.if-sort-ne76.false (c.read_two-count.ensures.bytes ∙ ap two c.read_two-count.ensures.number)
    (c.walk.invariant.cells (subst (λ t. AreCells bytes t c.walk.i c.walk.at c.walk.last.now) (sym z) c.walk.invariant.within))

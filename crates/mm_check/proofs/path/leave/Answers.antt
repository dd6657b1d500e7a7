use Rattle.std.proofs.Common.{◌∙◌, sym}
use Rattle.mm_check.proofs.Paths.{left_all, popped}
use Rattle.mm_check.proofs.path.leave.Goals as goal

pub loop-path-preserved-in-loop-path : goal.loop-path-preserved-in-loop-path
loop-path-preserved-in-loop-path c = λ nested.
    popped c.args.label.now c.args.path.now c.loop-path.path c.pop-left.new.self c.pop-left.result c.pop-left.ensures (rw c.as_slice.ensures at c.loop-path-test.ensures) (c.loop-path.invariant nested)

pub loop-path-preserved-in-loop-path-2 : goal.loop-path-preserved-in-loop-path-2
loop-path-preserved-in-loop-path-2 c = λ nested.
    popped c.args.label.now c.args.path.now c.loop-path.path c.pop-left.new.self c.pop-left.result c.pop-left.ensures (rw c.as_slice.ensures at c.loop-path-test.ensures) (c.loop-path.invariant nested)

pub returns : goal.returns
returns c = λ nested.
    let i = c.loop-path.invariant nested in
    sym (left_all c.args.label.now c.loop-path.path i.0 (sym (rw c.as_slice.ensures at c.loop-path-test.ensures))) ∙ i.1

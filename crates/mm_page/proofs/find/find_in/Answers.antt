use Rattle.std.proofs.Common.{◌+◌, ◌-◌, ◌/◌, ◌<◌, length, sym, ◌∙◌, arith}
use Rattle.mm_page.specs.Leaf.{entries_of}
use Rattle.mm_page.proofs.Rows.{leaf-count}
use Rattle.mm_keeper.specs.Facts.Keys.{rank_at_most}
use Rattle.mm_page.proofs.Finding.{rank-above, rank-most}
use Rattle.mm_page.proofs.find.find_in.Goals as goal

pub halving-init : goal.halving-init
halving-init c =
    let m = entries_of c.args.bytes.now in
    let k = c.args.key.now in
    let n = c.read_two-count.ensures.number ∙ leaf-count c.args.bytes.now c.requires.leaf in
    record { low = omega arith; high = omega (arith, n, rank_at_most k m); most = omega (arith, n) }

pub halving-preserved-then-is_below : goal.halving-preserved-then-is_below
halving-preserved-then-is_below c =
    let m = entries_of c.args.bytes.now in
    let k = c.args.key.now in
    let middle = c.halving.low + (c.halving.high - c.halving.low) / 2 in
    let within : middle < length m = omega (arith, c.halving-test.true, c.halving.invariant.most) in
    let r = rank-above k m middle c.requires.leaf.holds.rises within (sym c.is_below.ensures ∙ c.if-is_below.true) in
    record { low = omega (arith, r); high = c.halving.invariant.high; most = c.halving.invariant.most }

pub halving-preserved : goal.halving-preserved
halving-preserved c =
    let m = entries_of c.args.bytes.now in
    let k = c.args.key.now in
    let middle = c.halving.low + (c.halving.high - c.halving.low) / 2 in
    let within : middle < length m = omega (arith, c.halving-test.true, c.halving.invariant.most) in
    let r = rank-most k m middle (sym c.is_below.ensures ∙ c.if-is_below.false) in
    record { low = c.halving.invariant.low; high = r; most = omega (arith, within) }

use Rattle.std.proofs.Common.{◌∙◌, sym, ap, arith, add-one, length, take, slice_set, true}
use Rattle.mm_tree.specs.Inside.Searching.{either}
use Rattle.mm_tree.proofs.FlagFacts.{length-either, either-none, either_same, either_set}
use Rattle.mm_tree.proofs.search.join.Goals.{then-others-at, else-others-at}
use Rattle.mm_tree.proofs.search.join.Goals as goal

pub loop-at-init : goal.loop-at-init
loop-at-init c = sym (either-none c.args.flags.now)

pub set-requires : goal.set-requires
set-requires c = omega (arith, c.requires, c.loop-at-test.true, ap length c.loop-at.invariant, length-either c.args.flags.now (take c.loop-at.at c.args.others.now))

pub loop-at-preserved : goal.loop-at-preserved
loop-at-preserved c =
    let next = ap (λ n. either c.args.flags.now (take n c.args.others.now)) (add-one c.loop-at.at) in
    elim c.if-others-at.branch [
      | then-others-at w ↦
          w.flags-is ∙ w.set.ensures ∙ ap (λ flags. slice_set flags c.loop-at.at true) c.loop-at.invariant
          ∙ sym (next ∙ either_set c.args.flags.now c.args.others.now c.loop-at.at c.loop-at-test.true w.if-others-at.true)
      | else-others-at w ↦
          w.flags-is ∙ c.loop-at.invariant ∙ sym (next ∙ either_same c.args.flags.now c.args.others.now c.loop-at.at c.loop-at-test.true w.if-others-at.false)
    ]

use Rattle.std.proofs.Common.{◌≡◌, ◌≤◌, ◌+◌, ◌-◌, ◌^◌, ◌∙◌, ℕ, List, [], ap, sym, arith, drop}
use Rattle.std.specs.Prelude.{min}
use Rattle.std.proofs.lemmas.List.{drop_all}
use Rattle.mm_image.specs.declared.entry.Entry.{Entry}
use Rattle.mm_image.specs.Keyed.{keyed}
use Rattle.mm_keeper.specs.Entries.{weight_of}
use Rattle.mm_edit.proofs.weighing.weight.Goals as goal

pub returns : goal.returns
returns c =
    let w = c.loop-entry.weight in
    let none : drop c.loop-entry.entry-index c.args.entries.now ≡ [] = drop_all c.loop-entry.entry-index c.args.entries.now (omega (arith, c.loop-entry-test.false)) in
    whole w c.loop-entry.invariant.small ∙ (ap (λ (es : List Entry). min (w + weight_of (keyed es)) (2 ^ 64 - 1)) (sym none) ∙ c.loop-entry.invariant.sum)
  where
    whole : (n : ℕ) → n ≤ 2 ^ 64 - 1 → n ≡ min (n + 0) (2 ^ 64 - 1)
    whole n l = grind arith

use Rattle.std.proofs.Common.{◌<◌, ◌≤◌, length, get_or, sym, ap, ◌∙◌, subst, le-ltb}
use Rattle.std.specs.Str.{bytes_eq}
use Rattle.mm_keeper.specs.Facts.Keys.{has-in, has-out}
use Rattle.mm_keeper.proofs.block.holds.Goals as goal

pub returns-then-at-items-clause-has : goal.returns-then-at-items-clause-has
returns-then-at-items-clause-has c =
    let m = c.args.items.now in
    let k = c.args.key.now in
    c.has_key.ensures ∙ ap (λ e. bytes_eq e.0 k) (c.index-items-at.is ∙ ap (λ i. get_or m i c.index-items-at.result) c.requires)
    ∙ sym (has-in k m c.index-items-at.result (subst (λ i. i < length m) c.requires c.if-at-items.true))

pub returns-else-at-items-clause-has : goal.returns-else-at-items-clause-has
returns-else-at-items-clause-has c =
    let m = c.args.items.now in
    let k = c.args.key.now in
    le-ltb _ _ c.if-at-items.false ∙ sym (has-out k m (subst (λ i. length m ≤ i) c.requires c.if-at-items.false))

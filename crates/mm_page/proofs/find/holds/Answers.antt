use Rattle.std.proofs.Common.{◌≡◌, [], get_or, false, nat_lt, sym, ap, ◌∙◌, arith}
use Rattle.std.specs.Str.{bytes_eq}
use Rattle.mm_page.specs.Leaf.{entries_of}
use Rattle.mm_keeper.specs.Facts.Keys.{has-in, has-out}
use Rattle.mm_page.proofs.find.holds.Goals as goal

pub returns-then-index-count : goal.returns-then-index-count
returns-then-index-count c =
    let m = entries_of c.args.bytes.now in
    let k = c.args.key.now in
    c.eq.ensures ∙ ap (λ t. bytes_eq t k) c.key_in.ensures ∙ ap (λ i. bytes_eq (get_or m i ([], [])).0 k) c.requires.index
    ∙ sym (has-in k m ([], []) (omega (arith, c.requires.index, c.requires.count, c.if-index-count.true)))

pub returns-else-index-count : goal.returns-else-index-count
returns-else-index-count c =
    let m = entries_of c.args.bytes.now in
    let f : nat_lt c.args.index c.args.count ≡ false = grind (arith, c.if-index-count.false) in
    f ∙ sym (has-out c.args.key.now m (omega (arith, c.requires.index, c.requires.count, c.if-index-count.false)))

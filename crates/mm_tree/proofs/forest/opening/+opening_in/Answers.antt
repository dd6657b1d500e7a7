use Rattle.std.proofs.Common.{ap, sym, ◌∙◌, true, false}
use Rattle.std.specs.Prelude.{Some, option_map}
use Rattle.mm_label.specs.Refusals.{front_of}
use Rattle.mm_tree.proofs.GapFacts.{gaps_none, gaps_at}
use Rattle.mm_tree.proofs.forest.opening.+opening_in.Goals as goal

pub returns-in-None : goal.returns-in-None
returns-in-None t c = gaps_none c.args.place c.args.target.now (front_of (option_map (λ p. p.now) c.args.parent)) c.args.trees.now c.way-at.result c.way-at.ensures (sym c.in-None.ensures)

pub returns-then-is_same : goal.returns-then-is_same
returns-then-is_same t c =
    gaps_at c.args.place c.args.target.now (front_of (option_map (λ p. p.now) c.args.parent)) c.args.trees.now c.in-Some.node.now c.way-at.result true c.way-at.ensures (sym c.in-Some.ensures) (sym c.if-is_same.true ∙ c.is_same.ensures)
    ∙ ap (λ g. Some g) (sym c.opening_at.ensures)

pub returns-else-is_same : goal.returns-else-is_same
returns-else-is_same t c =
    rw (gaps_at c.args.place c.args.target.now (front_of (option_map (λ p. p.now) c.args.parent)) c.args.trees.now c.in-Some.node.now c.way-at.result false c.way-at.ensures (sym c.in-Some.ensures) (sym c.if-is_same.false ∙ c.is_same.ensures), ← c.as_slice.ensures) c.opening_in.ensures

use Rattle.std.proofs.Common.{ap, sym, ◌∙◌}
use Rattle.mm_label.specs.Between.{first_out}
use Rattle.mm_label.proofs.BetweenFacts.{made_lies, none_out}
use Rattle.mm_label.proofs.gap.between.Goals as goal

pub returns-in-None-clause-segment : goal.returns-in-None-clause-segment
returns-in-None-clause-segment c = record {
  in_range = none_out c.in_ok-segment.segment.items (ap first_out (sym c.as_slice.ensures.value) ∙ sym c.first_out.ensures ∙ c.in-None.is);
  one = (made_lies c.args.left c.args.right c.in_ok-segment.segment.items c.requires.left c.requires.right c.requires.ordered c.in_ok-segment.ensures).one;
}

pub returns-in-None-clause-lies : goal.returns-in-None-clause-lies
returns-in-None-clause-lies c =
    made_lies c.args.left c.args.right c.in_ok-segment.segment.items c.requires.left c.requires.right c.requires.ordered c.in_ok-segment.ensures

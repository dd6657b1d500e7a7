use Rattle.std.proofs.Common.{◌∙◌, length, refl}
use Rattle.mm_tree.proofs.FlagFacts.{no_flag_set}
use Rattle.mm_tree.proofs.search.no_flags.Goals as goal

pub returns : goal.returns
returns c = c.from_vec.ensures ∙ c.in_ok-vec.ensures.items_if_clones_equal (λ y e. e) ∙ no_flag_set c.args.query.now (length c.args.query.now) refl

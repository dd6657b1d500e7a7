use Rattle.std.proofs.Common.{ap, ◌∙◌, List}
use Rattle.mm_tree.specs.declared.fragment.Fragment.{Fragment}
use Rattle.mm_tree.specs.Fragments.{fragment_trees}
use Rattle.mm_tree.specs.Numbering.{forest_of}
use Rattle.mm_fragment.specs.Showing.{shown_at}
use Rattle.mm_fragment.proofs.Shows.{shown_is}
use Rattle.mm_fragment.proofs.showing.show.Goals as goal

pub returns : goal.returns
returns c =
    let query = c.args.query.now in
    let f = forest_of c.args.forest.now in
    shown_is query f c.args.label c.in_ok-name.field-0.name c.in_ok-name.field-0.matches c.new.result c.in_ok-name.ensures.name c.in_ok-name.ensures.matches
    ∙ ap (λ (fs : List Fragment). (shown_at query f c.args.label, fragment_trees fs)) c.new.ensures

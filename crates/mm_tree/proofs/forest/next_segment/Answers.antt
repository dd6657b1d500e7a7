use Rattle.std.proofs.Common.{◌≡◌, ◌∙◌, ap, sym, [], List}
use Rattle.std.specs.Prelude.{Some, None, ℤ}
use Rattle.mm_tree.specs.Numbering.{forest_of}
use Rattle.mm_tree.specs.Forests.{last_segment}
use Rattle.mm_tree.proofs.LoadFacts.{goes_on_from, value_from, lies_from, refused_from}
use Rattle.mm_tree.proofs.forest.next_segment.Goals as goal
use Rattle.mm_tree.proofs.forest.next_segment.Goals.{After-drop-last}

last_is : (c : After-drop-last) → last_segment [] None (forest_of c.args.trees.now) ≡ Some c.as_slice.result.now
last_is c =
    goes_on_from c.args.trees.now c.in-Some.tree.now c.in_ok-last-in-Some.ensures.last.0 c.in_ok-last-in-Some.last.items c.requires (sym c.in-Some.ensures.value) c.in_ok-last-in-Some.ensures.last.1
    ∙ ap (λ (z : List ℤ). Some z) (sym c.as_slice.ensures.value)

pub returns-in_ok-last-in-Some-clause-value : goal.returns-in_ok-last-in-Some-clause-value
returns-in_ok-last-in-Some-clause-value c = value_from c.between-in-Some.result _ _ (last_is c) c.between-in-Some.ensures.value

pub returns-in_ok-last-in-Some-clause-lies : goal.returns-in_ok-last-in-Some-clause-lies
returns-in_ok-last-in-Some-clause-lies c = lies_from c.between-in-Some.result _ _ (last_is c) c.between-in-Some.ensures.lies

pub returns-in_ok-last-in-Some-clause-refused : goal.returns-in_ok-last-in-Some-clause-refused
returns-in_ok-last-in-Some-clause-refused c = refused_from c.between-in-Some.result _ _ (last_is c) c.between-in-Some.ensures.refused

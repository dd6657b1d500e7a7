use Rattle.std.proofs.Common.{◌≡◌, sym, ◌∙◌}
use Rattle.std.specs.Prelude.{IfOk, IfErr, option_map}
use Rattle.mm_label.specs.Between.{between, IsOrdered, LiesBetween}
use Rattle.mm_label.specs.Refusals.{RefusesSegment}
use Rattle.mm_tree.specs.Edits.{left_segment, right_segment}
use Rattle.mm_tree.specs.Gaps.{gap_of}
use Rattle.mm_tree.proofs.OpenFacts.{segments_are, moved}
use Rattle.mm_tree.proofs.forest.label.new_segment.Goals as goal
use Rattle.mm_tree.proofs.forest.label.new_segment.Goals.{Joined-left-2}

left_is : (c : Joined-left-2) → option_map (λ s. s.now) c.as_slice.result ≡ left_segment (gap_of c.args.opening)
left_is c = c.as_slice.ensures ∙ segments_are (gap_of c.args.opening).parent (gap_of c.args.opening).left (option_map (λ v. v.items) c.in_ok-left.left) c.requires.parent c.requires.left c.in_ok-left.ensures

right_is : (c : Joined-left-2) → option_map (λ s. s.now) c.as_slice-2.result ≡ right_segment (gap_of c.args.opening)
right_is c = c.as_slice-2.ensures ∙ segments_are (gap_of c.args.opening).parent (gap_of c.args.opening).right (option_map (λ v. v.items) c.in_ok-right.right) c.requires.parent c.requires.right c.in_ok-right.ensures

pub between-requires-clause-ordered : goal.between-requires-clause-ordered
between-requires-clause-ordered c =
    let g = gap_of c.args.opening in
    moved IsOrdered (left_segment g) (right_segment g) _ _
    (sym (c.as_slice.ensures ∙ segments_are g.parent g.left (option_map (λ v. v.items) c.in_ok-left.left) c.requires.parent c.requires.left c.in_ok-left.ensures))
    (sym (c.as_slice-2.ensures ∙ segments_are g.parent g.right (option_map (λ v. v.items) c.in_ok-right.right) c.requires.parent c.requires.right c.in_ok-right.ensures))
    c.requires.ordered

pub returns-clause-value : goal.returns-clause-value
returns-clause-value c = moved (λ l r. IfOk c.between.result (λ v. v.items ≡ between l r)) _ _ _ _ (left_is c) (right_is c) c.between.ensures.value

pub returns-clause-lies : goal.returns-clause-lies
returns-clause-lies c = moved (λ l r. IfOk c.between.result (λ v. LiesBetween l v.items r)) _ _ _ _ (left_is c) (right_is c) c.between.ensures.lies

pub returns-clause-refused : goal.returns-clause-refused
returns-clause-refused c = moved (λ l r. IfErr c.between.result (λ e. RefusesSegment e (between l r))) _ _ _ _ (left_is c) (right_is c) c.between.ensures.refused

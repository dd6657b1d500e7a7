use Rattle.std.proofs.Common.{refl, ◌+◌, length, rules}
use Rattle.std.specs.Prelude.{map}
use Rattle.std.proofs.lemmas.Result.{err_from_is_err_and}
use Rattle.std.specs.Vec.Iter.{into_iter_items}
use Rattle.mm_tree.specs.Trees.{tree_of}
use Rattle.mm_tree.specs.Numbering.{node_of}
use Rattle.mm_tree.proofs.NumberFacts.{label_fails, child_fails, is_done, goes_on, still_fit, fewer_left, next_place}
use Rattle.mm_tree.proofs.node.+number.Goals as goal

pub returns-in_err-under : goal.returns-in_err-under
returns-in_err-under t c =
    let p = err_from_is_err_and c.from_residual-in_err-under.result c.from_residual-in_err-under.ensures.1 in
    rw (p.1, p.2) (label_fails c.args.tree c.args.label (length c.loop-child.nodes + 1) (map node_of c.loop-child.nodes) (into_iter_items c.loop-child.child-iterator) (into_iter_items c.next.new.self) c.in-Some.child c.in_err-under.field-0.0 c.in-Some.ensures.steps.0 c.loop-child.invariant.same (rw (← c.len-in-loop-child.ensures) c.in_err-under.ensures))

pub returns-in_err-numbered : goal.returns-in_err-numbered
returns-in_err-numbered t c =
    let p = err_from_is_err_and c.from_residual-in_err-numbered.result c.from_residual-in_err-numbered.ensures.1 in
    rw (p.1, p.2) (child_fails c.args.tree c.args.label (length c.loop-child.nodes + 1) (map node_of c.loop-child.nodes) (into_iter_items c.loop-child.child-iterator) (into_iter_items c.next.new.self) c.in-Some.child c.in_err-numbered.field-0.0 c.in-Some.ensures.steps.0 c.loop-child.invariant.same (rw (← c.len-in-loop-child.ensures, ← c.in_ok-under.ensures.0) c.in_err-numbered.ensures))

pub loop-child-preserved : goal.loop-child-preserved
loop-child-preserved t c = record {
  kind = c.loop-child.invariant.kind;
  may_step = search rules;
  ends = search rules;
  whole = fewer_left (into_iter_items c.loop-child.child-iterator) (into_iter_items c.next.new.self) c.in-Some.child _ _ c.loop-child.invariant.whole c.in-Some.ensures.steps.0 c.in-Some.ensures.steps.1;
  same = goes_on c.args.label (length c.loop-child.nodes + 1) _ _ c.loop-child.nodes c.push.new.self c.in_ok-numbered.numbered (into_iter_items c.loop-child.child-iterator) (into_iter_items c.next.new.self) c.in-Some.child c.in-Some.ensures.steps.0 c.loop-child.invariant.same (rw (← c.len-in-loop-child.ensures, ← c.in_ok-under.ensures.0) c.in_ok-numbered.ensures.0) c.in_ok-push.ensures.ok (next_place c.loop-child.nodes _ c.push.new.self c.in_ok-push.ensures.ok);
  fit = still_fit c.loop-child.nodes c.push.new.self c.in_ok-numbered.numbered c.in_ok-under.under (tree_of c.in-Some.child) c.in_ok-push.ensures.ok c.loop-child.invariant.fit c.in_ok-numbered.ensures.0 (rw c.in_ok-under.ensures.0 c.in_ok-under.ensures.1) c.in_ok-numbered.ensures.1;
}

pub returns : goal.returns
returns t c =
    is_done c.args.tree c.args.label (length c.loop-child.nodes + 1) _ c.loop-child.nodes c.loop-child.nodes (into_iter_items c.loop-child.child-iterator) _ c.loop-child.invariant.whole c.in-None.ensures.steps.0 c.loop-child.invariant.same c.loop-child.invariant.fit refl c.loop-child.invariant.kind

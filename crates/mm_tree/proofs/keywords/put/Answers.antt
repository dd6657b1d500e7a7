use Rattle.std.proofs.Common.{ℕ, ◌≡◌, List, Some, cond, subst, refl}
use Rattle.std.specs.BTreeMap.{BTreeMap, get}
use Rattle.std.specs.Ordering.{nat_cmp, is_eq}
use Rattle.std.specs.Cmp.Lexicographic.{slice_cmp}
use Rattle.mm_label.specs.Fronts.{Label}
use Rattle.std.specs.Prelude.{IsSome}
use Rattle.mm_tree.proofs.Gathering.{put_is, filled_more, found_list, no_list}
use Rattle.mm_tree.proofs.keywords.put.Goals as goal

pub returns-in-Some : goal.returns-in-Some
returns-in-Some c =
    let h = c.get_mut.follows.holds c.push.new.self in
    let v = c.in-Some.ensures.value in
    let updates = (h.3 (subst IsSome v refl)).0 in
    let new = c.get_mut.follows.lender c.push.new.self in
    record {
      lists = put_is c.args.lists.now new c.args.word c.in-Some.list.now c.push.new.self c.args.label (found_list c.args.lists.now c.args.word c.in-Some.list.now v) c.in_ok-push.ensures.ok updates;
      filled = filled_more c.args.lists.now new c.args.word c.in-Some.list.now c.push.new.self c.args.label c.in_ok-push.ensures.ok updates;
    }

pub returns : goal.returns
returns c =
    let same : c.get_mut.follows.lender-at-none ≡ c.args.lists.now = c.get_mut.follows.holds-at-none in
    let updates = subst (λ (m : BTreeMap (List ℕ) (List Label)). (q : List ℕ) → get (slice_cmp nat_cmp) c.insert.new.self q ≡ cond (is_eq (slice_cmp nat_cmp c.args.word q)) (Some c.push-2.new.self) (get (slice_cmp nat_cmp) m q)) same c.in_ok-insert.ensures.updates.0 in
    record {
      lists = put_is c.args.lists.now c.insert.new.self c.args.word c.new-list.result c.push-2.new.self c.args.label (no_list c.args.lists.now c.args.word c.new-list.result c.in_default.ensures.value c.new-list.ensures) c.in_ok-push-2.ensures.ok updates;
      filled = filled_more c.args.lists.now c.insert.new.self c.args.word c.new-list.result c.push-2.new.self c.args.label c.in_ok-push-2.ensures.ok updates;
    }

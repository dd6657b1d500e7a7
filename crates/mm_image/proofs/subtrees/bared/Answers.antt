use Rattle.std.proofs.Common.{◌≡◌, ◌∷◌, [], ◌+◌, ℕ, List, length, ap, subst, ◌∙◌, None, arith}
use Rattle.std.specs.Vec.Iter.{into_iter_items}
use Rattle.std.proofs.lemmas.List.{map-append}
use Rattle.mm_image.specs.Content.{IsContent, IsKindOf}
use Rattle.mm_image.specs.Inside.Cutting.{join}
use Rattle.mm_image.specs.Inside.Rebuilding.{bare, bared}
use Rattle.mm_image.proofs.Making.{Making, making_fails, making_more}
use Rattle.mm_image.proofs.subtrees.bared.Goals as goal

shorter : {X : Type 0} (n m : ℕ) (xs ys : List X) (x : X) → n ≡ length xs → m + 1 ≡ n → xs ≡ x ∷ ys → m ≡ length ys
shorter n m xs ys x e f g = let t : length xs ≡ length (x ∷ ys) = ap length g in omega arith

pub returns-in-None-2 : goal.returns-in-None-2
returns-in-None-2 c =
    let left = into_iter_items c.next.new.self in
    let bytes = c.as_slice-in-loop-label.ensures.value ∙ c.in_ok-content.ensures ∙ ap join c.as_slice.ensures in
    making_fails c.args.groups left (bared c.loop-label.nodes.items) c.in-Some.field-0 (subst (Making c.args.groups (bared c.loop-label.nodes.items)) c.in-Some.ensures.steps.0 c.loop-label.invariant.made)
    (subst (λ (z : List ℕ). IsKindOf z None) bytes (rw c.in-None-2.is at c.in_ok-kind.ensures.whole))

pub loop-label-preserved : goal.loop-label-preserved
loop-label-preserved c =
    let left = into_iter_items c.next.new.self in
    let bytes = c.as_slice-in-loop-label.ensures.value ∙ c.in_ok-content.ensures ∙ ap join c.as_slice.ensures in
    record {
      may_step = tt;
      ends = tt;
      whole = shorter _ _ _ left c.in-Some.field-0 c.loop-label.invariant.whole c.in-Some.ensures.steps.1 c.in-Some.ensures.steps.0;
      made = making_more c.args.groups left (bared c.loop-label.nodes.items) (bared c.push.new.self.items) c.in-Some.field-0 c.in-Some-2.kind c.requires (subst (Making c.args.groups (bared c.loop-label.nodes.items)) c.in-Some.ensures.steps.0 c.loop-label.invariant.made)
          (subst (λ (z : List ℕ). IsContent z c.in-Some-2.kind) bytes (rw c.in-Some-2.is at c.in_ok-kind.ensures.whole))
          (ap bared c.in_ok-push-in-Some-2.ensures.items ∙ map-append bare c.loop-label.nodes.items (record { label = c.in-Some.field-0.label; kind = c.in-Some-2.kind } ∷ []));
    }

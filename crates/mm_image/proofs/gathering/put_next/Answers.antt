use Rattle.std.proofs.Common.{◌∷◌, ◌++◌, [], ℕ, List, ap, sym, subst, ◌∙◌, arith}
use Rattle.std.specs.Ordering.{int_eq}
use Rattle.std.specs.Cmp.Lexicographic.{pointwise}
use Rattle.mm_label.specs.Facts.Order.{other_label, same_label}
use Rattle.mm_image.specs.declared.gathering.Group.{Group}
use Rattle.mm_image.specs.Inside.Gathered.{AreGroups, BeginNone, IsCut, gathered}
use Rattle.mm_image.specs.Keys.{chunk_key}
use Rattle.mm_image.proofs.Groups.{equal, goes_not_first, goes_not_on, groups_parts, put_behind, unequal}
use Rattle.mm_image.proofs.gathering.put_next.Goals as goal
use Rattle.mm_image.proofs.gathering.put_next.Goals.{then-ne-via-then-ne, then-ne-via-else-ne+then-len-ne-PIECE_LIMIT, then-ne-via-else-ne+else-len-ne-PIECE_LIMIT+then-stood-number}

pub returns-in_default : goal.returns-in_default
returns-in_default c =
    subst (λ (z : List Group). BeginNone (gathered z ++ (chunk_key c.args.label c.args.number, c.args.piece) ∷ [])) (sym c.in_default.ensures.0)
    (goes_not_first c.args.label c.args.number c.args.piece c.requires.later (omega (arith, c.ranges.number.fits)))

pub returns-in_default-pop : goal.returns-in_default-pop
returns-in_default-pop c =
    let t = groups_parts c.pop.new.self c.in-Some.field-0 (subst AreGroups c.in-Some.ensures c.requires.groups) in
    absurd (subst IsCut c.in_default-pop.ensures.0 t.1.cut)

pub returns-then-ne : goal.returns-then-ne
returns-then-ne c =
    goes_not_on c.one_label.ensures c.args.groups.now c.pop.new.self c.in-Some.field-0 c.pop-2.new.self c.in-Some-pop.last c.args.label c.args.number c.args.piece c.requires.groups c.in-Some.ensures c.in-Some-pop.ensures c.requires.label c.requires.later
    (omega (arith, c.ranges.number.fits))
    (λ n. elim c.then-ne.branch [
      | then-ne-via-then-ne w ↦ other_label c.in-Some.field-0.label c.args.label (unequal (pointwise int_eq c.in-Some.field-0.label c.args.label) c.ne.result c.ne.ensures w.if-ne.true) n.same
      | then-ne-via-else-ne+then-len-ne-PIECE_LIMIT w ↦ let l = w.len.ensures in let f = n.full in let t = w.if-len-ne-PIECE_LIMIT.true in t (omega arith)
      | then-ne-via-else-ne+else-len-ne-PIECE_LIMIT+then-stood-number w ↦ let l = c.len-stood.ensures in let f = n.next in let t = w.if-stood-number.true in t (omega arith)
    ])

pub returns : goal.returns
returns c = put_behind c.args.groups.now c.pop.new.self c.push-3.new.self c.in-Some.field-0 c.pop-2.new.self c.in-Some-pop.last c.args.label c.args.number c.args.piece c.requires.groups c.in-Some.ensures c.in-Some-pop.ensures
    (record {
      same = same_label c.in-Some.field-0.label c.args.label (equal (pointwise int_eq c.in-Some.field-0.label c.args.label) c.ne.result c.ne.ensures c.if-ne.false);
      next = (let l = c.len-stood.ensures in omega (arith, c.if-stood-number.false));
      full = (let l = c.len.ensures in omega (arith, c.if-len-ne-PIECE_LIMIT.false));
    }) (omega (arith, c.ranges.number.fits)) c.requires.piece
    (c.in_ok-push-3.ensures.ok
    ∙ ap (λ (z : List (List ℕ)). c.pop.new.self ++ record { label = c.in-Some.field-0.label; pieces = z } ∷ []) (c.in_ok-push-2.ensures.ok ∙ ap (λ (z : List (List ℕ)). z ++ c.args.piece ∷ []) c.in_ok-push.ensures.ok))

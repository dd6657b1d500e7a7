use Rattle.std.proofs.Common.{arith, ap, sym, ◌∙◌, subst, w64, rules, ℕ}
use Rattle.std.proofs.lemmas.Int.{to_z-of_z}
use Rattle.mm_label.specs.Label.{is_odd}
use Rattle.mm_label.proofs.HeldFacts.{Cutting, cutting_none, cutting_even, cutting_odd, cutting_all, rest_fits}
use Rattle.mm_label.proofs.walk.segment_start.Goals as goal
use Rattle.mm_label.proofs.walk.segment_start.Goals.{then-odd, else-odd}

pub loop-c-init : goal.loop-c-init
loop-c-init c = cutting_none c.args.bytes.now

pub loop-c-preserved : goal.loop-c-preserved
loop-c-preserved c =
    let o = c.is_odd-odd.ensures ∙ ap is_odd (to_z-of_z w64 c.in-Some.c (search rules)) in
    elim c.if-odd.branch [
      | then-odd w ↦
          cutting_odd c.args.bytes.now c.loop-c.rest.now c.in-Some.after.now c.loop-c.cut c.if-odd.cut c.is_odd-odd.result c.in-Some.c (λ k. omega (arith, c.type_inv.bytes k)) c.in-Some.ensures o
          (omega (arith, w.cut-is, rest_fits c.args.bytes.now c.loop-c.rest.now c.loop-c.cut c.loop-c.odd c.loop-c.invariant))
          (subst (λ b. Cutting c.args.bytes.now c.loop-c.rest.now c.loop-c.cut b) w.if-odd.true c.loop-c.invariant)
      | else-odd w ↦ let a = w.cut-is in let b = w.if-odd.false in
          subst (λ (n : ℕ). Cutting c.args.bytes.now c.in-Some.after.now n c.is_odd-odd.result) (sym w.cut-is)
          (cutting_even c.args.bytes.now c.loop-c.rest.now c.in-Some.after.now c.loop-c.cut c.is_odd-odd.result c.in-Some.c (λ k. omega (arith, c.type_inv.bytes k)) c.in-Some.ensures o
          (subst (λ b. Cutting c.args.bytes.now c.loop-c.rest.now c.loop-c.cut b) w.if-odd.false c.loop-c.invariant))
    ]

pub returns : goal.returns
returns c = cutting_all c.args.bytes.now c.loop-c.rest.now c.loop-c.cut c.loop-c.odd c.requires c.loop-c.invariant c.in_default.ensures

use Rattle.std.proofs.Common.{◌≡◌, ◌+◌, ℕ, length, ap, sym, ◌∙◌, arith, length-drop}
use Rattle.mm_keeper.specs.Entries.{Entries}
use Rattle.mm_keeper.specs.Blocks.{joined}
use Rattle.mm_logmap.specs.Batches.{changed, changes}
use Rattle.mm_logmap.specs.Inside.Spelled.{value_of}
use Rattle.mm_logmap.proofs.Changes.{changes-none, changes-next}
use Rattle.mm_logmap.proofs.batch.replay.Goals as goal

pub returns-in-Err-clause-err : goal.returns-in-Err-clause-err
returns-in-Err-clause-err c =
    let i = c.changes.invariant in
    let next = changes-next i.left.0 c.changes.place c.changes.rest.now (joined c.changes.map) (omega (arith, c.changes-test.true)) i.left.1 in
    i.left.2 ∙ next.2 ∙ c.in-Err.ensures.err (changes next.0) (joined c.changes.map)

pub changes-preserved : goal.changes-preserved
changes-preserved c =
    let i = c.changes.invariant in
    let m = joined c.changes.map in
    let rest = c.after-rest.result.now in
    let change = c.in-Ok.change in
    let next = changes-next i.left.0 c.changes.place c.changes.rest.now m (omega (arith, c.changes-test.true)) i.left.1 in
    let shorter : length rest + change.size ≡ length c.changes.rest.now = omega (arith, ap length c.after-rest.ensures, length-drop change.size c.changes.rest.now, c.in-Ok.ensures.size.1) in
    record {
      near = omega (arith, i.near, shorter);
      left = (
        next.0,
        omega (arith, i.left.1, ap (λ (n : ℕ). n) next.1, c.in-Ok.ensures.size.0, shorter),
        i.left.2 ∙ next.2 ∙ c.in-Ok.ensures.ok (changes next.0) m
            ∙ ap (λ r. changes next.0 (c.changes.place + change.size) r (changed m change.key.now (value_of change.removes change.value.now))) (sym c.after-rest.ensures)
            ∙ ap (λ (t : Entries). changes next.0 (c.changes.place + change.size) rest t) (sym c.in-Ok-apply.ensures.changed),
      );
      sorted = λ s. c.in-Ok-apply.ensures.sorted (i.sorted s);
      fit = λ f. c.in-Ok-apply.ensures.fit (i.fit f);
    }

pub returns-clause-ok : goal.returns-clause-ok
returns-clause-ok c = let i = c.changes.invariant in i.left.2 ∙ changes-none i.left.0 c.changes.place c.changes.rest.now (joined c.changes.map) c.changes-test.false

use Rattle.std.proofs.Common.{◌≡◌, ◌∙◌, ap, sym, ◌+◌, drop, List, ℕ}
use Rattle.mm_keeper.specs.Blocks.{joined}
use Rattle.mm_journal.specs.Records.{and_then}
use Rattle.mm_journal.specs.Records.Read.{Wrong}
use Rattle.mm_logmap.specs.Batches.{batch}
use Rattle.mm_logmap.specs.Log.{batches}
use Rattle.mm_logmap.proofs.Recording.{batches-next, batches-end, answers-on}
use Rattle.mm_logmap.proofs.opening.replay_all.Goals as goal

pub returns-in-Err-clause-err : goal.returns-in-Err-clause-err
returns-in-Err-clause-err c =
    let found = c.args.found.now in
    let m = joined c.records.map in
    let rest = drop (c.records.record-index + 1) found in
    let at = c.record-item.result.at + 10 in
    answers-on (λ damage. batch at c.as_slice.result.now m ≡ Wrong damage) (λ damage. batches found (joined c.args.map.now) ≡ Wrong damage) c.in-Err.fault
    (λ damage is. c.records.invariant.left ∙ batches-next found c.records.record-index c.record-item.result m c.records-test.true c.record-item.is
    ∙ ap (λ x. and_then x (batches rest)) (ap (λ (bytes : List ℕ). batch at bytes m) (sym c.as_slice.ensures) ∙ is))
    c.in-Err.ensures.err

pub records-preserved : goal.records-preserved
records-preserved c =
    let found = c.args.found.now in
    let m = joined c.records.map in
    let rest = drop (c.records.record-index + 1) found in
    let at = c.record-item.result.at + 10 in
    record {
      left = c.records.invariant.left ∙ batches-next found c.records.record-index c.record-item.result m c.records-test.true c.record-item.is
          ∙ ap (λ x. and_then x (batches rest)) (ap (λ (bytes : List ℕ). batch at bytes m) (sym c.as_slice.ensures) ∙ c.in-Ok.ensures.ok);
      sorted = λ s. c.in-Ok.ensures.sorted (c.records.invariant.sorted s);
      fit = λ f. c.in-Ok.ensures.fit (c.records.invariant.fit f);
    }

pub returns-clause-ok : goal.returns-clause-ok
returns-clause-ok c = c.records.invariant.left ∙ batches-end c.args.found.now c.records.record-index (joined c.records.map) c.records-test.false

use Rattle.std.proofs.Common.{◌≡◌, ◌+◌, ◌++◌, [], ◌∷◌, ℕ, List, All, drop, length, length-drop, sym, ap, subst, ◌∙◌, arith}
use Rattle.mm_journal.specs.Settled.{IsNear}
use Rattle.mm_journal.specs.declared.payload.Payload.{Payload}
use Rattle.mm_journal.proofs.Walking.{IsReadTo, read-next, read-wrong, near-more, answer-more}
use Rattle.mm_journal.proofs.reading.read_records.Goals as goal

pub returns-in-Err-clause-damaged : goal.returns-in-Err-clause-damaged
returns-in-Err-clause-damaged c =
    let i = c.records.invariant in
    answer-more ⊥ c.in-Err.fault
    (λ d wrong. read-wrong c.args.bytes.now c.records.at c.records.rest.now c.after-behind.result.now c.records.found.items d i.read c.requires.some i.some c.records-test.true c.after-behind.ensures wrong)
    c.in-Err.ensures.damaged

pub records-preserved : goal.records-preserved
records-preserved c =
    let i = c.records.invariant in
    let r = c.in-Ok.record in
    let behind = c.after-behind.result.now in
    let rest = c.after-rest.result.now in
    let size : c.len-size.result ≡ length r.bytes = c.len-size.ensures in
    let items : c.push_reserved.new.self.items ≡ c.records.found.items ++ r ∷ [] = c.push_reserved.ensures.items ∙ ap (λ (l : List Payload). l ++ r ∷ []) c.reserve.ensures.items in
    let behind_length : length behind + 1 ≡ length c.records.rest.now = omega (arith, ap (λ (l : List ℕ). length l) c.after-behind.ensures, length-drop 1 c.records.rest.now, i.some) in
    let rest_is : rest ≡ drop (41 + length r.bytes) behind = c.after-rest.ensures ∙ ap (λ (k : ℕ). drop (41 + k) behind) size in
    let rest_length : length rest + (41 + length r.bytes) ≡ length behind = omega (arith, ap (λ (l : List ℕ). length l) rest_is, length-drop (41 + length r.bytes) behind, c.in-Ok.ensures.whole) in
    let at : r.at ≡ c.records.at = ap (λ (p : Payload). p.at) c.in-Ok.ensures.body.is in
    record {
      some = omega (arith, rest_length, c.in-Ok.ensures.whole);
      place = omega (arith, i.place, rest_length, behind_length, size);
      near = subst (All IsNear) (sym items) (near-more c.records.found.items r i.near (omega (arith, at, i.place, behind_length, c.in-Ok.ensures.whole, c.requires.near)));
      read = subst (λ (k : ℕ). IsReadTo c.args.bytes.now (c.records.at + (42 + k)) rest c.push_reserved.new.self.items) (sym size)
          (subst (λ l. IsReadTo c.args.bytes.now (c.records.at + (42 + length r.bytes)) rest l) (sym items)
          (read-next c.args.bytes.now c.records.at c.records.rest.now behind rest c.records.found.items r i.read i.some c.records-test.true c.after-behind.ensures c.in-Ok.ensures.whole c.in-Ok.ensures.body rest_is));
    }

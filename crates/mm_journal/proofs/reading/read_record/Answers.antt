use Rattle.std.proofs.Common.{◌≡◌, ◌+◌, ℕ, List, take, drop, get_or, sym, ap, subst, ◌∙◌, arith}
use Rattle.mm_journal.specs.declared.payload.Payload.{Payload}
use Rattle.mm_journal.specs.Settled.{IsBody}
use Rattle.mm_journal.proofs.Walking.{body-read}
use Rattle.mm_journal.proofs.reading.read_record.Goals as goal

pub returns-clause-body : goal.returns-clause-body
returns-clause-body c =
    let at = c.args.at in
    let n = c.in-Ok.n in
    let behind = c.args.behind.now in
    let p : Payload = record { at = at; sort = get_or behind 8 0; bytes = c.in_ok-bytes.bytes } in
    let bytes : p.bytes ≡ take n (drop 9 behind) = c.in_ok-bytes.ensures ∙ ap (λ (k : ℕ). take k (drop 9 behind)) (omega arith) in
    let b = body-read at n behind (omega (arith, c.in-Ok.ensures.whole)) c.in-Ok.ensures.size c.in-Ok.ensures.digest p (ap (λ (l : List ℕ). record { at = at; sort = get_or behind 8 0; bytes = l }) bytes) in
    subst (λ (k : ℕ). IsBody at (take (41 + k) behind) p) (sym b.0) b.1

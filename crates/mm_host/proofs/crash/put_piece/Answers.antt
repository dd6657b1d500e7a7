use Rattle.std.proofs.Common.{◌∷◌, ℕ, sym, ap, ◌∙◌}
use Rattle.mm_host.specs.MemoryDisk.{with_front}
use Rattle.mm_host.proofs.Left.{front-none}
use Rattle.mm_host.proofs.crash.put_piece.Goals as goal

pub returns-then-left-eq0 : goal.returns-then-left-eq0
returns-then-left-eq0 c = λ ps.
    let a = c.args in
    let old = a.bytes.now.items in
    front-none a.area ps old ∙ ap (λ (n : ℕ). with_front a.area n (record { area = a.written; at = a.at; bytes = a.piece.now } ∷ ps) old) (sym c.if-left-eq0.true)

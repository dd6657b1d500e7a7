use Rattle.std.proofs.Common.{◌≡◌, ◌∷◌, ℕ, ◌+◌, ◌<◌, List, ◌++◌, get_or, arith, sym, ap, ◌∙◌, length}
use Rattle.byteorder.specs.Endian.{big_bytes, big_number}
use Rattle.mm_image.proofs.KeyFacts.{behind_first, numbered_back, no_chunk}
use Rattle.mm_image.proofs.parsed.parse_chunk.Goals as goal

pub returns-in-Some-2 : goal.returns-in-Some-2
returns-in-Some-2 c =
    let s = c.split_at.ensures in
    let front = c.split_at.result.0.now in
    let back = c.split_at.result.1.now in
    let n = c.read_u32-number.result in
    let five : length back ≡ 5 = omega arith in
    let bytes : (i : ℕ) → get_or back i 0 < 256 = λ i. let t = s.by_index.2 i 0 in let u = c.type_inv.rest (c.in-Some.end + i) in omega (arith, t, u) in
    let label = rw c.in-Some-2.is at c.in_ok-label.ensures in
    let is = numbered_back back n five c.if-back-ne0.false bytes (c.read_u32-number.ensures ∙ ap (big_number 4) (behind_first back)) in
    ((label.0, omega arith), ap (λ (z : List ℕ). 1 ∷ z) (ap (λ (z : List ℕ). z ++ (0 ∷ big_bytes 4 n)) label.1 ∙ (ap (λ (z : List ℕ). front ++ z) (sym is) ∙ sym s.by_index.0)))

pub returns-in-None : goal.returns-in-None
returns-in-None c =
    let s = c.split_at.ensures in
    no_chunk c.args.rest.now c.split_at.result.0.now c.split_at.result.1.now s.by_index.0 (omega arith) (rw c.in-None.is at c.in_ok-label.ensures)

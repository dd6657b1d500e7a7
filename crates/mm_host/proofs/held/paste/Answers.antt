use Rattle.std.proofs.Common.{◌≡◌, ◌+◌, ◌-◌, ◌++◌, ℕ, List, length, take, drop, ap, ◌∙◌, arith}
use borrow.Rule.Slice.PartMut.{put_mid}
use Rattle.mm_host.proofs.held.paste.Goals as goal

pub returns : goal.returns
returns c =
    let from = c.args.from in
    let old = c.args.bytes.now in
    let n = length c.args.piece.now in
    let count : from + n - from ≡ n = omega arith in
    ap (λ (k : ℕ). put_mid from k old c.copy_from_slice.new.self) count ∙ ap (λ (l : List ℕ). take from old ++ (l ++ drop n (drop from old))) c.copy_from_slice.ensures.after

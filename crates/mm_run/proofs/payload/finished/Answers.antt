use Rattle.std.proofs.Common.{◌≡◌, ◌∙◌, ◌-◌, ℕ, ap, arith, length, take, vec_len}
use Rattle.mm_run.proofs.Rows.{finished-is}
use Rattle.mm_run.proofs.payload.finished.Goals as goal

pub returns : goal.returns
returns c = λ rows is.
    let size : vec_len c.args.payload ≡ length c.args.payload.items = omega arith in
    finished-is rows c.args.payload.items c.from_vec.result is
    (c.from_vec.ensures ∙ c.pop.ensures.rest ∙ ap (λ (n : ℕ). take (n - 1) c.args.payload.items) size) (omega arith)

use Rattle.std.proofs.Common.{◌≡◌, ◌++◌, [], List, ℕ, ap, sym, subst, ◌∙◌, length, arith, Vec, Global}
use Rattle.std.proofs.lemmas.List.{append-nil}
use Rattle.mm_image.specs.Content.{piece_limit}
use Rattle.mm_image.specs.Inside.Cutting.{AreFull, join}
use Rattle.mm_image.proofs.PieceFacts.{join_push, full_push}
use Rattle.mm_image.specs.Facts.Results.{on_ok, either}
use Rattle.mm_image.proofs.pieces.close.Goals as goal

pub returns-clause-same : goal.returns-clause-same
returns-clause-same c =
    let full = c.args.full.now in
    let last = c.args.last.now.items in
    let piece : c.from_vec.result ≡ last = c.from_vec.ensures ∙ ap (λ (v : Vec ℕ Global). v.items) c.replace-piece.ensures.value in
    let none : c.replace-piece.new.dest.items ≡ [] = ap (λ (v : Vec ℕ Global). v.items) c.replace-piece.ensures.after ∙ c.new.ensures.items in
    on_ok c.push.result (λ e.
    ap (λ (z : List ℕ). join c.push.new.self ++ z) none
    ∙ (append-nil (join c.push.new.self)
    ∙ (ap join e
    ∙ (join_push full c.from_vec.result
    ∙ ap (λ (z : List ℕ). join full ++ z) piece)))) c.push.ensures.ok

pub returns-clause-full : goal.returns-clause-full
returns-clause-full c =
    let full = c.args.full.now in
    let piece : c.from_vec.result ≡ c.args.last.now.items = c.from_vec.ensures ∙ ap (λ (v : Vec ℕ Global). v.items) c.replace-piece.ensures.value in
    let size : length c.args.last.now.items ≡ piece_limit = omega arith in
    either c.push.result c.push.ensures.ok c.push.ensures.err
    (λ e. subst AreFull (sym e) (full_push full c.from_vec.result c.requires.full (ap length piece ∙ size)))
    (λ e. subst AreFull (sym e) c.requires.full)

use Rattle.std.proofs.Common.{◌≤◌, ◌++◌, ◌∙◌, List, ℕ, ap, length, subst, sym}
use Rattle.mm_keeper.specs.Entries.{Entries}
use Rattle.mm_image.specs.Inside.Cutting.{numbered}
use Rattle.mm_image.specs.Keyed.{keyed}
use Rattle.mm_image.specs.Facts.Results.{on_ok}
use Rattle.mm_image.specs.Facts.Pieces.{pieces_few, chunks_are}
use Rattle.mm_image.proofs.ChunkFacts.{valid_parts}
use Rattle.mm_image.proofs.bringing.push_chunks.Goals as goal

pub pieces_of-requires : goal.pieces_of-requires
pieces_of-requires c = valid_parts c.args.kind.now c.requires

pub push_pieces-requires : goal.push_pieces-requires
push_pieces-requires c = subst (λ (z : List (List ℕ)). length z ≤ 4294967296) (sym c.in_ok-pieces.ensures) (pieces_few c.args.kind.now c.requires)

pub returns : goal.returns
returns c =
    let label = c.args.label.now in
    let here = ap (numbered label 0) c.in_ok-pieces.ensures ∙ chunks_are label c.args.kind.now in
    on_ok c.push_pieces.result (λ e. e ∙ ap (λ (z : Entries). keyed c.args.entries.now ++ z) here) c.push_pieces.ensures

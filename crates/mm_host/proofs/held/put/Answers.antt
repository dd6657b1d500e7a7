use Rattle.std.proofs.Common.{rules, ◌≡◌, length, ◌∙◌}
use Rattle.std.specs.Prelude.{vec_len}
use Rattle.mm_host.specs.Disk.{put_bytes}
use Rattle.mm_host.proofs.Left.{put-grown, written-back}
use Rattle.mm_host.proofs.held.put.Goals as goal

pub returns-clause-ok : goal.returns-clause-ok
returns-clause-ok c =
    let old = c.args.bytes.now.items in
    let grown = c.grow.new.bytes.items in
    let piece = c.args.piece.now in
    let put : c.paste.new.bytes ≡ put_bytes old c.args.at piece = c.paste.ensures ∙ put-grown old c.deref_mut.result.now piece c.args.at (c.deref_mut.ensures.value ∙ c.in_ok-grow.ensures.ok) in
    let long : vec_len c.grow.new.bytes ≡ length grown = search rules in
    written-back old grown c.paste.new.bytes piece c.args.at c.grow.new.bytes.len put c.in_ok-grow.ensures.ok long

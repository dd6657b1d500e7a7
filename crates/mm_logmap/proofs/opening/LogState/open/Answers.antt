use Rattle.std.proofs.Common.{◌≡◌, sym, ap, ◌∙◌}
use Rattle.mm_host.specs.Disk.{Image}
use Rattle.mm_keeper.specs.Blocks.{joined}
use Rattle.mm_journal.specs.Records.{and_then}
use Rattle.mm_journal.specs.Records.Read.{Whole}
use Rattle.mm_logmap.specs.Log.{map_of_records, log}
use Rattle.mm_logmap.proofs.Staging.{opened}
use Rattle.mm_logmap.proofs.opening.LogState.open.Goals as goal

pub returns-in-Ok-clause-sound : goal.returns-in-Ok-clause-sound
returns-in-Ok-clause-sound g c =
    let a = (g.D.Disk.state c.from_disk.new.disk).journal in (
      (c.in-Ok.ensures.sorted, c.in-Ok.ensures.fit),
      (
        (λ _. c.in_ok-journal.ensures.unfailed),
        (λ told _.
            let whole : log a.now ≡ Whole (joined c.in-Ok.map) =
            ap (λ (i : Image). log i.journal) (c.in_ok-journal.ensures.same told) ∙ ap (λ r. and_then r map_of_records) (c.in_ok-journal.ensures.records told)
            ∙ ap map_of_records (sym c.as_slice.ensures.value) ∙ c.in-Ok.ensures.ok in
            opened c.in_ok-journal.journal a c.new.result.items (joined c.in-Ok.map) (c.in_ok-journal.ensures.at told) whole c.new.ensures.items),
      ),
    )

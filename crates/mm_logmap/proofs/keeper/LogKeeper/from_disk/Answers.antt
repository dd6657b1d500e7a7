use Rattle.mm_logmap.proofs.keeper.LogKeeper.from_disk.Goals as goal

pub returns-in-Ok-clause-sound : goal.returns-in-Ok-clause-sound
returns-in-Ok-clause-sound g c = rw (c.over.ensures.state, c.over.ensures.disk) c.in-Ok.ensures.sound

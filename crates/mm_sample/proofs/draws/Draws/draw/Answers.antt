use Rattle.std.proofs.Common.{◌*◌, ◌^◌}
use Rattle.std.proofs.Math.Nat.{mod-add-mod}
use Rattle.mm_sample.specs.Draws.{next}
use Rattle.mm_sample.proofs.draws.Draws.draw.Goals as goal

pub returns-clause-number : goal.returns-clause-number
unfolding next
returns-clause-number c = mod-add-mod (c.args.self.now.number * 6364136223846793005) (2 ^ 64) 1442695040888963407

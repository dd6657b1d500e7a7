use Rattle.mm_keeper.specs.Blocks.{joined}
use Rattle.mm_logmap.proofs.Fitting.{fit-after}
use Rattle.mm_logmap.proofs.batch.put.Goals as goal

pub returns-clause-fit : goal.returns-clause-fit
returns-clause-fit c = λ f. fit-after c.put.result c.args.key.now c.args.value.now (joined c.args.map.now) (joined c.put.new.self) c.put.ensures.ok c.put.ensures.err c.requires.key f

use Rattle.std.proofs.Common.{sym, subst, ◌∙◌}
use Rattle.mm_keeper.specs.Blocks.{joined}
use Rattle.mm_logmap.specs.Inside.Spelled.{HasFitKeys}
use Rattle.mm_logmap.proofs.Fitting.{fit-without, fit-held, told}
use Rattle.mm_logmap.proofs.batch.remove.Goals as goal

pub returns-clause-fit : goal.returns-clause-fit
returns-clause-fit c = λ f. subst HasFitKeys (sym c.remove.ensures.without) (fit-without c.args.key.now (joined c.args.map.now) f)

pub returns-clause-told : goal.returns-clause-told
returns-clause-told c = c.is_some.ensures ∙ told c.args.key.now (joined c.args.map.now) c.remove.result c.remove.ensures.before

pub returns-clause-short : goal.returns-clause-short
returns-clause-short c = λ f held. (fit-held c.args.key.now (joined c.args.map.now) f (sym (c.is_some.ensures ∙ told c.args.key.now (joined c.args.map.now) c.remove.result c.remove.ensures.before) ∙ held)).1

use Rattle.mm_image.proofs.Reaching.{over_image}
use Rattle.mm_image.proofs.subtrees.subtree.Goals as goal

pub returns-clause-image : goal.returns-clause-image
returns-clause-image g c = λ f h.
    let r = c.reach.ensures.reaches h.0 in
    over_image c.one_label.ensures c.ancestry.ensures c.images_rise.ensures c.args.label.now f (g.K.Keeper.seen c.args.keeper.now).now c.as_bytes-spelled.ensures.label h.1 h.2 c.reach.result r.some r.node r.damaged r.held

use Rattle.mm_keeper.specs.Blocks.{joined}
use Rattle.mm_logmap.proofs.Staging.{stays}
use Rattle.mm_logmap.proofs.keeper.LogKeeperKeeper.tick.Goals as goal

pub returns-clause-any_moment : goal.returns-clause-any_moment
returns-clause-any_moment g c = λ told unspent.
    let k = c.args.self.now in
    let l = stays g.D.Disk.moment g.D.Disk.left_since k.disk.now (g.D.Disk.state k.disk.now) k.state.journal k.state.staged.items (joined k.state.map) (λ i h. g.met.D.Disk.only_now k.disk.now i told h) (c.requires.1.1 told unspent) in
    record { later = l.later; each = l.each; before = l.before }

use Rattle.std.proofs.Common.{◌≡◌, ◌∙◌, ◌++◌}
use Rattle.mm_keeper.specs.Entries.{first_from}
use Rattle.mm_keeper_lists.specs.Ranges.{range_key}
use Rattle.mm_keeper_lists.proofs.Answering.{up_told, label_sound, label_blames, leaves_of}
use Rattle.mm_keeper_lists.proofs.lists.KeeperLists.look_up.Goals as goal

pub returns-in-Ok-clause-value : goal.returns-in-Ok-clause-value
returns-in-Ok-clause-value g c = λ f s.
    let k = c.args.self.now.keeper.now in
    let key = range_key c.args.word.now (c.args.front.now ++ c.args.behind.now) in
    let is_key : c.as_slice.result.now ≡ key = ◌∙◌ {c = key} c.as_slice.ensures.value c.in-Ok.ensures.key in
    up_told c.args.word.now c.as_slice.result.now key f (g.K.Keeper.seen k).now s.2 (g.met.K.Keeper.sorted k c.args.self.now.sound s.0) is_key c.label_up.result ((c.label_up.ensures.reads s.0).told)

pub returns-in-Ok-clause-leaves : goal.returns-in-Ok-clause-leaves
returns-in-Ok-clause-leaves g c =
    let w = c.args.word.now in
    let m = (g.K.Keeper.seen c.args.self.now.keeper.now).now in
    let at = first_from m c.as_slice.result.now in
    leaves_of g.K.Keeper.over g.K.Keeper.has_maps g.K.Keeper.tells g.K.Keeper.seen g.K.Keeper.written g.K.Keeper.changes g.K.Keeper.moment g.K.Keeper.left_since
    c.args.self.now c.label_up.new.self (λ l. l.keeper.now) (λ l n. n.keeper.ghost_name ≡ l.keeper.ghost_name) g.K.Keeper.fault_count g.K.Keeper.is_spent
    c.label_up.result c.label_up.ensures.same_reference c.label_up.ensures.ground c.label_up.ensures.cause
    (λ h. label_blames w at m c.in-Ok.ensures.word c.label_up.result ((c.label_up.ensures.reads h).blame))
    (λ f s. label_sound w at f m c.in-Ok.ensures.word s.1 s.2 c.label_up.result ((c.label_up.ensures.reads s.0).blame))

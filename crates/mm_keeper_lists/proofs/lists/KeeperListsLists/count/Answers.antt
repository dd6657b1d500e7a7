use Rattle.std.proofs.Common.{◌≡◌, ℕ, ◌<◌, ◌^◌, subst, ◌∙◌, length}
use Rattle.mm_tree.specs.Search.{list_of, worded}
use Rattle.mm_keeper.specs.Entries.{Entries, weight_of}
use Rattle.mm_image.specs.Keys.{count_key}
use Rattle.mm_keeper_lists.proofs.Searching.{count_is_length}
use Rattle.mm_keeper_lists.proofs.Answering.{count_told, count_sound, count_blames, leaves_of}
use Rattle.mm_keeper_lists.proofs.lists.KeeperListsLists.count.Goals as goal

pub returns-in-Ok-clause-value : goal.returns-in-Ok-clause-value
returns-in-Ok-clause-value g c = λ f s.
    let k = c.args.self.now.keeper.now in
    let m = (g.K.Keeper.seen k).now in
    let w = c.args.word.now in
    count_told (length (list_of w (worded f))) c.as_slice.result.now (count_key w) f m s.2 (g.met.K.Keeper.sorted k c.args.self.now.sound s.0)
    (c.as_slice.ensures ∙ c.in-Ok.ensures)
    (λ e n. count_is_length c.values_tell.ensures.counts w f (subst (λ (z : Entries). weight_of z < 2 ^ 64) s.2 (subst (λ (n : ℕ). n < 2 ^ 64) (c.weight-weight.ensures s.0) c.weight-weight.type_inv)) e n) c.look_at.result ((c.look_at.ensures.reads s.0).told)

pub returns-in-Ok-clause-leaves : goal.returns-in-Ok-clause-leaves
returns-in-Ok-clause-leaves g c =
    let k = c.args.self.now.keeper.now in
    let m = (g.K.Keeper.seen k).now in
    let w = c.args.word.now in
    let key = c.as_slice.result.now in
    let is_key = c.as_slice.ensures ∙ c.in-Ok.ensures in
    leaves_of g.K.Keeper.over g.K.Keeper.has_maps g.K.Keeper.tells g.K.Keeper.seen g.K.Keeper.written g.K.Keeper.changes g.K.Keeper.moment g.K.Keeper.left_since
    c.args.self.now c.look_at.new.self (λ l. l.keeper.now) (λ l n. n.keeper.ghost_name ≡ l.keeper.ghost_name) g.K.Keeper.fault_count g.K.Keeper.is_spent
    c.look_at.result c.look_at.ensures.same_reference c.look_at.ensures.ground c.look_at.ensures.cause
    (λ h. count_blames w key m c.as_bytes.ensures.word (g.met.K.Keeper.sorted k c.args.self.now.sound h) is_key c.look_at.result ((c.look_at.ensures.reads h).blame))
    (λ f s. count_sound c.values_tell.ensures.counts w key f m s.2 (g.met.K.Keeper.sorted k c.args.self.now.sound s.0) is_key
    (subst (λ (z : Entries). weight_of z < 2 ^ 64) s.2 (subst (λ (n : ℕ). n < 2 ^ 64) (c.weight-weight.ensures s.0) c.weight-weight.type_inv)) c.look_at.result ((c.look_at.ensures.reads s.0).blame))

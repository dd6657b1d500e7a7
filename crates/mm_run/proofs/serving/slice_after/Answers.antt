use Rattle.std.proofs.Common.{◌≡◌, refl, Some, true, None}
use Rattle.mm_image.specs.Image.{image}
use Rattle.mm_run.proofs.Carrying.{moment_still, stands_still}
use Rattle.mm_run.proofs.Finishing.{broken_as, moment_kept, no_damage_told, not_spent, stands_as, stands_keeps}
use Rattle.mm_run.proofs.serving.slice_after.Goals as goal

pub returns-in-Ok-clause-any_moment : goal.returns-in-Ok-clause-any_moment
returns-in-Ok-clause-any_moment g c = λ f r. moment_kept g.K.Keeper.moment g.K.Keeper.left_since c.args.store.now.keeper c.tick.new.self.keeper _ f r.1 (c.tick.ensures.any_moment r.0.0 c.requires.unspent)

pub returns-in-Ok-clause-stands : goal.returns-in-Ok-clause-stands
returns-in-Ok-clause-stands g c = stands_keeps g.K.Keeper.over g.K.Keeper.has_maps g.K.Keeper.is_spent g.K.Keeper.fault_count g.K.Keeper.is_sound g.K.Keeper.want_count true c.args.store.now.keeper c.tick.new.self.keeper None c.in-Ok.ensures.keeps

pub returns-in-Err-clause-any_moment : goal.returns-in-Err-clause-any_moment
returns-in-Err-clause-any_moment g c = λ f r. moment_kept g.K.Keeper.moment g.K.Keeper.left_since c.args.store.now.keeper c.tick.new.self.keeper _ f r.1 (c.tick.ensures.any_moment r.0.0 c.requires.unspent)

pub returns-in-Err-clause-broke : goal.returns-in-Err-clause-broke
returns-in-Err-clause-broke g c = λ maps.
    broken_as c.status_at.result c.in-Err.fault c.status_at.ensures.is (not_spent _ c.in-Err.fault c.requires.unspent c.in-Err.ensures.keeps.spent.0) (no_damage_told c.in-Err.fault (c.in-Err.ensures.keeps.no_damage maps))

pub returns-in-Err-clause-stands : goal.returns-in-Err-clause-stands
returns-in-Err-clause-stands g c = stands_as g.K.Keeper.over g.K.Keeper.has_maps g.K.Keeper.is_spent g.K.Keeper.fault_count c.args.store.now.keeper c.tick.new.self.keeper c.status_at.result c.in-Err.fault c.status_at.ensures.is (not_spent _ c.in-Err.fault c.requires.unspent c.in-Err.ensures.keeps.spent.0)
    (stands_keeps g.K.Keeper.over g.K.Keeper.has_maps g.K.Keeper.is_spent g.K.Keeper.fault_count g.K.Keeper.is_sound g.K.Keeper.want_count true c.args.store.now.keeper c.tick.new.self.keeper (Some c.in-Err.fault) c.in-Err.ensures.keeps)

pub returns-in-Hits-clause-any_moment : goal.returns-in-Hits-clause-any_moment
returns-in-Hits-clause-any_moment g c = λ f r. moment_still g.K.Keeper.has_maps g.K.Keeper.is_sound g.K.Keeper.seen g.K.Keeper.is_spent g.K.Keeper.moment g.K.Keeper.left_since g.met.K.Keeper.only_kept c.args.store.now.keeper f (λ m. m ≡ Some (image f)) r c.args.store.now.sound c.requires.unspent refl

pub returns-in-Hits-clause-stands : goal.returns-in-Hits-clause-stands
returns-in-Hits-clause-stands g c = stands_still g.K.Keeper.over g.K.Keeper.has_maps g.K.Keeper.is_spent g.K.Keeper.fault_count c.args.store.now.keeper None (λ e. absurd cc) (λ e. absurd cc)

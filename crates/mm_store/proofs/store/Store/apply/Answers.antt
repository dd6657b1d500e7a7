use Rattle.std.proofs.Common.{◌∙◌}
use Rattle.mm_image.specs.Image.{image}
use Rattle.mm_store.specs.Editing.{edited}
use Rattle.mm_store.proofs.Applied.{cost_whole, differs, moment_along, still}
use Rattle.mm_store.proofs.Edited.{edited_formed, not_early}
use Rattle.mm_store.proofs.store.Store.apply.Goals as goal

pub returns-in-Ok-perform-clause-now : goal.returns-in-Ok-perform-clause-now
returns-in-Ok-perform-clause-now g c = λ f s.
    let old = c.args.self.now.keeper in
    let mid = c.plan.new.keeper in
    let edit = c.args.edit in
    let next = image (edited edit f) in
    let ground = c.plan.ensures.ground in
    let formed = edited_formed c.edits_stay_formed.ensures.load c.edits_stay_formed.ensures.insert c.edits_stay_formed.ensures.delete c.edits_stay_formed.ensures.replace c.args.self.now.limit edit f s.1 c.requires (c.in-Ok.ensures.accepted f s) in
    let rises = c.images_rise.ensures (edited edit f) formed in
    let there = still g.K.Keeper.over g.K.Keeper.tells g.K.Keeper.has_maps g.K.Keeper.is_sound g.K.Keeper.seen g.K.Keeper.is_spent g.K.Keeper.moment g.K.Keeper.left_since g.K.Keeper.written g.K.Keeper.changes old mid f s ground in
    let here = differs g.K.Keeper.over g.K.Keeper.tells g.K.Keeper.has_maps g.K.Keeper.is_sound g.K.Keeper.seen g.K.Keeper.is_spent g.K.Keeper.moment g.K.Keeper.left_since g.K.Keeper.written g.K.Keeper.changes old mid f c.in-Ok.plan.removes c.in-Ok.plan.puts next s ground (c.in-Ok.ensures.difference f s) in
    (c.perform.ensures.performs.maps.0 there.0, formed, c.in-Ok-perform.ensures.now there.0 next rises here)

pub returns-in-Ok-perform-clause-kept : goal.returns-in-Ok-perform-clause-kept
returns-in-Ok-perform-clause-kept g c = λ f s.
    let old = c.args.self.now.keeper in
    let mid = c.plan.new.keeper in
    let edit = c.args.edit in
    let next = image (edited edit f) in
    let ground = c.plan.ensures.ground in
    let formed = edited_formed c.edits_stay_formed.ensures.load c.edits_stay_formed.ensures.insert c.edits_stay_formed.ensures.delete c.edits_stay_formed.ensures.replace c.args.self.now.limit edit f s.1 c.requires (c.in-Ok.ensures.accepted f s) in
    let rises = c.images_rise.ensures (edited edit f) formed in
    let there = still g.K.Keeper.over g.K.Keeper.tells g.K.Keeper.has_maps g.K.Keeper.is_sound g.K.Keeper.seen g.K.Keeper.is_spent g.K.Keeper.moment g.K.Keeper.left_since g.K.Keeper.written g.K.Keeper.changes old mid f s ground in
    let here = differs g.K.Keeper.over g.K.Keeper.tells g.K.Keeper.has_maps g.K.Keeper.is_sound g.K.Keeper.seen g.K.Keeper.is_spent g.K.Keeper.moment g.K.Keeper.left_since g.K.Keeper.written g.K.Keeper.changes old mid f c.in-Ok.plan.removes c.in-Ok.plan.puts next s ground (c.in-Ok.ensures.difference f s) in
    c.in-Ok-perform.ensures.kept there.0 ∙ c.in-Ok-perform.ensures.now there.0 next rises here

pub returns-in-Ok-perform-clause-any_moment : goal.returns-in-Ok-perform-clause-any_moment
returns-in-Ok-perform-clause-any_moment g c = λ f s unspent kept.
    let old = c.args.self.now.keeper in
    let mid = c.plan.new.keeper in
    let edit = c.args.edit in
    let next = image (edited edit f) in
    let ground = c.plan.ensures.ground in
    let formed = edited_formed c.edits_stay_formed.ensures.load c.edits_stay_formed.ensures.insert c.edits_stay_formed.ensures.delete c.edits_stay_formed.ensures.replace c.args.self.now.limit edit f s.1 c.requires (c.in-Ok.ensures.accepted f s) in
    let rises = c.images_rise.ensures (edited edit f) formed in
    let there = still g.K.Keeper.over g.K.Keeper.tells g.K.Keeper.has_maps g.K.Keeper.is_sound g.K.Keeper.seen g.K.Keeper.is_spent g.K.Keeper.moment g.K.Keeper.left_since g.K.Keeper.written g.K.Keeper.changes old mid f s ground in
    let here = differs g.K.Keeper.over g.K.Keeper.tells g.K.Keeper.has_maps g.K.Keeper.is_sound g.K.Keeper.seen g.K.Keeper.is_spent g.K.Keeper.moment g.K.Keeper.left_since g.K.Keeper.written g.K.Keeper.changes old mid f c.in-Ok.plan.removes c.in-Ok.plan.puts next s ground (c.in-Ok.ensures.difference f s) in
    moment_along g.K.Keeper.over g.K.Keeper.tells g.K.Keeper.has_maps g.K.Keeper.is_sound g.K.Keeper.seen g.K.Keeper.is_spent g.K.Keeper.moment g.K.Keeper.left_since g.K.Keeper.written g.K.Keeper.changes g.met.K.Keeper.only_kept old mid c.perform.new.keeper f next s c.args.self.now.sound unspent kept ground (c.perform.ensures.any_moment there.0 next rises here (c.in-Ok.ensures.accounts.then_spent ∙ unspent))

pub returns-in-Ok-perform-clause-cost : goal.returns-in-Ok-perform-clause-cost
returns-in-Ok-perform-clause-cost g c = λ f s. cost_whole c.args.steps.now c.plan.new.steps c.perform.new.steps c.in-Ok.plan.removes c.in-Ok.plan.puts (image f) (image (edited c.args.edit f)) (c.in-Ok.ensures.difference f s) (c.plan.ensures.cost f s) c.perform.ensures.bound

pub returns-in-Ok-done_of-clause-any_moment : goal.returns-in-Ok-done_of-clause-any_moment
returns-in-Ok-done_of-clause-any_moment g c = λ f s unspent kept.
    let old = c.args.self.now.keeper in
    let mid = c.plan.new.keeper in
    let edit = c.args.edit in
    let next = image (edited edit f) in
    let ground = c.plan.ensures.ground in
    let formed = edited_formed c.edits_stay_formed.ensures.load c.edits_stay_formed.ensures.insert c.edits_stay_formed.ensures.delete c.edits_stay_formed.ensures.replace c.args.self.now.limit edit f s.1 c.requires (c.in-Ok.ensures.accepted f s) in
    let rises = c.images_rise.ensures (edited edit f) formed in
    let there = still g.K.Keeper.over g.K.Keeper.tells g.K.Keeper.has_maps g.K.Keeper.is_sound g.K.Keeper.seen g.K.Keeper.is_spent g.K.Keeper.moment g.K.Keeper.left_since g.K.Keeper.written g.K.Keeper.changes old mid f s ground in
    let here = differs g.K.Keeper.over g.K.Keeper.tells g.K.Keeper.has_maps g.K.Keeper.is_sound g.K.Keeper.seen g.K.Keeper.is_spent g.K.Keeper.moment g.K.Keeper.left_since g.K.Keeper.written g.K.Keeper.changes old mid f c.in-Ok.plan.removes c.in-Ok.plan.puts next s ground (c.in-Ok.ensures.difference f s) in
    moment_along g.K.Keeper.over g.K.Keeper.tells g.K.Keeper.has_maps g.K.Keeper.is_sound g.K.Keeper.seen g.K.Keeper.is_spent g.K.Keeper.moment g.K.Keeper.left_since g.K.Keeper.written g.K.Keeper.changes g.met.K.Keeper.only_kept old mid c.perform.new.keeper f next s c.args.self.now.sound unspent kept ground (c.perform.ensures.any_moment there.0 next rises here (c.in-Ok.ensures.accounts.then_spent ∙ unspent))

pub returns-in-Ok-done_of-clause-cost : goal.returns-in-Ok-done_of-clause-cost
returns-in-Ok-done_of-clause-cost g c = λ f s. cost_whole c.args.steps.now c.plan.new.steps c.perform.new.steps c.in-Ok.plan.removes c.in-Ok.plan.puts (image f) (image (edited c.args.edit f)) (c.in-Ok.ensures.difference f s) (c.plan.ensures.cost f s) c.perform.ensures.bound

pub returns-in-Ok-perform-clause-early : goal.returns-in-Ok-perform-clause-early
returns-in-Ok-perform-clause-early g c = λ f s n. absurd (n (not_early c.args.self.now.limit c.args.edit f (c.in-Ok.ensures.accepted f s)))

pub returns-in-Ok-done_of-clause-early : goal.returns-in-Ok-done_of-clause-early
returns-in-Ok-done_of-clause-early g c = λ f s n. absurd (n (not_early c.args.self.now.limit c.args.edit f (c.in-Ok.ensures.accepted f s)))

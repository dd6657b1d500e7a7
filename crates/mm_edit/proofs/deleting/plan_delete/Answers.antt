use Rattle.std.proofs.Common.{arith, inl, inr, ◌≤◌, ◌∙◌, ap, sym, subst, Option}
use Rattle.std.specs.Prelude.{option_map, min, ◌^◌, ◌-◌, length}
use Rattle.mm_keeper.specs.Entries.{Entries}
use Rattle.mm_keeper.specs.Keeping.{Seen}
use Rattle.mm_tree.specs.Edits.{delete, size_of}
use Rattle.mm_tree.specs.Numbering.{Labelled, node_of}
use Rattle.mm_tree.specs.Trees.{Tree, none, one}
use Rattle.mm_image.specs.Image.{image}
use Rattle.mm_image.specs.Subtrees.{run_of}
use Rattle.mm_image.specs.Facts.Standing.{stands}
use Rattle.mm_edit.specs.Blame.{BlamesTarget}
use Rattle.mm_edit.specs.Plans.{HasRoomFor}
use Rattle.mm_edit.proofs.Blaming.{counts}
use Rattle.mm_edit.specs.Inside.Changes.{Becomes}
use Rattle.mm_edit.proofs.Editing.{swap_leads}
use Rattle.mm_edit.proofs.Targets.{accepted, delete_cost, read_cost, refused, run_few, standing_rises, words_few}
use Rattle.mm_edit.proofs.deleting.plan_delete.Goals as goal

pub plan_without-requires-clause-valid : goal.plan_without-requires-clause-valid
plan_without-requires-clause-valid g c = (stands c.args.target.now (node_of c.in-Ok-Some.node) (rw c.in-Ok-Some.field-0-is at c.in-Ok-Some.ensures.tree)).kinds

pub returns-in-Ok-clause-accepted : goal.returns-in-Ok-clause-accepted
returns-in-Ok-clause-accepted g c = λ f s. accepted c.args.target.now f (node_of c.in-Ok-Some.node) (sym (c.in-Ok-Some.ensures.image f s) ∙ ap (option_map node_of) c.in-Ok-Some.field-0-is)

pub returns-in-Ok-clause-difference : goal.returns-in-Ok-clause-difference
returns-in-Ok-clause-difference g c = λ f s.
    let ground = c.in-Ok-Some.ensures.ground in
    let x = c.args.target.now in
    let n = node_of c.in-Ok-Some.node in
    let is = sym (c.in-Ok-Some.ensures.image f s) ∙ ap (option_map node_of) c.in-Ok-Some.field-0-is in
    c.in-Ok.ensures.difference f (delete x f) (ground.maps.0 s.0, s.1, ap (λ z. z.now) (ground.same s.0) ∙ s.2)
    (record { formed = c.edits_stay_formed.ensures.delete x f s.1; run = c.untouched.ensures.delete x n f s.1 is })

pub returns-in-Ok-clause-label : goal.returns-in-Ok-clause-label
returns-in-Ok-clause-label g c = c.in-Ok.ensures.label ∙ sym (stands c.args.target.now (node_of c.in-Ok-Some.node) (rw c.in-Ok-Some.field-0-is at c.in-Ok-Some.ensures.tree)).same

pub returns-in-Ok-clause-nodes : goal.returns-in-Ok-clause-nodes
returns-in-Ok-clause-nodes g c = λ f s. c.in-Ok.ensures.nodes ∙ ap (λ (o : Option (Tree Labelled)). min (size_of o) (2 ^ 64 - 1)) (sym (sym (c.in-Ok-Some.ensures.image f s) ∙ ap (option_map node_of) c.in-Ok-Some.field-0-is))

pub returns-in-Ok-clause-room : goal.returns-in-Ok-clause-room
returns-in-Ok-clause-room g c = λ maps.
    let ground = c.in-Ok-Some.ensures.ground in
    let own = standing_rises c.byte_order.ensures c.ancestry.ensures c.args.target.now (node_of c.in-Ok-Some.node) c.as_bytes-spelled.ensures.label (stands c.args.target.now (node_of c.in-Ok-Some.node) (rw c.in-Ok-Some.field-0-is at c.in-Ok-Some.ensures.tree)) in
    subst (λ (z : Entries). HasRoomFor z c.in-Ok.plan) (ap (λ z. z.now) (ground.same maps)) (c.in-Ok.ensures.room (ground.maps.0 maps) own)

pub returns-in-Ok-clause-cost : goal.returns-in-Ok-clause-cost
returns-in-Ok-clause-cost g c = λ f s.
    let m = (g.K.Keeper.seen c.args.keeper.now).now in
    let x = c.args.target.now in
    let n = node_of c.in-Ok-Some.node in
    let is = sym (c.in-Ok-Some.ensures.image f s) ∙ ap (option_map node_of) c.in-Ok-Some.field-0-is in
    let becomes : Becomes f (delete x f) (one n) none = record { formed = c.edits_stay_formed.ensures.delete x f s.1; run = c.untouched.ensures.delete x n f s.1 is } in
    let leads = swap_leads c.keys_are_apart.ensures c.images_rise.ensures c.byte_order.ensures c.ancestry.ensures f (delete x f) (one n) none s.1 becomes in
    delete_cost c.args.steps.now c.subtree.new.steps c.plan_without.new.steps _ (length (run_of x m)) (length (image f)) (length (image (delete x f))) (c.subtree.ensures.cost s.0)
    (subst (λ (z : Entries). length (run_of x m) ≤ length z) s.2 (run_few x m)) c.plan_without.ensures.cost (words_few f (delete x f) (one n) none becomes leads)

pub returns-in-Ok-Some-clause-cost : goal.returns-in-Ok-Some-clause-cost
returns-in-Ok-Some-clause-cost g c = λ f s.
    let m = (g.K.Keeper.seen c.args.keeper.now).now in
    let x = c.args.target.now in
    let n = node_of c.in-Ok-Some.node in
    let is = sym (c.in-Ok-Some.ensures.image f s) ∙ ap (option_map node_of) c.in-Ok-Some.field-0-is in
    let becomes : Becomes f (delete x f) (one n) none = record { formed = c.edits_stay_formed.ensures.delete x f s.1; run = c.untouched.ensures.delete x n f s.1 is } in
    let leads = swap_leads c.keys_are_apart.ensures c.images_rise.ensures c.byte_order.ensures c.ancestry.ensures f (delete x f) (one n) none s.1 becomes in
    delete_cost c.args.steps.now c.subtree.new.steps c.plan_without.new.steps _ (length (run_of x m)) (length (image f)) (length (image (delete x f))) (c.subtree.ensures.cost s.0)
    (subst (λ (z : Entries). length (run_of x m) ≤ length z) s.2 (run_few x m)) c.plan_without.ensures.cost (words_few f (delete x f) (one n) none becomes leads)

pub returns-in-Ok-None-clause-cost : goal.returns-in-Ok-None-clause-cost
returns-in-Ok-None-clause-cost g c = λ f s.
    let m = (g.K.Keeper.seen c.args.keeper.now).now in
    let x = c.args.target.now in
    read_cost c.args.steps.now c.subtree.new.steps (length (run_of x m)) (length (image f)) (length (image (delete x f))) (c.subtree.ensures.cost s.0)
    (subst (λ (z : Entries). length (run_of x m) ≤ length z) s.2 (run_few x m))

pub returns-clause-cost : goal.returns-clause-cost
returns-clause-cost g c = λ f s.
    let m = (g.K.Keeper.seen c.args.keeper.now).now in
    let x = c.args.target.now in
    read_cost c.args.steps.now c.subtree.new.steps (length (run_of x m)) (length (image f)) (length (image (delete x f))) (c.subtree.ensures.cost s.0)
    (subst (λ (z : Entries). length (run_of x m) ≤ length z) s.2 (run_few x m))

pub returns-in-Ok-None-clause-refused : goal.returns-in-Ok-None-clause-refused
returns-in-Ok-None-clause-refused g c = λ f s. refused c.args.target.now f (sym (c.in-Ok-None.ensures.image f s) ∙ ap (option_map node_of) c.in-Ok-None.field-0-is)

pub returns-in-Ok-Some-clause-damaged : goal.returns-in-Ok-Some-clause-damaged
returns-in-Ok-Some-clause-damaged g c = λ maps.
    let ground = c.subtree.ensures.ground in
    let m = (g.K.Keeper.seen c.subtree.new.keeper).now in
    subst (λ (z : Seen g.row.K-Spot.Denot). BlamesTarget c.args.target.now z.now c.in-Err-plan_without.fault) (ground.same maps) (inl (counts m _ c.in-Err-plan_without.fault (c.in-Err-plan_without.ensures.damaged (ground.maps.0 maps))))

pub returns-clause-damaged : goal.returns-clause-damaged
returns-clause-damaged g c = λ maps. inr (c.in-Err.ensures.damaged maps)

pub returns-in-Ok-clause-early : goal.returns-in-Ok-clause-early
returns-in-Ok-clause-early g c = λ f s n. absurd (n (accepted c.args.target.now f (node_of c.in-Ok-Some.node) (sym (c.in-Ok-Some.ensures.image f s) ∙ ap (option_map node_of) c.in-Ok-Some.field-0-is)))

pub returns-in-Ok-Some-clause-early : goal.returns-in-Ok-Some-clause-early
returns-in-Ok-Some-clause-early g c = λ f s n. absurd (n (accepted c.args.target.now f (node_of c.in-Ok-Some.node) (sym (c.in-Ok-Some.ensures.image f s) ∙ ap (option_map node_of) c.in-Ok-Some.field-0-is)))

pub returns-in-Ok-None-clause-early : goal.returns-in-Ok-None-clause-early
returns-in-Ok-None-clause-early g c = λ f s n.
    let x = c.args.target.now in
    let m = (g.K.Keeper.seen c.args.keeper.now).now in
    let few = subst (λ (z : Entries). length (run_of x m) ≤ length z) s.2 (run_few x m) in
    omega (arith, c.subtree.ensures.cost s.0, few)

pub returns-clause-early : goal.returns-clause-early
returns-clause-early g c = λ f s n.
    let x = c.args.target.now in
    let m = (g.K.Keeper.seen c.args.keeper.now).now in
    let few = subst (λ (z : Entries). length (run_of x m) ≤ length z) s.2 (run_few x m) in
    omega (arith, c.subtree.ensures.cost s.0, few)

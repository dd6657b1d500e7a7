use Rattle.std.proofs.Common.{◌∙◌, ap, arith, length, subst, sym, IfErr, IfOk, Option}
use Rattle.std.proofs.lemmas.Result.{err_from_is_err_and}
use Rattle.mm_keeper.specs.Keeping.{Seen}
use Rattle.mm_tree.specs.declared.refusal.Refusal.{Refusal}
use Rattle.mm_tree.specs.Forests.{load, load_refusal}
use Rattle.mm_tree.specs.Numbering.{node_of}
use Rattle.mm_tree.specs.Trees.{none, one, tree_of}
use Rattle.mm_image.specs.Image.{image}
use Rattle.mm_edit.specs.Blame.{Blames, IsUnreadable}
use Rattle.mm_edit.specs.Plans.{HasRoomFor, IfFault, IsRefusedBy, or_full}
use Rattle.mm_edit.proofs.Blaming.{counts_blamed, found_blamed}
use Rattle.mm_edit.proofs.Editing.{swap_leads}
use Rattle.mm_edit.proofs.Coming.{load_becomes, on_ok_so, or_refused, put_cost}
use Rattle.mm_edit.proofs.Targets.{words_few}
use Rattle.mm_edit.proofs.inserting.plan_load.Goals as goal

pub returns-clause-accepted : goal.returns-clause-accepted
returns-clause-accepted g c = λ f s.
    let t = tree_of c.args.tree in
    let ground = c.tree_for_load.ensures.ground in
    let e = c.in_ok-node.ensures.accepted f s in
    let becomes = load_becomes c.untouched.ensures.load c.edits_stay_formed.ensures.load t f (node_of c.in_ok-node.node) s.1 c.requires.valid e (c.in_ok-node.ensures.node f s) in
    on_ok_so c.plan_with.result (λ a. ap (λ (r : Option Refusal). or_full r c.args.limit (load t f)) e ∙ a)
    (c.plan_with.ensures.accepted f (load t f) (ground.maps.0 s.0, s.1, ap (λ z. z.now) (ground.same s.0) ∙ s.2) becomes)

pub returns-clause-refused : goal.returns-clause-refused
returns-clause-refused g c = λ f s.
    let t = tree_of c.args.tree in
    let ground = c.tree_for_load.ensures.ground in
    let e = c.in_ok-node.ensures.accepted f s in
    let becomes = load_becomes c.untouched.ensures.load c.edits_stay_formed.ensures.load t f (node_of c.in_ok-node.node) s.1 c.requires.valid e (c.in_ok-node.ensures.node f s) in
    subst (λ (r : Option Refusal). IfErr c.plan_with.result (IsRefusedBy (or_full r c.args.limit (load t f)))) (sym e)
    (c.plan_with.ensures.refused f (load t f) (ground.maps.0 s.0, s.1, ap (λ z. z.now) (ground.same s.0) ∙ s.2) becomes)

pub returns-clause-difference : goal.returns-clause-difference
returns-clause-difference g c = λ f s.
    let t = tree_of c.args.tree in
    let ground = c.tree_for_load.ensures.ground in
    let e = c.in_ok-node.ensures.accepted f s in
    let becomes = load_becomes c.untouched.ensures.load c.edits_stay_formed.ensures.load t f (node_of c.in_ok-node.node) s.1 c.requires.valid e (c.in_ok-node.ensures.node f s) in
    c.plan_with.ensures.difference f (load t f) (ground.maps.0 s.0, s.1, ap (λ z. z.now) (ground.same s.0) ∙ s.2) becomes

pub returns-clause-cost : goal.returns-clause-cost
returns-clause-cost g c = λ f s.
    let t = tree_of c.args.tree in
    let e = c.in_ok-node.ensures.accepted f s in
    let becomes = load_becomes c.untouched.ensures.load c.edits_stay_formed.ensures.load t f (node_of c.in_ok-node.node) s.1 c.requires.valid e (c.in_ok-node.ensures.node f s) in
    let leads = swap_leads c.keys_are_apart.ensures c.images_rise.ensures c.byte_order.ensures c.ancestry.ensures f (load t f) none (one (node_of c.in_ok-node.node)) s.1 becomes in
    put_cost c.args.steps.now c.tree_for_load.new.steps c.plan_with.new.steps _ (length (image f)) (length (image (load t f))) (omega (arith, c.tree_for_load.ensures.cost)) c.plan_with.ensures.cost (words_few f (load t f) none (one (node_of c.in_ok-node.node)) becomes leads)

pub returns-clause-early : goal.returns-clause-early
returns-clause-early g c = λ f s n. absurd (n (c.in_ok-node.ensures.accepted f s))

pub returns-clause-room : goal.returns-clause-room
returns-clause-room g c = λ maps.
    let ground = c.tree_for_load.ensures.ground in
    subst (λ (z : Seen g.row.K-Spot.Denot). IfOk c.plan_with.result (λ p. HasRoomFor z.now p)) (ground.same maps) (c.plan_with.ensures.room (ground.maps.0 maps) (record { rises = tt }) c.in_ok-node.ensures.sorted)

pub returns-in_err-node-clause-refused : goal.returns-in_err-node-clause-refused
returns-in_err-node-clause-refused g c = λ f s.
    let t = tree_of c.args.tree in
    let p = err_from_is_err_and c.from_residual.result c.from_residual.ensures.1 in
    rw (p.1, p.2) (or_refused (load_refusal t f) c.args.limit (load t f) c.in_err-node.field-0.0 (c.in_err-node.ensures.refused f s))

pub returns-clause-damaged : goal.returns-clause-damaged
returns-clause-damaged g c = λ maps.
    let ground = c.tree_for_load.ensures.ground in
    subst (λ (z : Seen g.row.K-Spot.Denot). IfErr c.plan_with.result (IfFault (Blames (IsUnreadable z.now)))) (ground.same maps) (counts_blamed _ _ c.plan_with.result (c.plan_with.ensures.damaged (ground.maps.0 maps)))

pub returns-in_err-node-clause-damaged : goal.returns-in_err-node-clause-damaged
returns-in_err-node-clause-damaged g c = λ maps.
    let p = err_from_is_err_and c.from_residual.result c.from_residual.ensures.1 in
    rw (p.1, p.2) (found_blamed _ c.in_err-node.field-0.0 (c.in_err-node.ensures.damaged maps))

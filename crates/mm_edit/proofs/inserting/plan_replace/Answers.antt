use Rattle.std.proofs.Common.{inr, ◌≤◌, ◌∙◌, ap, arith, length, subst, sym, IfErr, IfOk, Option}
use Rattle.std.specs.Prelude.{option_map}
use Rattle.std.proofs.lemmas.Result.{err_from_is_err_and}
use Rattle.mm_keeper.specs.Entries.{Entries, IsSorted}
use Rattle.mm_keeper.specs.Keeping.{Seen}
use Rattle.mm_tree.specs.declared.refusal.Refusal.{Refusal}
use Rattle.mm_tree.specs.Edits.{replace, replace_refusal}
use Rattle.mm_tree.specs.Numbering.{Labelled, forest_of, node_of}
use Rattle.mm_tree.specs.Trees.{Trees, one, tree_of}
use Rattle.mm_tree.specs.Forests.{has_valid_kind}
use Rattle.mm_tree.specs.Trees.{every}
use Rattle.std.specs.Prelude.{IsTrue}
use Rattle.mm_image.specs.Facts.Grounds.{ground_along}
use Rattle.mm_image.specs.Image.{entries_of, image}
use Rattle.mm_image.specs.Subtrees.{run_of}
use Rattle.mm_image.specs.Facts.Standing.{stands}
use Rattle.mm_edit.specs.Inside.Changes.{Becomes, changes}
use Rattle.mm_edit.specs.Blame.{BlamesTarget}
use Rattle.mm_edit.specs.Plans.{HasRoomFor, IfFault, IsRefusedBy, of_tree, or_full}
use Rattle.mm_edit.proofs.Blaming.{at_target, counts_blamed, tree_blamed}
use Rattle.mm_edit.proofs.Coming.{on_ok_so, or_refused, replace_becomes, replaced_absent, replaced_as}
use Rattle.mm_edit.proofs.Editing.{swap_leads}
use Rattle.mm_edit.proofs.Targeting.{refused_so}
use Rattle.mm_edit.proofs.Targets.{accepted, delete_cost, read_cost, refused, run_few, standing_rises, words_few}
use Rattle.mm_edit.proofs.inserting.plan_replace.Goals as goal

pub returns-in_err-taken-clause-cost : goal.returns-in_err-taken-clause-cost
returns-in_err-taken-clause-cost g c = λ f s.
    let x = c.args.target.now in
    let m = (g.K.Keeper.seen c.args.keeper.now).now in
    read_cost c.args.steps.now c.subtree.new.steps (length (run_of x m)) (length (image f)) (length (image (replace x (tree_of c.args.tree) f))) (c.subtree.ensures.cost s.0)
    (subst (λ (z : Entries). length (run_of x m) ≤ length z) s.2 (run_few x m))

pub returns-in_err-taken-clause-early : goal.returns-in_err-taken-clause-early
returns-in_err-taken-clause-early g c = λ f s n.
    let x = c.args.target.now in
    let m = (g.K.Keeper.seen c.args.keeper.now).now in
    let few = subst (λ (z : Entries). length (run_of x m) ≤ length z) s.2 (run_few x m) in
    omega (arith, c.subtree.ensures.cost s.0, few)

pub returns-in_err-node-in-Some-clause-refused : goal.returns-in_err-node-in-Some-clause-refused
returns-in_err-node-in-Some-clause-refused g c = λ f s.
    let x = c.args.target.now in
    let t = tree_of c.args.tree in
    let n = node_of c.in-Some.taken in
    let is = sym (c.in_ok-taken.ensures.image f s) ∙ ap (option_map node_of) c.in-Some.is in
    let e = c.in_err-node-in-Some.field-0.0 in
    let p = err_from_is_err_and c.from_residual-in_err-node-in-Some.result c.from_residual-in_err-node-in-Some.ensures.1 in
    rw (p.1, p.2) (or_refused (replace_refusal x t f) c.args.limit (replace x t f) (of_tree e) (subst (λ (r : Option Refusal). IsRefusedBy r (of_tree e)) (sym (replaced_as x t f (accepted x f n is))) (refused_so e _ c.in_err-node-in-Some.ensures.refused)))

pub returns-in_err-node-in-Some-clause-cost : goal.returns-in_err-node-in-Some-clause-cost
returns-in_err-node-in-Some-clause-cost g c = λ f s.
    let x = c.args.target.now in
    let m = (g.K.Keeper.seen c.args.keeper.now).now in
    read_cost c.args.steps.now c.subtree.new.steps (length (run_of x m)) (length (image f)) (length (image (replace x (tree_of c.args.tree) f))) (c.subtree.ensures.cost s.0)
    (subst (λ (z : Entries). length (run_of x m) ≤ length z) s.2 (run_few x m))

pub returns-in_err-node-in-Some-clause-early : goal.returns-in_err-node-in-Some-clause-early
returns-in_err-node-in-Some-clause-early g c = λ f s n.
    let x = c.args.target.now in
    let m = (g.K.Keeper.seen c.args.keeper.now).now in
    let few = subst (λ (z : Entries). length (run_of x m) ≤ length z) s.2 (run_few x m) in
    omega (arith, c.subtree.ensures.cost s.0, few)

pub plan_with-requires-clause-taken : goal.plan_with-requires-clause-taken
plan_with-requires-clause-taken g c =
    subst (λ (z : Trees Labelled). IsTrue (every has_valid_kind z)) (sym (ap forest_of c.from_ref.ensures.value)) (stands c.args.target.now (node_of c.in-Some.taken) (rw c.in-Some.is at c.in_ok-taken.ensures.tree)).kinds

pub returns-in_ok-node-in-Some-clause-accepted : goal.returns-in_ok-node-in-Some-clause-accepted
returns-in_ok-node-in-Some-clause-accepted g c = λ f s.
    let x = c.args.target.now in
    let t = tree_of c.args.tree in
    let n = node_of c.in-Some.taken in
    let is = sym (c.in_ok-taken.ensures.image f s) ∙ ap (option_map node_of) c.in-Some.is in
    let u = node_of c.in_ok-node-in-Some.node in
    let e = replaced_as x t f (accepted x f n is) ∙ c.in_ok-node-in-Some.ensures.accepted in
    let all = ap forest_of c.from_ref.ensures.value in
    let becomes = subst (λ (z : Trees Labelled). Becomes f (replace x t f) z (one u)) (sym all)
    (replace_becomes c.untouched.ensures.replace c.edits_stay_formed.ensures.replace x n t f u s.1 c.requires.valid is e c.in_ok-node-in-Some.ensures.node) in
    let ground = c.subtree.ensures.ground in
    on_ok_so c.plan_with.result (λ a. ap (λ (r : Option Refusal). or_full r c.args.limit (replace x t f)) e ∙ a)
    (c.plan_with.ensures.accepted f (replace x t f) (ground.maps.0 s.0, s.1, ap (λ z. z.now) (ground.same s.0) ∙ s.2) becomes)

pub returns-in_ok-node-in-Some-clause-refused : goal.returns-in_ok-node-in-Some-clause-refused
returns-in_ok-node-in-Some-clause-refused g c = λ f s.
    let x = c.args.target.now in
    let t = tree_of c.args.tree in
    let n = node_of c.in-Some.taken in
    let is = sym (c.in_ok-taken.ensures.image f s) ∙ ap (option_map node_of) c.in-Some.is in
    let u = node_of c.in_ok-node-in-Some.node in
    let e = replaced_as x t f (accepted x f n is) ∙ c.in_ok-node-in-Some.ensures.accepted in
    let all = ap forest_of c.from_ref.ensures.value in
    let becomes = subst (λ (z : Trees Labelled). Becomes f (replace x t f) z (one u)) (sym all)
    (replace_becomes c.untouched.ensures.replace c.edits_stay_formed.ensures.replace x n t f u s.1 c.requires.valid is e c.in_ok-node-in-Some.ensures.node) in
    let ground = c.subtree.ensures.ground in
    subst (λ (r : Option Refusal). IfErr c.plan_with.result (IsRefusedBy (or_full r c.args.limit (replace x t f)))) (sym e)
    (c.plan_with.ensures.refused f (replace x t f) (ground.maps.0 s.0, s.1, ap (λ z. z.now) (ground.same s.0) ∙ s.2) becomes)

pub returns-in_ok-node-in-Some-clause-difference : goal.returns-in_ok-node-in-Some-clause-difference
returns-in_ok-node-in-Some-clause-difference g c = λ f s.
    let x = c.args.target.now in
    let t = tree_of c.args.tree in
    let n = node_of c.in-Some.taken in
    let is = sym (c.in_ok-taken.ensures.image f s) ∙ ap (option_map node_of) c.in-Some.is in
    let u = node_of c.in_ok-node-in-Some.node in
    let e = replaced_as x t f (accepted x f n is) ∙ c.in_ok-node-in-Some.ensures.accepted in
    let all = ap forest_of c.from_ref.ensures.value in
    let becomes = subst (λ (z : Trees Labelled). Becomes f (replace x t f) z (one u)) (sym all)
    (replace_becomes c.untouched.ensures.replace c.edits_stay_formed.ensures.replace x n t f u s.1 c.requires.valid is e c.in_ok-node-in-Some.ensures.node) in
    let ground = c.subtree.ensures.ground in
    c.plan_with.ensures.difference f (replace x t f) (ground.maps.0 s.0, s.1, ap (λ z. z.now) (ground.same s.0) ∙ s.2) becomes

pub returns-in_ok-node-in-Some-clause-room : goal.returns-in_ok-node-in-Some-clause-room
returns-in_ok-node-in-Some-clause-room g c = λ maps.
    let ground = c.subtree.ensures.ground in
    let x = c.args.target.now in
    let n = node_of c.in-Some.taken in
    let own = standing_rises c.byte_order.ensures c.ancestry.ensures x n c.as_bytes-spelled.ensures.label (stands x n (rw c.in-Some.is at c.in_ok-taken.ensures.tree)) in
    subst (λ (z : Seen g.row.K-Spot.Denot). IfOk c.plan_with.result (λ p. HasRoomFor z.now p)) (ground.same maps)
    (c.plan_with.ensures.room (ground.maps.0 maps) (subst (λ (z : Trees Labelled). IsSorted (entries_of z)) (sym (ap forest_of c.from_ref.ensures.value)) own) c.in_ok-node-in-Some.ensures.sorted)

pub returns-in_ok-node-in-Some-clause-ground : goal.returns-in_ok-node-in-Some-clause-ground
returns-in_ok-node-in-Some-clause-ground g c =
    ground_along g.K.Keeper.over g.K.Keeper.has_maps g.K.Keeper.tells g.K.Keeper.seen g.K.Keeper.written g.K.Keeper.changes g.K.Keeper.moment g.K.Keeper.left_since c.args.keeper.now c.subtree.new.keeper c.plan_with.new.keeper g.met.K.Keeper.counts_now c.subtree.ensures.ground c.plan_with.ensures.ground

pub returns-in_ok-node-in-Some-clause-cost : goal.returns-in_ok-node-in-Some-clause-cost
returns-in_ok-node-in-Some-clause-cost g c = λ f s.
    let x = c.args.target.now in
    let t = tree_of c.args.tree in
    let n = node_of c.in-Some.taken in
    let is = sym (c.in_ok-taken.ensures.image f s) ∙ ap (option_map node_of) c.in-Some.is in
    let u = node_of c.in_ok-node-in-Some.node in
    let e = replaced_as x t f (accepted x f n is) ∙ c.in_ok-node-in-Some.ensures.accepted in
    let all = ap forest_of c.from_ref.ensures.value in
    let becomes = subst (λ (z : Trees Labelled). Becomes f (replace x t f) z (one u)) (sym all)
    (replace_becomes c.untouched.ensures.replace c.edits_stay_formed.ensures.replace x n t f u s.1 c.requires.valid is e c.in_ok-node-in-Some.ensures.node) in
    let m = (g.K.Keeper.seen c.args.keeper.now).now in
    let given = one u in
    let taken = forest_of c.from_ref.result.now in
    let leads = swap_leads c.keys_are_apart.ensures c.images_rise.ensures c.byte_order.ensures c.ancestry.ensures f (replace x t f) taken given s.1 becomes in
    delete_cost c.args.steps.now c.subtree.new.steps c.plan_with.new.steps (length (changes taken given)) (length (run_of x m)) (length (image f)) (length (image (replace x t f))) (c.subtree.ensures.cost s.0)
    (subst (λ (z : Entries). length (run_of x m) ≤ length z) s.2 (run_few x m)) c.plan_with.ensures.cost (words_few f (replace x t f) taken given becomes leads)

pub returns-in_ok-node-in-Some-clause-early : goal.returns-in_ok-node-in-Some-clause-early
returns-in_ok-node-in-Some-clause-early g c = λ f s k.
    let x = c.args.target.now in
    let t = tree_of c.args.tree in
    let n = node_of c.in-Some.taken in
    let is = sym (c.in_ok-taken.ensures.image f s) ∙ ap (option_map node_of) c.in-Some.is in
    absurd (k (replaced_as x t f (accepted x f n is) ∙ c.in_ok-node-in-Some.ensures.accepted))

pub returns-in-None-clause-refused : goal.returns-in-None-clause-refused
returns-in-None-clause-refused g c = λ f s.
    let x = c.args.target.now in
    let t = tree_of c.args.tree in
    let is = sym (c.in_ok-taken.ensures.image f s) ∙ ap (option_map node_of) c.in-None.is in
    ap (λ (r : Option Refusal). or_full r c.args.limit (replace x t f)) (replaced_absent x t f (refused x f is))

pub returns-in-None-clause-cost : goal.returns-in-None-clause-cost
returns-in-None-clause-cost g c = λ f s.
    let x = c.args.target.now in
    let m = (g.K.Keeper.seen c.args.keeper.now).now in
    read_cost c.args.steps.now c.subtree.new.steps (length (run_of x m)) (length (image f)) (length (image (replace x (tree_of c.args.tree) f))) (c.subtree.ensures.cost s.0)
    (subst (λ (z : Entries). length (run_of x m) ≤ length z) s.2 (run_few x m))

pub returns-in-None-clause-early : goal.returns-in-None-clause-early
returns-in-None-clause-early g c = λ f s n.
    let x = c.args.target.now in
    let m = (g.K.Keeper.seen c.args.keeper.now).now in
    let few = subst (λ (z : Entries). length (run_of x m) ≤ length z) s.2 (run_few x m) in
    omega (arith, c.subtree.ensures.cost s.0, few)

pub returns-in_err-taken-clause-damaged : goal.returns-in_err-taken-clause-damaged
returns-in_err-taken-clause-damaged g c = λ maps.
    let p = err_from_is_err_and c.from_residual.result c.from_residual.ensures.1 in
    rw (p.1, p.2) (inr (c.in_err-taken.ensures.damaged maps))

pub returns-in_err-node-in-Some-clause-damaged : goal.returns-in_err-node-in-Some-clause-damaged
returns-in_err-node-in-Some-clause-damaged g c = λ maps.
    let p = err_from_is_err_and c.from_residual-in_err-node-in-Some.result c.from_residual-in_err-node-in-Some.ensures.1 in
    rw (p.1, p.2) (tree_blamed c.args.target.now _ c.in_err-node-in-Some.field-0.0)

pub returns-in_ok-node-in-Some-clause-damaged : goal.returns-in_ok-node-in-Some-clause-damaged
returns-in_ok-node-in-Some-clause-damaged g c = λ maps.
    let ground = c.subtree.ensures.ground in
    subst (λ (z : Seen g.row.K-Spot.Denot). IfErr c.plan_with.result (IfFault (BlamesTarget c.args.target.now z.now))) (ground.same maps)
    (at_target c.args.target.now _ c.plan_with.result (counts_blamed _ _ c.plan_with.result (c.plan_with.ensures.damaged (ground.maps.0 maps))))

use Rattle.std.proofs.Common.{◌≡◌, ◌∙◌, ap, subst, ℤ, List, IfOk}
use Rattle.mm_image.specs.Ground.{HoldsImage}
use Rattle.mm_tree.specs.Hits.{hits_of}
use Rattle.mm_store.proofs.Found.{exclusive_nodes}
use Rattle.mm_store.proofs.Told.{sound_of}
use Rattle.mm_store.proofs.store.Store.elca.Goals as goal

pub returns-clause-value : goal.returns-clause-value
returns-clause-value g c = λ f h.
    let e = c.as_slice.ensures ∙ c.in_ok-labels.ensures.value f h in
    let ground = c.exclusive.ensures.ground in
    let later : HoldsImage g.K.Keeper.has_maps g.K.Keeper.seen c.exclusive.new.keeper f = (ground.maps.0 h.0, h.1, ap (λ z. z.now) (ground.same h.0) ∙ h.2) in
    subst (λ (xs : List (List ℤ)). IfOk c.hits_of.result (λ hits. hits ≡ hits_of f xs)) e (c.hits_of.ensures.value f later (exclusive_nodes c.exclusive_answers.ensures.full c.args.query.now f c.as_slice.result.now e))

pub returns-clause-undamaged : goal.returns-clause-undamaged
returns-clause-undamaged g c = λ f h.
    let e = c.as_slice.ensures ∙ c.in_ok-labels.ensures.value f h in
    let ground = c.exclusive.ensures.ground in
    let later : HoldsImage g.K.Keeper.has_maps g.K.Keeper.seen c.exclusive.new.keeper f = (ground.maps.0 h.0, h.1, ap (λ z. z.now) (ground.same h.0) ∙ h.2) in
    sound_of c.hits_of.result (c.hits_of.ensures.undamaged f later (exclusive_nodes c.exclusive_answers.ensures.full c.args.query.now f c.as_slice.result.now e))

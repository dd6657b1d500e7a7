use Rattle.std.proofs.Common.{◌≡◌, ap, subst, List, ◌∙◌, IfOk, IfErr}
use Rattle.mm_keeper.specs.Keeping.{Seen}
use Rattle.mm_image.specs.Ground.{HoldsImage}
use Rattle.mm_lists.specs.Causes.{BlamesOnly}
use Rattle.mm_lists.specs.Full.{Word}
use Rattle.mm_tree.specs.Fragments.{fragment, fragment_tree}
use Rattle.mm_fragment.specs.Showing.{named_in}
use Rattle.mm_fragment.specs.Stored.{IsDamageBelow}
use Rattle.mm_fragment.proofs.Rounds.{asked_of}
use Rattle.mm_fragment.proofs.stored_calls.stored_fragment.Goals as goal

pub returns-clause-value : goal.returns-clause-value
returns-clause-value g c = λ f t i h r k.
    let words = c.words-words in
    let kept = c.stored_matches.ensures.ground in
    let later : HoldsImage g.K.Keeper.has_maps g.K.Keeper.seen c.stored_matches.new.keeper f = (kept.maps.0 i.0, i.1, ap (λ (z : Seen g.row.K-Spot.Denot). z.now) (kept.same i.0) ∙ i.2) in
    let asked = asked_of f c.args.root.now t c.args.answers.now words.result.now c.args.query.now i.1 words.ensures.value h r k in
    subst (λ (ws : List Word). IfOk c.stored_assembled.result (λ u. fragment_tree u ≡ fragment ws (named_in t))) words.ensures.value
    (c.stored_assembled.ensures.value f t later h (c.as_slice.ensures ∙ c.in_ok-found.ensures.value f t i asked))

pub returns-clause-undamaged : goal.returns-clause-undamaged
returns-clause-undamaged g c = λ f t i h r k.
    let words = c.words-words in
    let kept = c.stored_matches.ensures.ground in
    let later : HoldsImage g.K.Keeper.has_maps g.K.Keeper.seen c.stored_matches.new.keeper f = (kept.maps.0 i.0, i.1, ap (λ (z : Seen g.row.K-Spot.Denot). z.now) (kept.same i.0) ∙ i.2) in
    let asked = asked_of f c.args.root.now t c.args.answers.now words.result.now c.args.query.now i.1 words.ensures.value h r k in
    c.stored_assembled.ensures.undamaged f t later h (c.as_slice.ensures ∙ c.in_ok-found.ensures.value f t i asked)

pub returns-clause-blame : goal.returns-clause-blame
returns-clause-blame g c = λ maps.
    let kept = c.stored_matches.ensures.ground in
    subst (λ (z : Seen g.row.K-Spot.Denot). IfErr c.stored_assembled.result (BlamesOnly (IsDamageBelow c.args.root.now z.now))) (kept.same maps) (c.stored_assembled.ensures.blame (kept.maps.0 maps))

use Rattle.std.proofs.Common.{◌∙◌, ap, sym, subst, IfOk, IfErr}
use Rattle.std.specs.Prelude.{option_map, slice_get}
use Rattle.mm_keeper.specs.Keeping.{Seen}
use Rattle.mm_edit.specs.Inside.Counting.{BlamesNumber, TellsNumber}
use Rattle.mm_edit.proofs.Numbers.{blamed_number, err_more, no_number, ok_more, told_number}
use Rattle.mm_edit.proofs.counting.held_count.Goals as goal

pub returns-in-Some-clause-number : goal.returns-in-Some-clause-number
returns-in-Some-clause-number g c = λ maps.
    let seen = g.K.Keeper.seen c.args.keeper.now in
    let spot = c.in-Some.spot in
    let key = c.as_slice.ensures ∙ c.in_ok-key.ensures in
    ok_more c.held_at.result (λ n t. told_number seen.now c.args.word.now c.as_slice.result.now (seen.place spot) n key (ap (option_map seen.place) (sym c.in-Some.is) ∙ c.in_ok-spot.ensures.found maps) t)
    (subst (λ (z : Seen g.row.K-Spot.Denot). IfOk c.held_at.result (λ n. TellsNumber (slice_get z.now (z.place spot)) n)) (c.get.ensures.same maps) (c.held_at.ensures.number (c.get.ensures.keeps.maps.0 maps)))

pub returns-in-Some-clause-damaged : goal.returns-in-Some-clause-damaged
returns-in-Some-clause-damaged g c = λ maps.
    let seen = g.K.Keeper.seen c.args.keeper.now in
    let spot = c.in-Some.spot in
    let key = c.as_slice.ensures ∙ c.in_ok-key.ensures in
    err_more c.held_at.result (λ f t. blamed_number seen.now c.args.word.now c.as_slice.result.now (seen.place spot) f key (ap (option_map seen.place) (sym c.in-Some.is) ∙ c.in_ok-spot.ensures.found maps) t)
    (subst (λ (z : Seen g.row.K-Spot.Denot). IfErr c.held_at.result (BlamesNumber (slice_get z.now (z.place spot)))) (c.get.ensures.same maps) (c.held_at.ensures.damaged (c.get.ensures.keeps.maps.0 maps)))

pub returns-clause-number : goal.returns-clause-number
returns-clause-number g c = λ maps.
    let seen = g.K.Keeper.seen c.args.keeper.now in
    no_number seen.now c.args.word.now c.as_slice.result.now (c.as_slice.ensures ∙ c.in_ok-key.ensures) (ap (option_map seen.place) (sym c.in-None.is) ∙ c.in_ok-spot.ensures.found maps)

use Rattle.std.proofs.Common.{◌≡◌, ◌<◌, suc, length, get_or, take, drop, [], sym, ap, ◌∙◌, subst}
use Rattle.std.specs.Prelude.{slice_set}
use Rattle.mm_keeper.specs.Entries.{AllBelow, put, IsBelow, Rises, lookup}
use Rattle.mm_keeper.specs.Blocks.{joined}
use Rattle.mm_keeper.specs.Facts.Blocked.{get-any, some_at, rises_at}
use Rattle.mm_keeper.specs.Facts.Changing.{put-joined, lookup-joined, set-same, some-set, put-some}
use Rattle.mm_keeper.proofs.sorted_map.put_in.Goals as goal

pub place_in-requires : goal.place_in-requires
place_in-requires c =
    let bs = c.args.blocks.now.items in
    let e = c.args.entry in
    let b = c.seat_of-at.result in
    let l : b < length bs = subst (λ t. b < length t) c.as_slice.ensures.value c.seat_of-at.ensures.within in
    let m : c.behind-blocks.inside.items.items ≡ get_or bs b [] = c.behind-blocks.view_is ∙ c.index_mut.ensures.value ∙ get-any bs b _ [] l in
    subst Rises (sym m) (rises_at bs b c.requires.rises l)

pub returns-in-Ok-clause-ok : goal.returns-in-Ok-clause-ok
returns-in-Ok-clause-ok c =
    let bs = c.args.blocks.now.items in
    let e = c.args.entry in
    let b = c.seat_of-at.result in
    let l : b < length bs = subst (λ t. b < length t) c.as_slice.ensures.value c.seat_of-at.ensures.within in
    let m : c.behind-blocks.inside.items.items ≡ get_or bs b [] = c.behind-blocks.view_is ∙ c.index_mut.ensures.value ∙ get-any bs b _ [] l in
    let f = subst (λ k. AllBelow (joined (take b bs)) k) c.key.ensures (subst (λ t. AllBelow (joined (take b t)) c.key.result.now) c.as_slice.ensures.value c.seat_of-at.ensures.front) in
    let g = subst (λ k. IsBelow k (joined (drop (suc b) bs))) c.key.ensures (subst (λ t. IsBelow c.key.result.now (joined (drop (suc b) t))) c.as_slice.ensures.value c.seat_of-at.ensures.back) in
    ap (λ t. joined (slice_set bs b t)) (c.in-Ok.ensures.ok ∙ ap (λ t. put t e.0 e.1) m) ∙ put-joined e.0 e.1 bs b f g l

pub returns-in-Ok-clause-before : goal.returns-in-Ok-clause-before
returns-in-Ok-clause-before c =
    let bs = c.args.blocks.now.items in
    let e = c.args.entry in
    let b = c.seat_of-at.result in
    let l : b < length bs = subst (λ t. b < length t) c.as_slice.ensures.value c.seat_of-at.ensures.within in
    let m : c.behind-blocks.inside.items.items ≡ get_or bs b [] = c.behind-blocks.view_is ∙ c.index_mut.ensures.value ∙ get-any bs b _ [] l in
    let f = subst (λ k. AllBelow (joined (take b bs)) k) c.key.ensures (subst (λ t. AllBelow (joined (take b t)) c.key.result.now) c.as_slice.ensures.value c.seat_of-at.ensures.front) in
    let g = subst (λ k. IsBelow k (joined (drop (suc b) bs))) c.key.ensures (subst (λ t. IsBelow c.key.result.now (joined (drop (suc b) t))) c.as_slice.ensures.value c.seat_of-at.ensures.back) in
    c.in-Ok.ensures.before ∙ ap (λ t. lookup t e.0) m ∙ lookup-joined e.0 bs b f g l

pub returns-in-Ok-clause-some : goal.returns-in-Ok-clause-some
returns-in-Ok-clause-some c =
    let bs = c.args.blocks.now.items in
    let e = c.args.entry in
    let b = c.seat_of-at.result in
    let l : b < length bs = subst (λ t. b < length t) c.as_slice.ensures.value c.seat_of-at.ensures.within in
    let m : c.behind-blocks.inside.items.items ≡ get_or bs b [] = c.behind-blocks.view_is ∙ c.index_mut.ensures.value ∙ get-any bs b _ [] l in
    some-set bs b _ c.requires.some (subst (λ t. 0 < length t) (sym c.in-Ok.ensures.ok) (put-some e.0 e.1 c.behind-blocks.inside.items.items))

pub returns-in-Err-clause-err : goal.returns-in-Err-clause-err
returns-in-Err-clause-err c =
    let bs = c.args.blocks.now.items in
    let e = c.args.entry in
    let b = c.seat_of-at.result in
    let l : b < length bs = subst (λ t. b < length t) c.as_slice.ensures.value c.seat_of-at.ensures.within in
    let m : c.behind-blocks.inside.items.items ≡ get_or bs b [] = c.behind-blocks.view_is ∙ c.index_mut.ensures.value ∙ get-any bs b _ [] l in
    ap (λ t. joined (slice_set bs b t)) (c.in-Err.ensures.err ∙ m) ∙ set-same bs b l

pub returns-in-Err-clause-some : goal.returns-in-Err-clause-some
returns-in-Err-clause-some c =
    let bs = c.args.blocks.now.items in
    let e = c.args.entry in
    let b = c.seat_of-at.result in
    let l : b < length bs = subst (λ t. b < length t) c.as_slice.ensures.value c.seat_of-at.ensures.within in
    let m : c.behind-blocks.inside.items.items ≡ get_or bs b [] = c.behind-blocks.view_is ∙ c.index_mut.ensures.value ∙ get-any bs b _ [] l in
    some-set bs b _ c.requires.some (subst (λ t. 0 < length t) (sym (c.in-Err.ensures.err ∙ m)) (some_at bs b c.requires.some l))

use Rattle.std.proofs.Common.{◌≡◌, ◌<◌, ℕ, List, length, get_or, [], sym, ap, ap₂, ◌∙◌, subst, true, false, option_map}
use Rattle.std.specs.Prelude.{slice_set}
use Rattle.std.specs.List.{remove}
use Rattle.mm_keeper.specs.Entries.{has, without, rank}
use Rattle.mm_keeper.specs.Blocks.{joined}
use Rattle.mm_keeper.specs.Inside.Finding.{IsAt}
use Rattle.mm_keeper.specs.Facts.Keys.{without-at, lookup-at}
use Rattle.mm_keeper.specs.Facts.Blocked.{get-any, has-at}
use Rattle.mm_keeper.specs.Facts.Changing.{some-without, without-joined, lookup-joined, taken}
use Rattle.mm_keeper.proofs.sorted_map.take_out.Goals as goal

pub drop_empty-requires-clause-some : goal.drop_empty-requires-clause-some
drop_empty-requires-clause-some c = some-without c.args.blocks.now.items c.locate-found.result.0.block c.remove-item.new.self.items c.requires.some

pub returns-then-found-clause-without : goal.returns-then-found-clause-without
returns-then-found-clause-without c =
    let bs = c.args.blocks.now.items in
    let k = c.args.key.now in
    let A = c.as_slice.ensures.value in
    let b = c.locate-found.result.0.block in
    let i = c.locate-found.result.0.index in
    let at : IsAt bs k b = subst (λ t. IsAt t k b) A c.locate-found.ensures.at in
    let l : b < length bs = subst (λ t. b < length t) A (c.locate-found.ensures.block c.if-found.true) in
    let inside : i < length (get_or bs b []) = subst (λ t. i < length (get_or t b [])) A (c.locate-found.ensures.inside c.if-found.true) in
    let index : i ≡ rank (get_or bs b []) k = subst (λ t. i ≡ rank (get_or t b []) k) A c.locate-found.ensures.index in
    let held : has (joined bs) k ≡ true = sym (subst (λ t. c.locate-found.result.1 ≡ has (joined t) k) A c.locate-found.ensures.has) ∙ c.if-found.true in
    let here : has (get_or bs b []) k ≡ true = sym (has-at k bs b at l) ∙ held in
    let m : c.behind-blocks.inside.items.items ≡ get_or bs b [] = c.behind-blocks.view_is ∙ c.index_mut.ensures.value ∙ get-any bs b _ [] l in
    let rest : c.remove-item.new.self.items ≡ without (get_or bs b []) k = c.remove-item.ensures.items ∙ ap₂ (λ t n. remove t n) m index ∙ sym ((without-at k (get_or bs b [])).0 here) in
    c.drop_empty.ensures.same ∙ ap (λ t. joined (slice_set bs b t)) rest ∙ without-joined k bs b at.front at.back l

pub returns-then-found-clause-before : goal.returns-then-found-clause-before
returns-then-found-clause-before c =
    let bs = c.args.blocks.now.items in
    let k = c.args.key.now in
    let A = c.as_slice.ensures.value in
    let b = c.locate-found.result.0.block in
    let i = c.locate-found.result.0.index in
    let at : IsAt bs k b = subst (λ t. IsAt t k b) A c.locate-found.ensures.at in
    let l : b < length bs = subst (λ t. b < length t) A (c.locate-found.ensures.block c.if-found.true) in
    let inside : i < length (get_or bs b []) = subst (λ t. i < length (get_or t b [])) A (c.locate-found.ensures.inside c.if-found.true) in
    let index : i ≡ rank (get_or bs b []) k = subst (λ t. i ≡ rank (get_or t b []) k) A c.locate-found.ensures.index in
    let held : has (joined bs) k ≡ true = sym (subst (λ t. c.locate-found.result.1 ≡ has (joined t) k) A c.locate-found.ensures.has) ∙ c.if-found.true in
    let here : has (get_or bs b []) k ≡ true = sym (has-at k bs b at l) ∙ held in
    let m : c.behind-blocks.inside.items.items ≡ get_or bs b [] = c.behind-blocks.view_is ∙ c.index_mut.ensures.value ∙ get-any bs b _ [] l in
    let x = c.remove-item.result in
    taken k (get_or bs b []) i x here index inside (c.remove-item.ensures.value ∙ ap (λ t. get_or t i x) m)
    ∙ ap (λ o. option_map (λ (v : List ℕ). (k, v)) o) (lookup-joined k bs b at.front at.back l)

pub returns-else-found-clause-without : goal.returns-else-found-clause-without
returns-else-found-clause-without c =
    let bs = c.args.blocks.now.items in
    let k = c.args.key.now in
    let A = c.as_slice.ensures.value in
    let b = c.locate-found.result.0.block in
    let i = c.locate-found.result.0.index in
    let held : has (joined bs) k ≡ false = sym (subst (λ t. c.locate-found.result.1 ≡ has (joined t) k) A c.locate-found.ensures.has) ∙ c.if-found.false in
    sym ((without-at k (joined bs)).1 held)

pub returns-else-found-clause-before : goal.returns-else-found-clause-before
returns-else-found-clause-before c =
    let bs = c.args.blocks.now.items in
    let k = c.args.key.now in
    let A = c.as_slice.ensures.value in
    let b = c.locate-found.result.0.block in
    let i = c.locate-found.result.0.index in
    let held : has (joined bs) k ≡ false = sym (subst (λ t. c.locate-found.result.1 ≡ has (joined t) k) A c.locate-found.ensures.has) ∙ c.if-found.false in
    ap (λ o. option_map (λ (v : List ℕ). (k, v)) o) (sym ((lookup-at k (joined bs) ([], [])).1 held))

use Rattle.std.proofs.Common.{◌≡◌, ◌<◌, length, get_or, sym, ap, ap₂, subst, ◌∙◌, Some}
use Rattle.std.specs.Prelude.{slice_set}
use Rattle.std.specs.List.{insert}
use Rattle.mm_keeper.specs.Entries.{rank, has}
use Rattle.std.proofs.lemmas.Slice.Eq.{bytes_eq-Decides}
use Rattle.mm_keeper.specs.Facts.Keys.{put-at, lookup-at, has-in}
use Rattle.mm_keeper.proofs.block.place_in.Goals as goal

pub returns-then-holds-clause-ok : goal.returns-then-holds-clause-ok
returns-then-holds-clause-ok c =
    let m = c.args.items.now.items in
    let e = c.args.entry in
    let r : c.rank_of-at.result ≡ rank m e.0 = c.rank_of-at.ensures.rank ∙ ap₂ (λ a b. rank a b) c.as_slice.ensures.value c.key.ensures in
    let h : c.holds.result ≡ has m e.0 = c.holds.ensures.has ∙ ap₂ (λ a b. has a b) c.as_slice-2.ensures.value c.key-2.ensures in
    ap₂ (λ i x. slice_set m i x) r c.replace.ensures.after ∙ sym ((put-at e.0 e.1 m).0 (sym h ∙ c.if-holds.true))

pub returns-then-holds-clause-before : goal.returns-then-holds-clause-before
returns-then-holds-clause-before c =
    let m = c.args.items.now.items in
    let e = c.args.entry in
    let d = c.index_mut.result.now in
    let r : c.rank_of-at.result ≡ rank m e.0 = c.rank_of-at.ensures.rank ∙ ap₂ (λ a b. rank a b) c.as_slice.ensures.value c.key.ensures in
    let h : c.holds.result ≡ has m e.0 = c.holds.ensures.has ∙ ap₂ (λ a b. has a b) c.as_slice-2.ensures.value c.key-2.ensures in
    ap (λ t. Some t.1) (c.replace.ensures.value ∙ c.index_mut.ensures.value ∙ ap (λ i. get_or m i d) r) ∙ sym ((lookup-at e.0 m d).0 (sym h ∙ c.if-holds.true))

pub returns-then-holds-clause-key : goal.returns-then-holds-clause-key
returns-then-holds-clause-key c =
    let m = c.args.items.now.items in
    let e = c.args.entry in
    let d = c.index_mut.result.now in
    let r : c.rank_of-at.result ≡ rank m e.0 = c.rank_of-at.ensures.rank ∙ ap₂ (λ a b. rank a b) c.as_slice.ensures.value c.key.ensures in
    let h : c.holds.result ≡ has m e.0 = c.holds.ensures.has ∙ ap₂ (λ a b. has a b) c.as_slice-2.ensures.value c.key-2.ensures in
    let l : rank m e.0 < length m = subst (λ n. n < length m) r (subst (λ t. c.rank_of-at.result < length t) c.as_slice-2.ensures.value (c.holds.ensures.within c.if-holds.true)) in
    ap (λ t. t.0) (c.replace.ensures.value ∙ c.index_mut.ensures.value ∙ ap (λ i. get_or m i d) r)
    ∙ (bytes_eq-Decides (get_or m (rank m e.0) d).0 e.0).0 (sym (has-in e.0 m d l) ∙ (sym h ∙ c.if-holds.true))

pub returns-clause-ok : goal.returns-clause-ok
returns-clause-ok c =
    let m = c.args.items.now.items in
    let e = c.args.entry in
    let r : c.rank_of-at.result ≡ rank m e.0 = c.rank_of-at.ensures.rank ∙ ap₂ (λ a b. rank a b) c.as_slice.ensures.value c.key.ensures in
    let h : c.holds.result ≡ has m e.0 = c.holds.ensures.has ∙ ap₂ (λ a b. has a b) c.as_slice-2.ensures.value c.key-2.ensures in
    c.in_ok-insert.ensures.items ∙ ap (λ i. insert m i e) r ∙ sym ((put-at e.0 e.1 m).1 (sym h ∙ c.if-holds.false))

pub returns-clause-before : goal.returns-clause-before
returns-clause-before c =
    let m = c.args.items.now.items in
    let e = c.args.entry in
    let h : c.holds.result ≡ has m e.0 = c.holds.ensures.has ∙ ap₂ (λ a b. has a b) c.as_slice-2.ensures.value c.key-2.ensures in
    sym ((lookup-at e.0 m e).1 (sym h ∙ c.if-holds.false))

use Rattle.std.proofs.Common.{◌≡◌, ◌∙◌, ◌++◌, ◌∷◌, [], ◌||◌, ℕ, List, ap, sym, append-nil, append_assoc, length, map}
use Rattle.std.specs.Prelude.{is_some}
use Rattle.std.specs.BTreeMap.{get, is_at}
use Rattle.std.specs.Cmp.Lexicographic.{slice_cmp}
use Rattle.std.specs.List.{list_any}
use Rattle.std.specs.Ordering.{nat_cmp}
use Rattle.mm_tree.specs.Numbering.{forest_of}
use Rattle.mm_edit.specs.declared.changing.WordChange.{WordChange}
use Rattle.mm_edit.specs.Inside.Changes.{change, number_of}
use Rattle.mm_edit.proofs.WordSets.{set_is}
use Rattle.mm_edit.proofs.changing.word_changes.Goals as goal

pub loop-word-preserved : goal.loop-word-preserved
loop-word-preserved c =
    let f = change (forest_of c.args.taken.now) (forest_of c.args.given.now) in
    let told = c.loop-word.changes.items in
    let w = c.in-Some.word in
    let t : c.number_in-taken.result ≡ number_of (forest_of c.args.taken.now) w = c.number_in-taken.ensures ∙ ap length (c.in_ok-leaving.ensures.lists w) in
    let g : c.number_in-given.result ≡ number_of (forest_of c.args.given.now) w = c.number_in-given.ensures ∙ ap length (c.in_ok-coming.ensures.lists w) in
    let e : ◌≡◌ {A = WordChange} (record { word = w; taken = c.number_in-taken.result; given = c.number_in-given.result }) (f w) = λ i. record { word = w; taken = t i; given = g i } in
    ap (λ z. z ++ map f c.next.new.self) (c.in_ok-push.ensures.items ∙ ap (λ (z : WordChange). told ++ z ∷ []) e) ∙ append_assoc told (f w ∷ []) (map f c.next.new.self)
    ∙ ap (λ z. told ++ map f z) (sym c.in-Some.ensures.steps) ∙ c.loop-word.invariant

pub returns : goal.returns
returns c =
    let f = change (forest_of c.args.taken.now) (forest_of c.args.given.now) in
    let told = c.loop-word.changes.items in
    let g = c.into_iter-word-iterator.ensures.into_iter_gives in
    let leaving = c.in_ok-leaving.leaving in
    let words = set_is (forest_of c.args.taken.now) (forest_of c.args.given.now) leaving c.in_ok-coming.coming c.insert_words.new.words c.insert_words-2.new.words g.4
    c.in_ok-leaving.ensures.lists c.in_ok-leaving.ensures.filled c.in_ok-coming.ensures.lists c.in_ok-coming.ensures.filled
    (λ w. c.in_ok-insert_words.ensures w ∙ ap (λ (ks : List (List ℕ)). list_any (is_at (slice_cmp nat_cmp w)) ks || is_some (get (slice_cmp nat_cmp) leaving w)) c.new-words.ensures.empty)
    c.in_ok-insert_words-2.ensures in
    sym (append-nil told) ∙ ap (λ z. told ++ map f z) (sym c.in-None.ensures.steps.0) ∙ c.loop-word.invariant ∙ ap (map f) (g.0 ∙ words)

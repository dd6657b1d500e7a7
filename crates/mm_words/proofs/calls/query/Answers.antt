use Rattle.std.proofs.Common.{◌≡◌, ◌∙◌, ap, sym, map, length, vec_len, filter, rules}
use Rattle.std.proofs.lemmas.List.{length-map}
use Rattle.mm_words.specs.Words.{is_word, first_occurrences}
use Rattle.mm_words.specs.Refusals.{first_long}
use Rattle.mm_words.proofs.QueryFacts.{made_same, made_query}
use Rattle.mm_words.proofs.calls.query.Goals as goal

pub of_words-requires : goal.of_words-requires
of_words-requires c =
    let found = map (λ w. w.now) c.in_ok-distinct.distinct.items in
    let size : vec_len c.in_ok-distinct.distinct ≡ length c.in_ok-distinct.distinct.items = search rules in
    made_query c.args.text.now c.in_ok-kept.kept found c.in_ok-words.words c.in_ok-kept.ensures (c.in_ok-distinct.ensures ∙ ap first_occurrences c.as_slice.ensures)
    (c.in_default.ensures ∙ ap (λ ws. first_long (map (λ w. w.now) ws)) c.as_slice-2.ensures.value) (c.in_ok-words.ensures ∙ ap (λ ws. filter is_word (map (λ w. w.now) ws)) c.as_slice-3.ensures.value)
    c.len-found.result (c.len-found.ensures ∙ size ∙ sym (length-map c.in_ok-distinct.distinct.items (λ w. w.now))) c.if-found-eq0.false c.if-found-gt-QUERY_LIMIT.false

pub returns-clause-words : goal.returns-clause-words
returns-clause-words c =
    let found = map (λ w. w.now) c.in_ok-distinct.distinct.items in
    c.of_words.ensures
    ∙ made_same c.args.text.now c.in_ok-kept.kept found c.in_ok-words.words c.in_ok-kept.ensures (c.in_ok-distinct.ensures ∙ ap first_occurrences c.as_slice.ensures)
    (c.in_default.ensures ∙ ap (λ ws. first_long (map (λ w. w.now) ws)) c.as_slice-2.ensures.value) (c.in_ok-words.ensures ∙ ap (λ ws. filter is_word (map (λ w. w.now) ws)) c.as_slice-3.ensures.value)

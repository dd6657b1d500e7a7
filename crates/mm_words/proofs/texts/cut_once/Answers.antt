use Rattle.std.proofs.Common.{◌<◌, arith, ap, ◌∙◌, sym, length, rules}
use Rattle.std.specs.List.{position_or_len}
use Rattle.std.proofs.lemmas.Str.{IsCharBoundary-before_ascii, IsCharBoundary-after_ascii}
use Rattle.mm_words.specs.Words.{is_cut}
use Rattle.mm_words.proofs.Cutting.{words_none, cut_low, cuts_there}
use Rattle.mm_words.proofs.texts.cut_once.Goals as goal

pub returns-then-i-name : goal.returns-then-i-name
returns-then-i-name c =
    let e = c.cut_place-i.ensures.value ∙ ap (λ zs. position_or_len is_cut zs) c.as_bytes.ensures.value in
    words_none c.args.name.now (sym e ∙ c.if-i-name.true)

pub range-requires-clause-end_boundary : goal.range-requires-clause-end_boundary
range-requires-clause-end_boundary c =
    let e = c.cut_place-i.ensures.value ∙ ap (λ zs. position_or_len is_cut zs) c.as_bytes.ensures.value in
    let h : c.cut_place-i.result < length c.args.name.now = omega (arith, c.cut_place-i.ensures.bound, c.as_bytes.ensures.len, c.if-i-name.false) in
    IsCharBoundary-before_ascii c.args.name.now c.cut_place-i.result h (cut_low c.args.name.now c.cut_place-i.result e h)

pub range_from-requires : goal.range_from-requires
range_from-requires c =
    let e = c.cut_place-i.ensures.value ∙ ap (λ zs. position_or_len is_cut zs) c.as_bytes.ensures.value in
    let h : c.cut_place-i.result < length c.args.name.now = omega (arith, c.cut_place-i.ensures.bound, c.as_bytes.ensures.len, c.if-i-name.false) in
    λ _. IsCharBoundary-after_ascii c.args.name.now c.cut_place-i.result c.utf8.name h (cut_low c.args.name.now c.cut_place-i.result e h)

pub returns : goal.returns
returns c =
    let e = c.cut_place-i.ensures.value ∙ ap (λ zs. position_or_len is_cut zs) c.as_bytes.ensures.value in
    let h : c.cut_place-i.result < length c.args.name.now = omega (arith, c.cut_place-i.ensures.bound, c.as_bytes.ensures.len, c.if-i-name.false) in
    cuts_there c.args.name.now c.range.result.now c.range_from.result.now c.cut_place-i.result e h (let f = c.range.ensures.value in search rules) (let f = c.range_from.ensures.value in search rules)

use Rattle.std.proofs.Common.{◌||◌, ◌∙◌, ap, sym}
use Rattle.mm_edit.proofs.WordSets.{Words, among, none_left, one_more, some_among}
use Rattle.mm_edit.proofs.changing.insert_words.Goals as goal

pub loop-word-preserved : goal.loop-word-preserved
loop-word-preserved c = λ w.
    one_more c.loop-word.words c.insert.new.self c.in_ok-copy.field-0 (c.in-Some.word.now, c.in-Some._labels.now) c.loop-word.word-iterator c.next.new.self
    (Words c.args.words.now w || among w c.args.lists.now.entries) w
    c.in_ok-copy.ensures c.in_ok-insert.ensures.updates c.in-Some.ensures.steps (c.loop-word.invariant w)

pub returns : goal.returns
returns c = λ w.
    none_left c.loop-word.words c.loop-word.word-iterator _ w c.in-None.ensures.steps.0 (c.loop-word.invariant w)
    ∙ ap (λ b. Words c.args.words.now w || b) (sym (some_among w c.args.lists.now.entries))

use Rattle.std.proofs.Common.{◌<◌, ◌^◌, ◌+◌, ℕ, List, ◌∷◌, ◌++◌, [], ap, sym, ◌∙◌, arith, drop}
use Rattle.std.specs.List.{list_any}
use Rattle.mm_fragment.specs.Inside.Owning.{is_mark, marked_words}
use Rattle.mm_fragment.proofs.Words.{next_bit}
use Rattle.mm_fragment.proofs.Owned.{marked_more, marked_yes, marked_no}
use Rattle.mm_fragment.proofs.owning.own_words.Goals as goal
use Rattle.mm_fragment.proofs.owning.own_words.Goals.{then-has_mark+in_ok-copy+in_ok-push, else-has_mark}

pub loop-word-preserved : goal.loop-word-preserved
loop-word-preserved c = record {
  bit = next_bit c.loop-word.word-index c.loop-word.bit c.doubled-bit.result c.loop-word.invariant.bit c.doubled-bit.ensures;
  value = λ d.
      let ws = c.args.words.now in
      let ms = c.args.marks.now in
      let x = c.args.label.now in
      let i = c.loop-word.word-index in
      let rest = marked_words (2 ^ (i + 1)) (drop (i + 1) ws) ms x in
      let all = marked_words 1 ws ms x in
      let small : i < 32 = omega (arith, c.loop-word-test.true, c.requires) in
      let step = marked_more ws i c.loop-word.bit c.word-item.result ms x c.loop-word.own all c.loop-word-test.true c.word-item.is (c.loop-word.invariant.bit small) (c.loop-word.invariant.value d) in
      elim c.if-has_mark.branch [
        | then-has_mark+in_ok-copy+in_ok-push w ↦
            marked_yes c.loop-word.own c.if-has_mark.own c.word-item.result rest all (list_any (is_mark c.loop-word.bit x) ms) (sym (c.has_mark.ensures d) ∙ w.if-has_mark.true)
            (w.own-is ∙ w.in_ok-push.ensures.ok ∙ ap (λ (z : List ℕ). c.loop-word.own ++ z ∷ []) w.in_ok-copy.ensures) step
        | else-has_mark w ↦
            ap (λ (z : List (List ℕ)). z ++ rest) w.own-is
            ∙ marked_no c.loop-word.own c.word-item.result rest all (list_any (is_mark c.loop-word.bit x) ms) (sym (c.has_mark.ensures d) ∙ w.if-has_mark.false) step
      ];
}

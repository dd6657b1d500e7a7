use Rattle.std.proofs.Common.{◌≡◌, ◌∷◌, ℕ, IsTrue, List, ◌++◌, take, drop, sym, ap, ◌∙◌, subst}
use Rattle.mm_label.specs.Bytes.{bytes_of}
use Rattle.mm_label.specs.Label.{SpellsNoLabel}
use Rattle.mm_words.specs.Words.{is_word}
use Rattle.mm_image.proofs.KeyFacts.{all_but_zero, behind_first, no_end, no_occurrence, no_word, word_found, word_front}
use Rattle.mm_image.proofs.parsed.parse_occurrence.Goals as goal

pub returns-in_default : goal.returns-in_default
returns-in_default c = no_end c.args.rest.now (all_but_zero c.args.rest.now c.in_default.ensures.none)

pub returns-in_default-2 : goal.returns-in_default-2
returns-in_default-2 c =
    let rest = c.args.rest.now in
    let e = c.in-Some.ensures in
    let w = word_front rest c.in-Some.end e.within e.zero e.before in
    let s = c.split_at.ensures in
    let none = rw c.in_default-2.is at c.in_ok-word.ensures in
    no_occurrence rest (take c.in-Some.end rest) (drop 1 (drop c.in-Some.end rest)) w.1 w.0
    (λ h. absurd (no_word c.split_at.result.0.now (sym none) (subst (λ (z : List ℕ). IsTrue (is_word z)) (sym s.front) h)))

pub returns-in-Some-3 : goal.returns-in-Some-3
returns-in-Some-3 c =
    let rest = c.args.rest.now in
    let e = c.in-Some.ensures in
    let w = word_front rest c.in-Some.end e.within e.zero e.before in
    let s = c.split_at.ensures in
    let word = word_found c.in-Some-2.word c.split_at.result.0.now (rw c.in-Some-2.is at c.in_ok-word.ensures) in
    let label = rw c.in-Some-3.is at c.in_ok-label.ensures in
    let back : drop 1 c.split_at.result.1.now ≡ drop 1 (drop c.in-Some.end rest) = ap (drop 1) s.back in
    let bytes : bytes_of c.in-Some-3.label ≡ drop 1 (drop c.in-Some.end rest) = label.1 ∙ (behind_first c.split_at.result.1.now ∙ back) in (
      (word.1, label.0),
      ap (λ (z : List ℕ). 2 ∷ z) (
          ap (λ (z : List ℕ). z ++ (0 ∷ bytes_of c.in-Some-3.label)) (word.0 ∙ s.front)
          ∙ (ap (λ (z : List ℕ). take c.in-Some.end rest ++ (0 ∷ z)) bytes ∙ sym w.1)),
    )

pub returns-in-None : goal.returns-in-None
returns-in-None c =
    let rest = c.args.rest.now in
    let e = c.in-Some.ensures in
    let w = word_front rest c.in-Some.end e.within e.zero e.before in
    let s = c.split_at.ensures in
    let none = rw c.in-None.is at c.in_ok-label.ensures in
    let back : drop 1 (drop c.in-Some.end rest) ≡ drop 1 c.split_at.result.1.now = ap (drop 1) (sym s.back) in
    no_occurrence rest (take c.in-Some.end rest) (drop 1 (drop c.in-Some.end rest)) w.1 w.0
    (λ h. subst SpellsNoLabel (behind_first c.split_at.result.1.now ∙ sym back) none)

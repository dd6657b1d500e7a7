use Rattle.std.proofs.Common.{drop, ◌+◌, ◌≡◌, ◌∙◌, ◌++◌, [], ◌∷◌, true, false, map, ap, sym, subst, bytes_eq}
use Rattle.std.specs.List.{list_any}
use Rattle.std.specs.Bool.{OnFalse}
use Rattle.std.proofs.lemmas.List.{map-append}
use Rattle.std.proofs.lemmas.Bool.{not-false, not-true}
use Rattle.mm_words.specs.Words.{first_occurrences}
use Rattle.mm_words.proofs.Occurrences.{unseen, HasWords, no_words, at_start, more_words, same_words, old_found, new_found}
use Rattle.mm_words.proofs.calls.first_occurrences.Goals.{then-branch+in_ok-push, else-branch}
use Rattle.mm_words.proofs.calls.first_occurrences.Goals as goal

pub loop-word-init : goal.loop-word-init
loop-word-init c =
    let none : map (λ k. k.now) c.new-found.result.items ≡ [] = ap (map (λ k. k.now)) c.new-found.ensures.items in record {
      same = no_words c.new-seen.result _ c.new-seen.ensures.empty none;
      rest = at_start c.args.words.now _ none;
    }

pub loop-word-preserved : goal.loop-word-preserved
loop-word-preserved c = elim c.if-branch.branch [
  | then-branch+in_ok-push w ↦
      let found = map (λ k. k.now) c.loop-word.found.items in
      let new : list_any (bytes_eq c.word-item.result) found ≡ false
      = subst (λ v. list_any (bytes_eq v) found ≡ false) c.as_slice.ensures
      (sym (c.loop-word.invariant.same c.as_slice.result.now) ∙ not-true _ (sym c.in_ok-insert.ensures.added ∙ w.if-branch.true)) in
      let pushed : found ++ c.word-item.result ∷ [] ≡ map (λ k. k.now) c.if-branch.found.items
      = sym (ap (λ v. map (λ k. k.now) v.items) w.found-is ∙ ap (map (λ k. k.now)) w.in_ok-push.ensures.items ∙ map-append (λ k. k.now) c.loop-word.found.items (w.as_slice-then-branch.result ∷ []) ∙ ap (λ v. map (λ k. k.now) c.loop-word.found.items ++ v ∷ []) w.as_slice-then-branch.ensures) in record {
        same = subst (HasWords c.insert.new.self) pushed (subst (λ v. HasWords c.insert.new.self (found ++ v ∷ [])) c.as_slice.ensures (more_words c.loop-word.seen c.insert.new.self c.as_slice.result found c.in_ok-insert.ensures.updates c.loop-word.invariant.same));
        rest = subst (λ ws. ws ++ unseen ws (first_occurrences (drop (c.loop-word.word-index + 1) c.args.words.now)) ≡ first_occurrences c.args.words.now) pushed
            (new_found c.args.words.now found c.loop-word.word-index c.word-item.result c.loop-word-test.true c.word-item.is new c.loop-word.invariant.rest);
      }
  | else-branch w ↦
      let found = map (λ k. k.now) c.loop-word.found.items in
      let old : list_any (bytes_eq c.word-item.result) found ≡ true
      = subst (λ v. list_any (bytes_eq v) found ≡ true) c.as_slice.ensures
      (sym (c.loop-word.invariant.same c.as_slice.result.now) ∙ not-false _ (sym c.in_ok-insert.ensures.added ∙ w.if-branch.false)) in
      let same : found ≡ map (λ k. k.now) c.if-branch.found.items = ap (λ v. map (λ k. k.now) v.items) (sym w.found-is) in record {
        same = subst (HasWords c.insert.new.self) same (same_words c.loop-word.seen c.insert.new.self found (subst (λ b. OnFalse b (c.insert.new.self.keys ≡ c.loop-word.seen.keys)) w.if-branch.false c.in_ok-insert.ensures.unchanged) c.loop-word.invariant.same);
        rest = subst (λ ws. ws ++ unseen ws (first_occurrences (drop (c.loop-word.word-index + 1) c.args.words.now)) ≡ first_occurrences c.args.words.now) same
            (old_found c.args.words.now found c.loop-word.word-index c.word-item.result c.loop-word-test.true c.word-item.is old c.loop-word.invariant.rest);
      }
]

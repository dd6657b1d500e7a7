use Rattle.std.proofs.Common.{rules, ℕ, sym, subst, ap, ◌∙◌, ◌≡◌, ◌++◌, ◌∷◌, [], cond, List, Bool}
use Rattle.std.specs.Prelude.{bytes_eq}
use Rattle.std.specs.List.{list_any}
use Rattle.std.specs.List.Sorted.{IsStrictlySortedBy}
use Rattle.std.specs.Ordering.{nat_cmp}
use Rattle.std.specs.Cmp.Lexicographic.{slice_cmp}
use Rattle.std.specs.Vec.Iter.{into_iter_items, into_iter_len}
use Rattle.mm_tree.specs.Search.{own}
use Rattle.mm_label.specs.Fronts.{Label}
use Rattle.mm_tree.specs.KeywordLists.{list_in}
use Rattle.mm_tree.proofs.Gathering.{put_first, same_any, fewer_left, tail_rises}
use Rattle.mm_tree.proofs.keywords.put_words.Goals as goal

pub loop-word-init : goal.loop-word-init
loop-word-init c =
    let g = c.into_iter-word-iterator.ensures.into_iter_gives in
    let items : into_iter_items c.into_iter-word-iterator.result ≡ c.in_ok-words.words = g.0 ∙ c.into_vec-word-items.ensures in
    record {
      may_step = tt;
      ends = tt;
      whole = search rules;
      rises = subst (IsStrictlySortedBy (slice_cmp nat_cmp)) (sym items) c.in_ok-words.ensures.rises;
      left = λ w. ap (λ (t : Bool). list_in c.args.lists.now w ++ cond t (c.args.label.now ∷ []) [])
          (ap (list_any (bytes_eq w)) items ∙ same_any (own c.args.kind.now) c.in_ok-words.words c.in_ok-words.ensures.same w);
      filled = λ f. f;
    }

pub loop-word-preserved : goal.loop-word-preserved
loop-word-preserved c =
    let steps = c.in-Some.ensures.steps in
    record {
      may_step = tt;
      ends = tt;
      whole = fewer_left (into_iter_items c.loop-word.word-iterator) (into_iter_items c.next.new.self) c.in-Some.word (into_iter_len c.loop-word.word-iterator) (into_iter_len c.next.new.self) c.loop-word.invariant.whole steps.0 steps.1;
      rises = tail_rises (into_iter_items c.loop-word.word-iterator) (into_iter_items c.next.new.self) c.in-Some.word c.loop-word.invariant.rises steps.0;
      left = λ w.
          let all = list_in c.args.lists.now w ++ cond (list_any (bytes_eq w) (own c.args.kind.now)) (c.args.label.now ∷ []) [] in
          put_first c.loop-word.lists c.put-in-loop-word.new.lists c.in-Some.word (into_iter_items c.next.new.self) c.args.label.now
          (subst (IsStrictlySortedBy (slice_cmp nat_cmp)) steps.0 c.loop-word.invariant.rises)
          (subst (λ (l : Label). (v : List ℕ) → list_in c.put-in-loop-word.new.lists v ≡ list_in c.loop-word.lists v ++ cond (bytes_eq v c.in-Some.word) (l ∷ []) []) c.in_ok-copy.ensures c.in_ok-put.ensures.lists) w all
          (subst (λ (ws : List (List ℕ)). list_in c.loop-word.lists w ++ cond (list_any (bytes_eq w) ws) (c.args.label.now ∷ []) [] ≡ all) steps.0 (c.loop-word.invariant.left w));
      filled = λ f. c.in_ok-put.ensures.filled (c.loop-word.invariant.filled f);
    }

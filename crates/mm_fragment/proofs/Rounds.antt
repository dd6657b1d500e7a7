-- What one round of the walk over the list of a word leaves, and the whole walk.
use Rattle.std.proofs.Common.{◌≡◌, ℕ, ◌+◌, ◌≤◌, List, [], ◌∷◌, ◌++◌, refl, sym, subst, ap, ◌∙◌, Option, Some, None, Bool, true, false, arith, length, length-append, map, append_assoc, append-nil}
use Rattle.std.specs.Prelude.{if◌then◌else◌, AllPairs, IsTrue}
use Rattle.std.proofs.lemmas.List.{map-append, length-map}
use Rattle.mm_label.specs.Label.{whole, IsBefore}
use Rattle.mm_label.specs.Fronts.{Label, Front, is_front}
use Rattle.mm_lists.specs.Full.{Word}
use Rattle.mm_lists.specs.Lists.{IsRight, IsNext, IsRightPast}
use Rattle.mm_match.specs.declared.mark.Mark.{Mark}
use Rattle.mm_match.specs.Marks.{at_or_below}
use Rattle.mm_tree.specs.Trees.{Trees, Tree}
use Rattle.mm_tree.specs.Numbering.{Labelled}
use Rattle.mm_tree.specs.Forests.{is_well_formed}
use Rattle.mm_tree.specs.Edits.{found}
use Rattle.mm_tree.specs.Search.{list_of, worded}
use Rattle.mm_tree.specs.Fragments.{Named}
use Rattle.mm_fragment.specs.Bound.{cost_of, full_count, holders}
use Rattle.mm_fragment.specs.Inside.Children.{IsFullChild}
use Rattle.mm_fragment.specs.Inside.Gathering.{IsAsked, Walked, WalkedBelow, Passes, full_list, open_list, open_holders, marked_with}
use Rattle.mm_fragment.specs.Matching.{Tells, marks_of, open_nodes}
use Rattle.mm_fragment.specs.Showing.{named_in}
use Rattle.mm_label.specs.Facts.Fronts.{front_yes, front_no}
use Rattle.mm_lists.specs.Facts.Listed.{listed_whole}
use Rattle.mm_lists.specs.Facts.Formed.{formed}
use Rattle.mm_fragment.proofs.Open.{opens_of, full_length}
use Rattle.mm_fragment.proofs.Walks.{walk_right, walk_take, walk_skip, walk_ended, walk_bound, walk_room}

-- the walk stands at a node, whose label is whole as all are
pub stands_whole : (f : Trees Labelled) (x a : Label) (t : Tree Labelled) (answers : List Label) (query : List Word) (w : Word) (done : List Label) (passed : ℕ)
    → IsAsked f x t answers query → WalkedBelow f x t query w done passed (Some a) → whole a ≡ a
stands_whole f x a t answers query w done passed k h = listed_whole w a (worded f) (formed f k.formed) h.here.0

pub root_whole : (f : Trees Labelled) (x : Label) (t : Tree Labelled) (answers : List Label) (query : List Word) (w : Word) → IsAsked f x t answers query → whole x ≡ x
root_whole f x t answers query w k = (opens_of f x t answers query w k).is_whole

pub pass_skip : (f : Trees Labelled) (x a k : Label) (t : Tree Labelled) (answers : List Label) (query : List Word) (w : Word) (bit : ℕ) (done : List Label) (passed : ℕ) (marks : List Mark) (o : Option Label)
    → IsAsked f x t answers query → WalkedBelow f x t query w done passed (Some a) → Front x a → IsFullChild x answers a (Some k) → IsRightPast (list_of w (worded f)) k o
    → Passes f x t query w bit done passed marks marks o
pass_skip f x a k t answers query w bit done passed marks o asked h b c r =
    let ms = list_of w (worded f) in
    let free = open_list w query (named_in t) in
    let full = full_list query (named_in t).1 in
    let opens = opens_of f x t answers query w asked in
    record {
      more = [];
      skips = 1;
      walked = subst (λ (d : List Label). Walked ms x free full d (passed + 1) o) (sym (append-nil done))
          (walk_skip ms x a k free full answers done passed o opens h (opens.some a k h.here.0 b c) c.1 r);
      one = refl;
      marks = sym (append-nil marks);
    }

pub pass_take : (f : Trees Labelled) (x a : Label) (t : Tree Labelled) (answers : List Label) (query : List Word) (w : Word) (bit : ℕ) (done : List Label) (passed : ℕ) (marks more : List Mark) (o : Option Label)
    → IsAsked f x t answers query → WalkedBelow f x t query w done passed (Some a) → Front x a → IsFullChild x answers a None → IsNext (list_of w (worded f)) a o
    → more ≡ marks ++ record { label = a; mask = bit } ∷ [] → Passes f x t query w bit done passed marks more o
pass_take f x a t answers query w bit done passed marks more o asked h b c r e =
    let ms = list_of w (worded f) in
    let free = open_list w query (named_in t) in
    let full = full_list query (named_in t).1 in
    let opens = opens_of f x t answers query w asked in
    record {
      more = a ∷ [];
      skips = 0;
      walked = subst (λ (n : ℕ). Walked ms x free full (done ++ a ∷ []) n o) (omega arith)
          (walk_take ms x a free full answers done passed o opens h b (opens.none a h.here.0 b c) r);
      one = refl;
      marks = e;
    }

-- ---- the whole walk

-- the marks so far are those of the labels that were taken, after as many steps as were passed and taken, and one
pub record Gathered (f : Trees Labelled) (x : Label) (t : Tree Labelled) (query : List Word) (w : Word) (bit : ℕ) (old new : List Mark) (before now : ℕ) (at : Option Label) : Type 0 where
  pub done : List Label
  pub passed : ℕ
  pub walked : WalkedBelow f x t query w done passed at
  pub marks : new ≡ old ++ marked_with bit done
  pub steps : now ≡ before + 1 + length done + passed

pub gathered_first : (f : Trees Labelled) (x : Label) (t : Tree Labelled) (answers : List Label) (query : List Word) (w : Word) (bit : ℕ) (marks : List Mark) (before now : ℕ) (o : Option Label)
    → IsAsked f x t answers query → IsRight (list_of w (worded f)) x o → now ≡ before + 1 → Gathered f x t query w bit marks marks before now o
gathered_first f x t answers query w bit marks before now o asked r s = record {
  done = [];
  passed = 0;
  walked = walk_right (list_of w (worded f)) x (open_list w query (named_in t)) (full_list query (named_in t).1) answers o (opens_of f x t answers query w asked) r;
  marks = sym (append-nil marks);
  steps = omega (arith, s);
}

pub gathered_more : (f : Trees Labelled) (x : Label) (t : Tree Labelled) (query : List Word) (w : Word) (bit : ℕ) (old middle new : List Mark) (before between now : ℕ) (at o : Option Label)
    → (g : Gathered f x t query w bit old middle before between at) → Passes f x t query w bit g.done g.passed middle new o → now ≡ between + 1 → Gathered f x t query w bit old new before now o
gathered_more f x t query w bit old middle new before between now at o g p s = record {
  done = g.done ++ p.more;
  passed = g.passed + p.skips;
  walked = p.walked;
  marks = p.marks ∙ ap (λ (ms : List Mark). ms ++ marked_with bit p.more) g.marks ∙ append_assoc old (marked_with bit g.done) (marked_with bit p.more)
      ∙ ap (λ (ms : List Mark). old ++ ms) (sym (map-append (λ (y : Label). record { label = y; mask = bit }) g.done p.more));
  steps = omega (arith, s, g.steps, p.one, length-append g.done p.more);
}

within_none : (x : Label) (at : Option Label) → at_or_below x at ≡ None → (a : Label) → at ≡ Some a → Front x a → ⊥
within_none x None e a h f = absurd cc
within_none x (Some b) e a h f = by (is_front x b) refl e
  where
    same : b ≡ a
    same = let k = h in cc

    by : (c : Bool) → is_front x b ≡ c → (if c then Some b else None) ≡ None → ⊥
    by true q e = absurd cc
    by false q e = front_no x b q (subst (Front x) (sym same) f)

pub within_some : (x : Label) (at : Option Label) (a : Label) → Some a ≡ at_or_below x at → (at ≡ Some a) × Front x a
within_some x None a e = absurd cc
within_some x (Some b) a e = by (is_front x b) refl (sym e)
  where
    by : (c : Bool) → is_front x b ≡ c → (if c then Some b else None) ≡ Some a → (Some b ≡ Some a) × Front x a
    by true q e = let s : b ≡ a = cc in (e, subst (Front x) s (front_yes x b q))
    by false q e = absurd cc

holders_marked : (w : Word) (bit : ℕ) (query : List Word) (t : Tree Named) → marked_with bit (open_list w query t) ≡ marks_of bit (open_holders w query t)
holders_marked w bit query t = map_map (open_holders w query t)
  where
    map_map : (es : List Named) → map (λ (y : Label). record { label = y; mask = bit }) (map (λ (e : Named). e.label) es) ≡ marks_of bit es
    map_map [] = refl
    map_map (e ∷ es) = ap (λ (ms : List Mark). record { label = e.label; mask = bit } ∷ ms) (map_map es)

pub gathered_ended : (f : Trees Labelled) (x : Label) (t : Tree Labelled) (answers : List Label) (query : List Word) (w : Word) (bit : ℕ) (old new : List Mark) (before now : ℕ) (at : Option Label)
    → IsAsked f x t answers query → Gathered f x t query w bit old new before now at → None ≡ at_or_below x at → new ≡ old ++ marks_of bit (open_holders w query (named_in t))
gathered_ended f x t answers query w bit old new before now at asked g e =
    let done = walk_ended (list_of w (worded f)) x (open_list w query (named_in t)) (full_list query (named_in t).1) answers g.done g.passed at (opens_of f x t answers query w asked) g.walked (within_none x at (sym e)) in
    g.marks ∙ ap (λ (ys : List Label). old ++ marked_with bit ys) done ∙ ap (λ (ms : List Mark). old ++ ms) (holders_marked w bit query (named_in t))

list_length : (w : Word) (query : List Word) (t : Tree Named) → length (open_list w query t) ≡ holders w (open_nodes query t)
list_length w query t = length-map (open_holders w query t) (λ (e : Named). e.label)

pub gathered_bound : (f : Trees Labelled) (x : Label) (t : Tree Labelled) (query : List Word) (w : Word) (bit : ℕ) (old new : List Mark) (before now : ℕ) (at : Option Label)
    → Gathered f x t query w bit old new before now at → now ≤ before + (holders w (open_nodes query (named_in t)) + (full_count query (named_in t).1 + 1))
gathered_bound f x t query w bit old new before now at g =
    omega (
      arith,
      g.steps,
      list_length w query (named_in t),
      full_length query (named_in t).1,
      walk_bound (list_of w (worded f)) x (open_list w query (named_in t)) (full_list query (named_in t).1) g.done g.passed at g.walked,
    )

-- at a node below x there is room for one step more
pub gathered_room : (f : Trees Labelled) (x a : Label) (t : Tree Labelled) (answers : List Label) (query : List Word) (w : Word) (bit : ℕ) (old new : List Mark) (before now : ℕ)
    → IsAsked f x t answers query → Gathered f x t query w bit old new before now (Some a) → Front x a
    → now + 1 ≤ before + (holders w (open_nodes query (named_in t)) + (full_count query (named_in t).1 + 1))
gathered_room f x a t answers query w bit old new before now asked g b =
    omega (
      arith,
      g.steps,
      list_length w query (named_in t),
      full_length query (named_in t).1,
      walk_room (list_of w (worded f)) x a (open_list w query (named_in t)) (full_list query (named_in t).1) answers g.done g.passed (opens_of f x t answers query w asked) g.walked b,
    )

-- ---- as the code takes it

-- the words of a query are its view
pub asked_of : (f : Trees Labelled) (x : Label) (t : Tree Labelled) (answers : List Label) (words query : List Word) → IsTrue (is_well_formed f) → words ≡ query → found x f ≡ Some t → AllPairs IsBefore answers → Tells answers query (named_in t)
    → IsAsked f x t answers words
asked_of f x t answers words query w e h r k = record { formed = w; here = h; rising = r; tells = subst (λ (ws : List Word). Tells answers ws (named_in t)) (sym e) k }

pub cost_asked : (words query : List Word) (t : Tree Labelled) (before now : ℕ) → words ≡ query → now ≤ before + cost_of words (named_in t) → now ≤ before + cost_of query (named_in t)
cost_asked words query t before now e h = subst (λ (ws : List Word). now ≤ before + cost_of ws (named_in t)) e h

-- In a labelled forest a node's level is how many segments its label has.
use Rattle.std.proofs.Common.{◌≡◌, refl, ap, ◌∙◌, ℕ, ◌+◌, ◌≤◌, Bool, true, false, ◌&&◌, List, [], ◌∷◌, ◌++◌, arith, cond}
use Rattle.std.specs.Prelude.{ℤ, Option, Some, None, if◌then◌else◌, nat_le}
use Rattle.std.proofs.lemmas.Bool.{leb-true, le-leb, and_from, and_parts}
use Rattle.std.proofs.lemmas.List.Sums.{sum_by-append, sum_by-cons}
use Rattle.mm_label.specs.Label.{is_odd, is_empty, is_segment, level}
use Rattle.mm_tree.specs.declared.plain.Kind.{Kind}
use Rattle.mm_tree.specs.Trees.{Trees, Tree, none, node, one, every, levels}
use Rattle.mm_tree.specs.Numbering.{Labelled, number}
use Rattle.mm_tree.specs.Forests.{segment_below, are_labelled}
use Rattle.mm_tree.specs.Facts.Numbers.{number_form, levels-number_from}
use Rattle.mm_tree.specs.Facts.Formed.{front_splits, parts}

-- the label has at most n segments
abbrev pub is_shallow : ℕ → Labelled → Bool → Bool
is_shallow n e has_children = nat_le (level e.label) n

pub level_append : (xs ys : List ℤ) → level (xs ++ ys) ≡ level xs + level ys
level_append xs ys = sum_by-append (λ c. cond (is_odd c) 1 0) xs ys

pub one_level : (s : List ℤ) → is_segment s ≡ true → level s ≡ 1
one_level [] h = absurd cc
one_level (c ∷ cs) h = sum_by-cons (λ d. cond (is_odd d) 1 0) c cs ∙ by_test (is_odd c) cs h (one_level cs)
  where
    by_test : (b : Bool) (cs : List ℤ) → (if b then is_empty cs else is_segment cs) ≡ true → (is_segment cs ≡ true → level cs ≡ 1) → cond b 1 0 + level cs ≡ 1
    by_test true [] h f = refl
    by_test true (d ∷ ds) h f = absurd cc
    by_test false cs h f = omega (arith, f h)

pub child_level : (y s label : List ℤ) → label ≡ y ++ s → is_segment s ≡ true → level label ≡ level y + 1
child_level y s label e h = ap (λ z. level z) e ∙ level_append y s ∙ ap (λ n. level y + n) (one_level s h)

-- no level passes n exactly where no label has more segments
pub shallow : (n : ℕ) (y : List ℤ) (left : Option (List ℤ)) (ts : Trees Labelled) → are_labelled y left ts ≡ true → level y + levels ts ≤ n → every (is_shallow n) ts ≡ true
shallow n y left none l h = refl
shallow n y left (node e inner rest) l h =
    let p = parts y left e inner rest l in
    let c : level e.label ≡ level y + 1 = child_level y (segment_below y e.label) e.label (front_splits y e.label p.front) p.whole in
    and_from (nat_le (level e.label) n) _ (le-leb (level e.label) n (omega (arith, c, h)))
    (and_from (every (is_shallow n) inner) _ (shallow n e.label None inner p.below (omega (arith, c, h))) (shallow n y (Some (segment_below y e.label)) rest p.after (omega (arith, h))))

pub shallow_only : (n : ℕ) (y : List ℤ) (left : Option (List ℤ)) (ts : Trees Labelled) → are_labelled y left ts ≡ true → every (is_shallow n) ts ≡ true → level y ≤ n → level y + levels ts ≤ n
shallow_only n y left none l h k = omega (arith, k)
shallow_only n y left (node e inner rest) l h k =
    let p = parts y left e inner rest l in
    let c : level e.label ≡ level y + 1 = child_level y (segment_below y e.label) e.label (front_splits y e.label p.front) p.whole in
    let q = and_parts (nat_le (level e.label) n) (every (is_shallow n) inner && every (is_shallow n) rest) h in
    let r = and_parts (every (is_shallow n) inner) (every (is_shallow n) rest) q.1 in
    let a : level e.label + levels inner ≤ n = shallow_only n e.label None inner p.below r.0 (leb-true (level e.label) n q.0) in
    let b : level y + levels rest ≤ n = shallow_only n y (Some (segment_below y e.label)) rest p.after r.1 k in
    omega (arith, a, b, c)

-- a new tree of few enough levels
pub number_shallow : (n : ℕ) (x : List ℤ) (t : Tree Kind) → level x + levels t.1 ≤ n → every (is_shallow n) (one (number x t)) ≡ true
number_shallow n x t h =
    let e : levels (number x t).1 ≡ levels t.1 = levels-number_from x 1 t.1 in
    and_from (nat_le (level x) n) _ (le-leb (level x) n (omega (arith, h))) (and_from (every (is_shallow n) (number x t).1) _ (shallow n x None (number x t).1 (number_form x t) (omega (arith, e, h))) refl)

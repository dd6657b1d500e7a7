-- The gap at one of the siblings in a list of nodes.
use Rattle.std.proofs.Common.{◌≡◌, refl, ap, sym, ◌∙◌, ℕ, zero, suc, ◌+◌, ◌-◌, ◌<◌, ◌≤◌, Bool, true, false, not, List, [], ◌∷◌, length, cond, arith}
use Rattle.std.specs.Prelude.{ℤ, Option, Some, None, if◌then◌else◌, slice_get}
use Rattle.std.proofs.lemmas.Bool.{lt-ltb}
use Rattle.std.specs.List.{prefix_len}
use Rattle.mm_tree.specs.declared.node.Node.{Node}
use Rattle.mm_tree.specs.declared.node.Node.TheViews.{out-Node}
use Rattle.mm_tree.specs.declared.forest.place.Place.{Place}
use Rattle.mm_tree.specs.declared.forest.place.Place.TheVariants.{Before, After, First, Last}
use Rattle.mm_tree.specs.Trees.{node, Tree}
use Rattle.mm_tree.specs.Numbering.{Labelled, node_of, forest_of}
use Rattle.mm_tree.specs.Edits.{Gap, first_label, last_label, gap_at}
use Rattle.mm_tree.specs.Inside.Ways.{leads_to, gap_down, node_label, label_before, gap_here}
use Rattle.mm_tree.specs.Facts.Walks.{labelled, node_of_out}
use Rattle.mm_tree.proofs.PlaceFacts.{off_way, is_at, one_more, get_next, get_none}

-- the label before the i-th of the siblings, behind one on the left
abbrev left_at : Option (List ℤ) → List Node → ℕ → Option (List ℤ)
left_at left [] i = left
left_at left (m ∷ ns) zero = left
left_at left (m ∷ ns) (suc i) = left_at (Some (out-Node m).label) ns i

left_is : (m : Node) (ns : List Node) (i : ℕ) → i ≤ length ns → left_at (Some (out-Node m).label) ns i ≡ node_label (m ∷ ns) i
left_is m [] zero h = refl
left_is m [] (suc i) h = absurd (omega (arith, h))
left_is m (n ∷ ns) zero h = refl
left_is m (n ∷ ns) (suc i) h = left_is n ns i (omega (arith, h))

after_zero : (ns : List Node) (i : ℕ) → label_before ns (suc i) ≡ node_label ns i
after_zero ns i = ap (λ b. if b then node_label ns (suc i - 1) else None) (lt-ltb 0 (suc i) (omega arith)) ∙ ap (λ j. node_label ns j) (less_one i)
  where
    less_one : (i : ℕ) → suc i - 1 ≡ i
    less_one i = omega arith

before_first : (ns : List Node) (i : ℕ) → i ≤ length ns → left_at None ns i ≡ label_before ns i
before_first [] zero h = refl
before_first [] (suc i) h = absurd (omega (arith, h))
before_first (m ∷ ns) zero h = refl
before_first (m ∷ ns) (suc i) h = left_is m ns i (omega (arith, h)) ∙ sym (after_zero (m ∷ ns) i)

last_at : (left : Option (List ℤ)) (ns : List Node) → last_label left (forest_of ns) ≡ left_at left ns (length ns)
last_at left [] = refl
last_at left (m ∷ ns) = last_at (Some (node_of m).0.label) ns ∙ ap (λ (t : Tree Labelled). left_at (Some t.0.label) ns (length ns)) (node_of_out m)

first_at : (ns : List Node) → first_label (forest_of ns) ≡ node_label ns 0
first_at [] = refl
first_at (m ∷ ns) = ap (λ (t : Tree Labelled). Some t.0.label) (node_of_out m)

abbrev gap_in_list : Place → List ℤ → Option (List ℤ) → List Node → Node → ℕ → Gap
gap_in_list Before y l ns n i = record { parent = y; left = l; right = Some (out-Node n).label }
gap_in_list After y l ns n i = record { parent = y; left = Some (out-Node n).label; right = node_label ns (i + 1) }
gap_in_list First y l ns n i = record { parent = (out-Node n).label; left = None; right = node_label (out-Node n).children 0 }
gap_in_list Last y l ns n i = record { parent = (out-Node n).label; left = label_before (out-Node n).children (length (out-Node n).children); right = None }

gap_head : (p : Place) (y : List ℤ) (left : Option (List ℤ)) (m : Node) (ns : List Node) → gap_at p y left (labelled m) (forest_of (out-Node m).children) (forest_of ns) ≡ gap_in_list p y left (m ∷ ns) m 0
gap_head Before y left m ns = refl
gap_head After y left m ns = ap (λ r. record { parent = y; left = Some (out-Node m).label; right = r }) (first_at ns)
gap_head First y left m ns = ap (λ r. record { parent = (out-Node m).label; left = None; right = r }) (first_at (out-Node m).children)
gap_head Last y left m ns = ap (λ l. record { parent = (out-Node m).label; left = l; right = None })
    (last_at None (out-Node m).children ∙ before_first (out-Node m).children (length (out-Node m).children) (omega arith))

gap_shift : (p : Place) (y : List ℤ) (l : Option (List ℤ)) (m : Node) (ns : List Node) (n : Node) (k : ℕ) → gap_in_list p y l ns n k ≡ gap_in_list p y l (m ∷ ns) n (suc k)
gap_shift Before y l m ns n k = refl
gap_shift After y l m ns n k = ap (λ r. record { parent = y; left = Some (out-Node n).label; right = r }) (same_place k)
  where
    one_behind : (k : ℕ) → suc k + 1 ≡ suc (k + 1)
    one_behind k = omega arith

    same_place : (k : ℕ) → node_label ns (k + 1) ≡ node_label (m ∷ ns) (suc k + 1)
    same_place k = ap (λ j. node_label (m ∷ ns) j) (sym (one_behind k))
gap_shift First y l m ns n k = refl
gap_shift Last y l m ns n k = refl

gap_none : (p : Place) (x y : List ℤ) (left : Option (List ℤ)) (ns : List Node) → length ns ≤ prefix_len (off_way x) ns → gap_down p x y left (forest_of ns) ≡ None
gap_none p x y left [] h = refl
gap_none p x y left (n ∷ ns) h =
    ap (λ (t : Tree Labelled). gap_down p x y left (node t.0 t.1 (forest_of ns))) (node_of_out n)
    ∙ by_test (leads_to x (labelled n)) _ h (gap_none p x y (Some (out-Node n).label) ns)
  where
    by_test : (a : Bool) (F : Option Gap) → suc (length ns) ≤ cond (not a) (1 + prefix_len (off_way x) ns) 0 → (length ns ≤ prefix_len (off_way x) ns → gap_down p x y (Some (out-Node n).label) (forest_of ns) ≡ None)
        → (if a then F else gap_down p x y (Some (out-Node n).label) (forest_of ns)) ≡ None
    by_test true F h p = absurd (omega (arith, h))
    by_test false F h p = p (omega (arith, h))

-- the gap at a node, or the one further down
abbrev gap_or_down : Bool → Gap → Place → List ℤ → Node → Option Gap
gap_or_down b g p x n = if b then Some g else gap_down p x (out-Node n).label None (forest_of (out-Node n).children)

gap_on_way : (p : Place) (x y : List ℤ) (left : Option (List ℤ)) (ns : List Node) (n : Node) → slice_get ns (prefix_len (off_way x) ns) ≡ Some n
    → gap_down p x y left (forest_of ns) ≡ gap_or_down (is_at x n) (gap_in_list p y (left_at left ns (prefix_len (off_way x) ns)) ns n (prefix_len (off_way x) ns)) p x n
gap_on_way p x y left [] n h = absurd cc
gap_on_way p x y left (m ∷ ns) n h =
    ap (λ (t : Tree Labelled). gap_down p x y left (node t.0 t.1 (forest_of ns))) (node_of_out m)
    ∙ by_test (leads_to x (labelled m)) h (gap_on_way p x y (Some (out-Node m).label) ns n)
  where
    by_test : (a : Bool) → slice_get (m ∷ ns) (cond (not a) (1 + prefix_len (off_way x) ns) 0) ≡ Some n
        → (slice_get ns (prefix_len (off_way x) ns) ≡ Some n
        → gap_down p x y (Some (out-Node m).label) (forest_of ns) ≡ gap_or_down (is_at x n) (gap_in_list p y (left_at (Some (out-Node m).label) ns (prefix_len (off_way x) ns)) ns n (prefix_len (off_way x) ns)) p x n)
        → (if a then gap_or_down (is_at x m) (gap_at p y left (labelled m) (forest_of (out-Node m).children) (forest_of ns)) p x m else gap_down p x y (Some (out-Node m).label) (forest_of ns))
        ≡ gap_or_down (is_at x n) (gap_in_list p y (left_at left (m ∷ ns) (cond (not a) (1 + prefix_len (off_way x) ns) 0)) (m ∷ ns) n (cond (not a) (1 + prefix_len (off_way x) ns) 0)) p x n
    by_test true h q =
        let is : m ≡ n = cc in
        ap (λ (g : Gap). gap_or_down (is_at x m) g p x m) (gap_head p y left m ns) ∙ ap (λ (z : Node). gap_or_down (is_at x z) (gap_in_list p y left (m ∷ ns) z 0) p x z) is
    by_test false h q =
        let k = prefix_len (off_way x) ns in
        q (get_next m ns k n h)
        ∙ ap (λ (g : Gap). gap_or_down (is_at x n) g p x n)
        (gap_shift p y (left_at (Some (out-Node m).label) ns k) m ns n k ∙ ap (λ j. gap_in_list p y (left_at left (m ∷ ns) j) (m ∷ ns) n j) (sym (one_more k)))

get_within : (ns : List Node) (i : ℕ) (n : Node) → slice_get ns i ≡ Some n → i < length ns
get_within [] i n h = absurd cc
get_within (m ∷ ns) zero n h = omega arith
get_within (m ∷ ns) (suc i) n h = omega (arith, get_within ns i n h)

here_is : (p : Place) (y : List ℤ) (ns : List Node) (n : Node) (i : ℕ) → slice_get ns i ≡ Some n → gap_in_list p y (left_at None ns i) ns n i ≡ gap_here p y ns n i
here_is Before y ns n i h = let w = get_within ns i n h in (λ j. record { parent = y; left = before_first ns i (omega (arith, w)) j; right = Some (out-Node n).label })
here_is After y ns n i h = refl
here_is First y ns n i h = refl
here_is Last y ns n i h = refl

pub gaps_none : (p : Place) (x y : List ℤ) (ns : List Node) (i : ℕ) → i ≡ prefix_len (off_way x) ns → slice_get ns i ≡ None → gap_down p x y None (forest_of ns) ≡ None
gaps_none p x y ns i e h = gap_none p x y None ns (omega (arith, e, get_none ns i h))

pub gaps_at : (p : Place) (x y : List ℤ) (ns : List Node) (n : Node) (i : ℕ) (b : Bool) → i ≡ prefix_len (off_way x) ns → slice_get ns i ≡ Some n → b ≡ is_at x n
    → gap_down p x y None (forest_of ns) ≡ (if b then Some (gap_here p y ns n i) else gap_down p x (out-Node n).label None (forest_of (out-Node n).children))
gaps_at p x y ns n i b e h k =
    let g : slice_get ns (prefix_len (off_way x) ns) ≡ Some n = ap (λ j. slice_get ns j) (sym e) ∙ h in
    gap_on_way p x y None ns n g
    ∙ ap (λ (z : Gap). gap_or_down (is_at x n) z p x n) (here_is p y ns n (prefix_len (off_way x) ns) g)
    ∙ (λ j. gap_or_down (sym k j) (gap_here p y ns n (sym e j)) p x n)

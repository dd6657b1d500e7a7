-- Siblings of a well-formed forest can be searched by halving.
use Rattle.std.proofs.Common.{◌≡◌, refl, ap, sym, ◌∙◌, subst, ℕ, zero, suc, ◌+◌, ◌<◌, ◌≤◌, Bool, true, false, ◌&&◌, not, cond, List, [], ◌∷◌, ◌++◌, length, append_assoc, arith, inl, inr, true≢false}
use Rattle.std.specs.Prelude.{ℤ, Option, Some, None, if◌then◌else◌, slice_get, slice_index_or}
use Rattle.std.specs.List.{prefix_len, starts_with}
use Rattle.std.specs.List.Sorted.{IsPartitionPoint, IsPartitionedBy}
use Rattle.std.specs.Ordering.{is_lt, int_eq}
use Rattle.std.specs.Cmp.{int_cmp_total}
use Rattle.std.specs.Cmp.Lexicographic.{lists_total}
use Rattle.std.proofs.lemmas.Bool.{cases_lt}
use Rattle.std.proofs.lemmas.List.{append-nil}
use Rattle.std.proofs.lemmas.List.Sums.{prefix_len-le-length, prefix_len_passes, prefix_len_stops}
use Rattle.mm_label.specs.Label.{IsBefore}
use Rattle.mm_tree.specs.declared.node.Node.{Node}
use Rattle.mm_tree.specs.declared.node.Node.TheViews.{out-Node}
use Rattle.mm_tree.specs.Trees.{Trees, node, Tree}
use Rattle.mm_tree.specs.Numbering.{Labelled, node_of, forest_of}
use Rattle.mm_tree.specs.Forests.{segment_below, is_before, are_labelled}
use Rattle.mm_tree.specs.Edits.{has_node}
use Rattle.mm_tree.specs.Inside.Ways.{AreSiblings, leads_to, found_down, is_passed}
use Rattle.mm_tree.specs.Facts.Formed.{front_splits, parts}
use Rattle.mm_tree.proofs.OrderLaws.{Under, rises_more, before_is, side_after}
use Rattle.mm_tree.proofs.PlaceFacts.{is_at, get_next, get_none}
use Rattle.mm_tree.specs.Facts.Walks.{labelled, node_of_out}
use Rattle.mm_tree.proofs.WayLaws.{before_irreflexive, found_is, leads_home, within}
use Rattle.mm_tree.specs.Facts.Found.{not_found}

abbrev pub passed : List ℤ → Node → Bool
passed x n = is_passed x (out-Node n).label

before_trans : (a b c : List ℤ) → IsBefore a b → IsBefore b c → IsBefore a c
before_trans a b c p q = (lists_total int_cmp_total).trans a b c p q

never : (a : List ℤ) → IsBefore a a → true ≡ false
never a h = sym (ap is_lt h) ∙ before_irreflexive a

both : (a b : Bool) → (a && not b) ≡ true → (a ≡ true) × (b ≡ false)
both true true e = absurd cc
both true false e = (refl, refl)
both false b e = absurd cc

both_of : (a b : Bool) → a ≡ true → b ≡ false → (a && not b) ≡ true
both_of true true p q = absurd cc
both_of true false p q = refl
both_of false b p q = absurd cc

by_bool : (b : Bool) → (b ≡ true → true ≡ false) → b ≡ false
by_bool true f = absurd (true≢false (f refl))
by_bool false f = refl

-- ---- siblings behind one

labelled_next : (y : List ℤ) (left : Option (List ℤ)) (m : Node) (ns : List Node) → are_labelled y left (forest_of (m ∷ ns)) ≡ true
    → are_labelled y left (node (labelled m) (forest_of (out-Node m).children) (forest_of ns)) ≡ true
labelled_next y left m ns l = sym (ap (λ (t : Tree Labelled). are_labelled y left (node t.0 t.1 (forest_of ns))) (node_of_out m)) ∙ l

-- each sibling's label goes on from the parent's
sibling_under : (y : List ℤ) (left : Option (List ℤ)) (ns : List Node) (j : ℕ) (d : Node) → are_labelled y left (forest_of ns) ≡ true → j < length ns → Under y left (out-Node (slice_index_or ns j d)).label
sibling_under y left [] j d l h = absurd (omega (arith, h))
sibling_under y left (m ∷ ns) zero d l h =
    let e = labelled m in
    let s = segment_below y e.label in
    let p = parts y left e (forest_of (out-Node m).children) (forest_of ns) (labelled_next y left m ns l) in
    record { segment = s; more = []; is = front_splits y e.label p.front ∙ ap (λ (z : List ℤ). y ++ z) (sym (append-nil s)); whole = p.whole; above = p.above }
sibling_under y left (m ∷ ns) (suc j) d l h =
    let e = labelled m in
    let p = parts y left e (forest_of (out-Node m).children) (forest_of ns) (labelled_next y left m ns l) in
    let u = sibling_under y (Some (segment_below y e.label)) ns j d p.after (omega (arith, h)) in
    record { segment = u.segment; more = u.more; is = u.is; whole = u.whole; above = rises_more left (segment_below y e.label) u.segment p.above u.above }

-- a node before x, where a sibling behind it comes before x too, is passed
passed_first : (x y : List ℤ) (left : Option (List ℤ)) (e : Labelled) (inner rest : Trees Labelled) (z : List ℤ) → are_labelled y left (node e inner rest) ≡ true → Under y (Some (segment_below y e.label)) z
    → IsBefore z x → is_passed x e.label ≡ true
passed_first x y left e inner rest z l u h =
    let s = segment_below y e.label in
    let p = parts y left e inner rest l in
    let e_is : e.label ≡ y ++ s = front_splits y e.label p.front in
    let first : IsBefore e.label z = subst (λ (w : List ℤ). IsBefore w z) (ap (λ (w : List ℤ). y ++ w) (append-nil s) ∙ sym e_is) (side_after y s [] z p.whole u) in
    both_of (is_before e.label x) (leads_to x e) (ap is_lt (before_trans e.label z x first h))
    (by_bool (leads_to x e) (λ k.
    let m = segment_below e.label x in
    let x_is : x ≡ y ++ (s ++ m) = front_splits e.label x k ∙ ap (λ (w : List ℤ). w ++ m) e_is ∙ append_assoc y s m in
    never x (before_trans x z x (subst (λ (w : List ℤ). IsBefore w z) (sym x_is) (side_after y s m z p.whole u)) h)))

pub siblings_parted : (x y : List ℤ) (left : Option (List ℤ)) (ns : List Node) → are_labelled y left (forest_of ns) ≡ true → IsPartitionedBy (passed x) ns
siblings_parted x y left [] l = λ i j d h k e. absurd (omega (arith, k))
siblings_parted x y left (m ∷ ns) l =
    let n = labelled_next y left m ns l in
    let p = parts y left (labelled m) (forest_of (out-Node m).children) (forest_of ns) n in
    λ i j d h k e. by i j d h k e n p.after (siblings_parted x y (Some (segment_below y (out-Node m).label)) ns p.after)
  where
    by : (i j : ℕ) (d : Node) → i ≤ j → j < length (m ∷ ns) → passed x (slice_index_or (m ∷ ns) j d) ≡ true → are_labelled y left (node (labelled m) (forest_of (out-Node m).children) (forest_of ns)) ≡ true
        → are_labelled y (Some (segment_below y (out-Node m).label)) (forest_of ns) ≡ true → IsPartitionedBy (passed x) ns → passed x (slice_index_or (m ∷ ns) i d) ≡ true
    by zero zero d h k e n a f = e
    by (suc i) zero d h k e n a f = absurd (omega (arith, h))
    by zero (suc j) d h k e n a f =
        let z = (out-Node (slice_index_or ns j d)).label in
        passed_first x y left (labelled m) (forest_of (out-Node m).children) (forest_of ns) z n (sibling_under y (Some (segment_below y (out-Node m).label)) ns j d a (omega (arith, k))) (before_is z x (both (is_before z x) (starts_with int_eq x z) e).0)
    by (suc i) (suc j) d h k e n a f = f i j d (omega (arith, h)) (omega (arith, k)) e

-- ---- the point is how many pass

pub point_is : (p : Node → Bool) (ns : List Node) (i : ℕ) → IsPartitionPoint (λ n. p n ≡ true) (λ n. p n ≡ false) ns i → i ≤ length ns → i ≡ prefix_len p ns
point_is p [] i parted h = omega (arith, h)
point_is p (m ∷ ns) i parted h = elim (cases_lt i (prefix_len p (m ∷ ns))) [
  | inl q ↦ absurd (true≢false (sym (prefix_len_passes p (m ∷ ns) i m q) ∙ parted.1 i m (omega arith) (omega (arith, q, prefix_len-le-length p (m ∷ ns)))))
  | inr q ↦ elim (cases_lt (prefix_len p (m ∷ ns)) i) [
    | inl r ↦ absurd (true≢false (sym (parted.0 (prefix_len p (m ∷ ns)) m (omega arith) r) ∙ prefix_len_stops p (m ∷ ns) m (omega (arith, r, h))))
    | inr r ↦ omega (arith, q, r)
  ]
]

-- ---- what is found there

pub passed_all : (x : List ℤ) (ns : List Node) (i : ℕ) → i ≡ prefix_len (passed x) ns → slice_get ns i ≡ None → found_down x (forest_of ns) ≡ None
passed_all x ns i e h = go ns (omega (arith, e, get_none ns i h))
  where
    by_tests : (q a : Bool) (F rest : Option (Tree Labelled)) (n k : ℕ) → suc n ≤ cond (q && not a) (1 + k) 0 → (n ≤ k → rest ≡ None) → (if a then F else rest) ≡ None
    by_tests true true F rest n k h p = absurd (omega (arith, h))
    by_tests true false F rest n k h p = p (omega (arith, h))
    by_tests false a F rest n k h p = absurd (omega (arith, h))

    go : (ns : List Node) → length ns ≤ prefix_len (passed x) ns → found_down x (forest_of ns) ≡ None
    go [] h = refl
    go (m ∷ ns) h =
        ap (λ (t : Tree Labelled). found_down x (node t.0 t.1 (forest_of ns))) (node_of_out m)
        ∙ by_tests (is_before (out-Node m).label x) (leads_to x (labelled m)) _ _ (length ns) (prefix_len (passed x) ns) h (go ns)

pub found_there : (x : List ℤ) (ns : List Node) (n : Node) (i : ℕ) (b : Bool) → i ≡ prefix_len (passed x) ns → slice_get ns i ≡ Some n → leads_to x (labelled n) ≡ true → b ≡ is_at x n
    → found_down x (forest_of ns) ≡ (if b then Some (node_of n) else found_down x (forest_of (out-Node n).children))
found_there x ns n i b e h k is = go ns (ap (λ j. slice_get ns j) (sym e) ∙ h) ∙ (λ j. if sym is j then Some (node_of n) else found_down x (forest_of (out-Node n).children))
  where
    there : List Node → Type 0
    there ns = found_down x (forest_of ns) ≡ (if is_at x n then Some (node_of n) else found_down x (forest_of (out-Node n).children))

    here : (m : Node) (ns : List Node) → m ≡ n → (if leads_to x (labelled m) then (if is_at x m then Some (labelled m, forest_of (out-Node m).children) else found_down x (forest_of (out-Node m).children)) else found_down x (forest_of ns))
        ≡ (if is_at x n then Some (node_of n) else found_down x (forest_of (out-Node n).children))
    here m ns e =
        ap (λ (z : Node). if leads_to x (labelled z) then (if is_at x z then Some (labelled z, forest_of (out-Node z).children) else found_down x (forest_of (out-Node z).children)) else found_down x (forest_of ns)) e
        ∙ ap (λ (t : Bool). if t then (if is_at x n then Some (labelled n, forest_of (out-Node n).children) else found_down x (forest_of (out-Node n).children)) else found_down x (forest_of ns)) k
        ∙ ap (λ (z : Tree Labelled). if is_at x n then Some z else found_down x (forest_of (out-Node n).children)) (sym (node_of_out n))

    go : (ns : List Node) → slice_get ns (prefix_len (passed x) ns) ≡ Some n → there ns
    go [] h = absurd cc
    go (m ∷ ns) h =
        ap (λ (t : Tree Labelled). found_down x (node t.0 t.1 (forest_of ns))) (node_of_out m)
        ∙ by_tests (is_before (out-Node m).label x) (leads_to x (labelled m)) refl h (go ns) (here m ns)
      where
        by_tests : (q a : Bool) → leads_to x (labelled m) ≡ a → slice_get (m ∷ ns) (cond (q && not a) (1 + prefix_len (passed x) ns) 0) ≡ Some n → (slice_get ns (prefix_len (passed x) ns) ≡ Some n → there ns)
            → (m ≡ n → (if leads_to x (labelled m) then (if is_at x m then Some (labelled m, forest_of (out-Node m).children) else found_down x (forest_of (out-Node m).children)) else found_down x (forest_of ns))
            ≡ (if is_at x n then Some (node_of n) else found_down x (forest_of (out-Node n).children)))
            → (if a then (if is_at x m then Some (labelled m, forest_of (out-Node m).children) else found_down x (forest_of (out-Node m).children)) else found_down x (forest_of ns))
            ≡ (if is_at x n then Some (node_of n) else found_down x (forest_of (out-Node n).children))
        by_tests true false l h p f = p (get_next m ns (prefix_len (passed x) ns) n h)
        by_tests true true l h p f = let same : m ≡ n = cc in ap (λ (t : Bool). if t then (if is_at x m then Some (labelled m, forest_of (out-Node m).children) else found_down x (forest_of (out-Node m).children)) else found_down x (forest_of ns)) (sym l) ∙ f same
        by_tests false a l h p f = let same : m ≡ n = cc in ap (λ (t : Bool). if t then (if is_at x m then Some (labelled m, forest_of (out-Node m).children) else found_down x (forest_of (out-Node m).children)) else found_down x (forest_of ns)) (sym l) ∙ f same

-- a sibling that is neither passed nor leads to x, so x stands before it and those behind it
none_behind : (x y : List ℤ) (left : Option (List ℤ)) (e : Labelled) (inner rest : Trees Labelled) → are_labelled y left (node e inner rest) ≡ true → leads_to x e ≡ false → is_passed x e.label ≡ false → found_down x rest ≡ None
none_behind x y left e inner rest l off f =
    let s = segment_below y e.label in
    let p = parts y left e inner rest l in
    let e_is : e.label ≡ y ++ s = front_splits y e.label p.front in
    found_is x y (Some s) rest p.after ∙ not_found x rest (by_bool (has_node x rest) (λ k.
    let first : IsBefore e.label x = subst (λ (w : List ℤ). IsBefore w x) (ap (λ (w : List ℤ). y ++ w) (append-nil s) ∙ sym e_is) (side_after y s [] x p.whole (within y (Some s) rest x p.after k)) in
    sym (both_of (is_before e.label x) (leads_to x e) (ap is_lt first) off) ∙ f))

pub found_off : (x y : List ℤ) (left : Option (List ℤ)) (ns : List Node) (n : Node) (i : ℕ) → are_labelled y left (forest_of ns) ≡ true → i ≡ prefix_len (passed x) ns → slice_get ns i ≡ Some n → leads_to x (labelled n) ≡ false
    → found_down x (forest_of ns) ≡ None
found_off x y left ns n i l e h off = go y left ns l (ap (λ j. slice_get ns j) (sym e) ∙ h)
  where
    go : (y : List ℤ) (left : Option (List ℤ)) (ns : List Node) → are_labelled y left (forest_of ns) ≡ true → slice_get ns (prefix_len (passed x) ns) ≡ Some n → found_down x (forest_of ns) ≡ None
    go y left [] l h = absurd cc
    go y left (m ∷ ns) l h =
        let k = labelled_next y left m ns l in
        let p = parts y left (labelled m) (forest_of (out-Node m).children) (forest_of ns) k in
        ap (λ (t : Tree Labelled). found_down x (node t.0 t.1 (forest_of ns))) (node_of_out m)
        ∙ by_tests (is_before (out-Node m).label x) (leads_to x (labelled m)) refl refl h (go y (Some (segment_below y (out-Node m).label)) ns p.after) (none_behind x y left (labelled m) (forest_of (out-Node m).children) (forest_of ns) k)
      where
        F : Option (Tree Labelled)
        F = if is_at x m then Some (labelled m, forest_of (out-Node m).children) else found_down x (forest_of (out-Node m).children)

        by_tests : (q a : Bool) → is_before (out-Node m).label x ≡ q → leads_to x (labelled m) ≡ a → slice_get (m ∷ ns) (cond (q && not a) (1 + prefix_len (passed x) ns) 0) ≡ Some n
            → (slice_get ns (prefix_len (passed x) ns) ≡ Some n → found_down x (forest_of ns) ≡ None) → (leads_to x (labelled m) ≡ false → is_passed x (out-Node m).label ≡ false → found_down x (forest_of ns) ≡ None)
            → (if a then (if is_at x m then Some (labelled m, forest_of (out-Node m).children) else found_down x (forest_of (out-Node m).children)) else found_down x (forest_of ns)) ≡ None
        by_tests true false q a h p f = p (get_next m ns (prefix_len (passed x) ns) n h)
        by_tests true true q a h p f = let same : m ≡ n = cc in absurd (true≢false (sym a ∙ ap (λ (z : Node). leads_to x (labelled z)) same ∙ off))
        by_tests false true q a h p f = let same : m ≡ n = cc in absurd (true≢false (sym a ∙ ap (λ (z : Node). leads_to x (labelled z)) same ∙ off))
        by_tests false false q a h p f = f a (ap (λ (t : Bool). t && not (leads_to x (labelled m))) q)

-- an equal label leads there
pub same_leads : (x : List ℤ) (n : Node) → is_at x n ≡ true → leads_to x (labelled n) ≡ true
same_leads x n h = leads_home x (labelled n) h

pub children_are : (ns : List Node) (n : Node) (i : ℕ) → AreSiblings (forest_of ns) → slice_get ns i ≡ Some n → AreSiblings (forest_of (out-Node n).children)
children_are ns n i a h = go a.0 a.1 ns i a.2 h
  where
    go : (y : List ℤ) (left : Option (List ℤ)) (ns : List Node) (i : ℕ) → are_labelled y left (forest_of ns) ≡ true → slice_get ns i ≡ Some n → AreSiblings (forest_of (out-Node n).children)
    go y left [] i l h = absurd cc
    go y left (m ∷ ns) zero l h =
        let same : m ≡ n = cc in
        let p = parts y left (labelled m) (forest_of (out-Node m).children) (forest_of ns) (labelled_next y left m ns l) in
        ((out-Node m).label, None, ap (λ (z : Node). are_labelled (out-Node m).label None (forest_of (out-Node z).children)) (sym same) ∙ p.below)
    go y left (m ∷ ns) (suc i) l h =
        let p = parts y left (labelled m) (forest_of (out-Node m).children) (forest_of ns) (labelled_next y left m ns l) in
        go y (Some (segment_below y (out-Node m).label)) ns i p.after h

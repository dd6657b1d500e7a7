-- What a load needs: the last tree's segment, the causes of a refusal, and that the forest stays well formed.
use Rattle.std.proofs.Common.{◌≡◌, refl, ap, sym, subst, ◌∙◌, ℕ, suc, ◌-◌, ◌≤◌, Bool, true, false, ◌&&◌, not, List, [], ◌∷◌, ◌++◌, length, arith, cond, ◌⊎◌, inl, inr}
use Rattle.std.specs.Prelude.{ℤ, Option, Some, None, Result, Err, slice_get, nat_le, IfSome, find, Vec, IfOk, IfErr}
use Rattle.std.specs.Global.{Global}
use Rattle.std.specs.Ordering.{is_lt}
use Rattle.std.proofs.lemmas.Bool.{leb-true, le-leb, lt-leb, and_from, and_parts}
use Rattle.mm_label.specs.Bytes.{bytes_of}
use Rattle.mm_label.specs.Label.{is_odd, is_empty, is_segment, is_in_range, all_in_range, last_odd, IsLastSegment, IsBefore}
use Rattle.mm_label.specs.Between.{between, first_out, LiesBetween}
use Rattle.mm_label.specs.Refusals.{RefusesSegment, RefusesLabel}
use Rattle.mm_label.specs.declared.LabelError.{LabelError}
use Rattle.mm_label.specs.declared.LabelError.TheVariants as label_error
use Rattle.mm_tree.specs.declared.refusal.TreeError.{TreeError}
use Rattle.mm_tree.specs.declared.refusal.TreeError.TheVariants as error
use Rattle.mm_tree.specs.declared.refusal.Refusal.TheVariants.{Top, Deep, Room}
use Rattle.mm_tree.specs.declared.plain.Kind.{Kind}
use Rattle.mm_tree.specs.declared.node.Node.{Node}
use Rattle.mm_tree.specs.declared.node.Node.TheViews.{out-Node}
use Rattle.mm_tree.specs.declared.node.Node.TheFolds.{fold_out-Node}
use Rattle.mm_tree.specs.declared.plain.Plain.{Plain}
use Rattle.mm_tree.specs.declared.plain.Plain.TheViews.{out-Plain}
use Rattle.mm_tree.specs.Trees.{Trees, none, node, Tree, one, every, levels, tree_of, tree_of_out}
use Rattle.mm_tree.specs.Refusals.{of_label}
use Rattle.mm_tree.specs.Validity.{is_element, is_valid_node, is_valid_tree}
use Rattle.mm_tree.specs.Numbering.{Labelled, node_of, node_step, forest_of, number, fits, has_room, Labels, Numbers}
use Rattle.mm_tree.specs.Forests.{rises, are_labelled, has_valid_kind, are_elements, is_well_formed, and_then, last_segment, next_label, numbered_behind, load, load_refusal, IsRefusal}
use Rattle.mm_tree.proofs.LabelledLaws.{at_end, every_behind, elements_behind, levels-and_then}
use Rattle.mm_tree.specs.Facts.Formed.{parts}
use Rattle.mm_tree.specs.Facts.Numbers.{number_form, levels-number, valid_numbered}

-- ---- labels that don't fit

test_is : (b : Bool) (v : ℤ) (cs : List ℤ) (c : ℤ) → cond (not b) (Some c) (find (λ d. not (is_in_range d)) cs) ≡ Some v
    → (find (λ d. not (is_in_range d)) cs ≡ Some v → all_in_range cs ≡ false) → (b && all_in_range cs) ≡ false
test_is true v cs c h f = f h
test_is false v cs c h f = refl

pub out_of_range : (cs : List ℤ) (v : ℤ) → first_out cs ≡ Some v → all_in_range cs ≡ false
out_of_range [] v h = absurd cc
out_of_range (c ∷ cs) v h = test_is (is_in_range c) v cs c h (out_of_range cs v)

pub no_fit : (a b : Bool) → a ≡ false → (a && b) ≡ false
no_fit a b e = rw e refl

pub no_fit_either : (a b : Bool) → b ≡ false → (a && b) ≡ false
no_fit_either true b e = e
no_fit_either false b e = refl

pub refused_segment : (e : LabelError) (x : List ℤ) → RefusesSegment e x → Labels (Err (of_label e)) x
refused_segment label_error.NotALabel x h = absurd h
refused_segment (label_error.OutOfRange v) x h = (refl, no_fit (all_in_range x) _ (out_of_range x v h))
refused_segment (label_error.Full n) x h = absurd h
refused_segment label_error.Memory x h = tt

pub refused_label : (e : LabelError) (x : List ℤ) → RefusesLabel e x → Labels (Err (of_label e)) x
refused_label label_error.NotALabel x h = absurd h
refused_label (label_error.OutOfRange v) x h = absurd h
refused_label (label_error.Full n) x h = (refl, no_fit_either (all_in_range x) _ (lt-leb (length (bytes_of x)) 512 (omega (arith, h.0, h.1))))
refused_label label_error.Memory x h = tt

-- ---- the last tree's segment

-- a segment is no label and one more segment
pub alone : (front s : List ℤ) → is_segment (front ++ s) ≡ true → is_segment s ≡ true → last_odd false front ≡ true → ⊥
alone [] s w h o = absurd cc
alone (c ∷ front) s w h o = by_test (is_odd c) front s w h o (alone front s)
  where
    by_test : (b : Bool) (front s : List ℤ) → cond b (is_empty (front ++ s)) (is_segment (front ++ s)) ≡ true → is_segment s ≡ true → last_odd b front ≡ true
        → (is_segment (front ++ s) ≡ true → is_segment s ≡ true → last_odd false front ≡ true → ⊥) → ⊥
    by_test true [] [] w h o f = absurd cc
    by_test true [] (d ∷ s) w h o f = absurd cc
    by_test true (d ∷ front) s w h o f = absurd cc
    by_test false front s w h o f = f w h o

whole_label : (label front s : List ℤ) → is_segment label ≡ true → IsLastSegment label front s → s ≡ label
whole_label label front s w h = by_front h.before
  where
    by_front : (front ≡ []) ⊎ (last_odd false front ≡ true) → s ≡ label
    by_front (inl e) = sym (h.parts ∙ ap (λ (z : List ℤ). z ++ s) e)
    by_front (inr o) = absurd (alone front s (ap (λ (z : List ℤ). is_segment z) (sym h.parts) ∙ w) h.one o)

node_label : (n : Node) → (node_of n).0.label ≡ (out-Node n).label
node_label n = ap (λ (t : Tree Labelled). t.0.label) (fold_out-Node (Tree Labelled) node_step n)

before_last : (m : Node) (ns : List Node) (n : Node) → slice_get (m ∷ ns) (length ns) ≡ Some n → (k : ℕ) → k ≡ length ns → slice_get (m ∷ ns) k ≡ Some n
before_last m ns n h k e = ap (λ j. slice_get (m ∷ ns) j) e ∙ h

last_node : (left : Option (List ℤ)) (ns : List Node) (n : Node) → slice_get ns (length ns - 1) ≡ Some n → last_segment [] left (forest_of ns) ≡ Some (out-Node n).label
last_node left [] n h = absurd cc
last_node left (m ∷ []) n h = let is : m ≡ n = cc in ap (λ z. Some z) (node_label m ∙ ap (λ (z : Node). (out-Node z).label) is)
last_node left (m ∷ k ∷ ns) n h =
    let i : suc (suc (length ns)) - 1 ≡ suc (length ns) = omega arith in
    let j : suc (length ns) - 1 ≡ length ns = omega arith in
    let g : slice_get (k ∷ ns) (length ns) ≡ Some n = ap (λ z. slice_get (m ∷ k ∷ ns) z) (sym i) ∙ h in
    last_node (Some (node_of m).0.label) (k ∷ ns) n (ap (λ z. slice_get (k ∷ ns) z) j ∙ g)

pub last_whole : (left : Option (List ℤ)) (ts : Trees Labelled) (s : List ℤ) → are_labelled [] left ts ≡ true → IfSome left (λ l. is_segment l ≡ true) → last_segment [] left ts ≡ Some s → is_segment s ≡ true
last_whole left none s l h e = by_left left h e
  where
    by_left : (left : Option (List ℤ)) → IfSome left (λ l. is_segment l ≡ true) → left ≡ Some s → is_segment s ≡ true
    by_left None h e = absurd cc
    by_left (Some t) h e = let is : t ≡ s = cc in ap (λ z. is_segment z) (sym is) ∙ h
last_whole left (node e inner rest) s l h g = let p = parts [] left e inner rest l in last_whole (Some e.label) rest s p.after p.whole g

-- the last segment of the last tree's label is where the next one goes on
pub goes_on_from : (ns : List Node) (n : Node) (front s : List ℤ) → is_well_formed (forest_of ns) ≡ true → slice_get ns (length ns - 1) ≡ Some n
    → IsLastSegment (out-Node n).label front s → last_segment [] None (forest_of ns) ≡ Some s
goes_on_from ns n front s w h last =
    let l = last_node None ns n h in
    let whole = last_whole None (forest_of ns) (out-Node n).label (and_parts (are_labelled [] None (forest_of ns)) _ w).0 tt l in
    l ∙ ap (λ z. Some z) (sym (whole_label (out-Node n).label front s whole last))

pub no_last : (ns : List Node) → slice_get ns (length ns - 1) ≡ None → last_segment [] None (forest_of ns) ≡ None
no_last [] h = refl
no_last (m ∷ ns) h = absurd (has_last m ns h)
  where
    has_last : (m : Node) (ns : List Node) → slice_get (m ∷ ns) (length (m ∷ ns) - 1) ≡ None → ⊥
    has_last m [] h = absurd cc
    has_last m (k ∷ ns) h =
        let i : suc (suc (length ns)) - 1 ≡ suc (length ns) = omega arith in
        let j : length ns ≡ suc (length ns) - 1 = omega arith in
        has_last k ns (ap (λ z. slice_get (k ∷ ns) z) (sym j) ∙ ap (λ z. slice_get (m ∷ k ∷ ns) z) (sym i) ∙ h)

-- the next segment, told by the last one
pub value_from : {E : Type 0} (r : Result (Vec ℤ Global) E) (a b : Option (List ℤ)) → a ≡ b → IfOk r (λ v. v.items ≡ between b None) → IfOk r (λ v. v.items ≡ between a None)
value_from r a b e h = subst (λ (z : Option (List ℤ)). IfOk r (λ v. v.items ≡ between z None)) (sym e) h

pub lies_from : {E : Type 0} (r : Result (Vec ℤ Global) E) (a b : Option (List ℤ)) → a ≡ b → IfOk r (λ v. LiesBetween b v.items None) → IfOk r (λ v. LiesBetween a v.items None)
lies_from r a b e h = subst (λ (z : Option (List ℤ)). IfOk r (λ v. LiesBetween z v.items None)) (sym e) h

pub refused_from : {T : Type 0} (r : Result T LabelError) (a b : Option (List ℤ)) → a ≡ b → IfErr r (λ f. RefusesSegment f (between b None)) → IfErr r (λ f. RefusesSegment f (between a None))
refused_from r a b e h = subst (λ (z : Option (List ℤ)). IfErr r (λ f. RefusesSegment f (between z None))) (sym e) h

-- ---- the refusals

is_top : (t : Tree Kind) (forest : Trees Labelled) → is_element t.0 ≡ false → load_refusal t forest ≡ Some Top
is_top t forest e = rw e refl

is_deep : (t : Tree Kind) (forest : Trees Labelled) → is_element t.0 ≡ true → (levels (one t) ≤ 200 → ⊥) → load_refusal t forest ≡ Some Deep
is_deep t forest e n = rw (e, lt-leb (levels (one t)) 200 (omega (arith, n))) refl

no_room : (t : Tree Kind) (forest : Trees Labelled) → is_element t.0 ≡ true → levels (one t) ≤ 200 → every has_room (numbered_behind forest t) ≡ false → load_refusal t forest ≡ Some Room
no_room t forest e n r = rw (e, le-leb (levels (one t)) 200 n, r) refl

pub is_accepted : (t : Tree Kind) (forest : Trees Labelled) → is_element t.0 ≡ true → levels (one t) ≤ 200 → every has_room (numbered_behind forest t) ≡ true → load_refusal t forest ≡ None
is_accepted t forest e n r = rw (e, le-leb (levels (one t)) 200 n, r) refl

pub all_room : (x : List ℤ) (t : Tree Kind) → fits x ≡ true → every has_room (number x t).1 ≡ true → every has_room (one (number x t)) ≡ true
all_room x t f g = and_from (fits x) _ f (and_from (every has_room (number x t).1) _ g refl)

-- the root's label doesn't fit
pub label_refused : (t : Tree Kind) (forest : Trees Labelled) (e : TreeError) → is_element t.0 ≡ true → levels (one t) ≤ 200 → Labels (Err e) (next_label forest) → IsRefusal e (load_refusal t forest)
label_refused t forest (error.Refused r) k n h = no_room t forest k n (no_fit (fits (next_label forest)) _ h.1) ∙ ap (λ z. Some z) (sym h.0)
label_refused t forest error.Memory k n h = tt

-- a label below the root doesn't fit
pub number_refused : (t : Tree Kind) (forest : Trees Labelled) (x : List ℤ) (e : TreeError) → is_element t.0 ≡ true → levels (one t) ≤ 200 → x ≡ next_label forest → Numbers (Err e) (number x t) → IsRefusal e (load_refusal t forest)
number_refused t forest x (error.Refused r) k n is h =
    no_room t forest k n (ap (λ z. every has_room (one (number z t))) (sym is) ∙ no_fit_either (fits x) _ (no_fit (every has_room (number x t).1) _ h.1)) ∙ ap (λ z. Some z) (sym h.0)
number_refused t forest x error.Memory k n is h = tt

-- ---- the forest afterwards

forest_behind : (ns : List Node) (n : Node) → forest_of (ns ++ n ∷ []) ≡ and_then (forest_of ns) (one (node_of n))
forest_behind [] n = refl
forest_behind (m ∷ ns) n = ap (λ r. node (node_of m).0 (node_of m).1 r) (forest_behind ns n)

pub forest_loaded : (ns ms : List Node) (n : Node) (t : Tree Kind) (x : List ℤ) → ms ≡ ns ++ n ∷ [] → node_of n ≡ number x t → x ≡ next_label (forest_of ns) → forest_of ms ≡ load t (forest_of ns)
forest_loaded ns ms n t x pushed is label =
    ap (λ (zs : List Node). forest_of zs) pushed
    ∙ forest_behind ns n
    ∙ ap (λ (u : Tree Labelled). and_then (forest_of ns) (one u)) (is ∙ ap (λ z. number z t) label)

pub rises_is : (left : Option (List ℤ)) (s : List ℤ) → IfSome left (λ l. IsBefore l s) → rises left s ≡ true
rises_is None s h = refl
rises_is (Some l) s h = ap is_lt h

-- a load keeps a forest well formed
pub load_formed : (t : Tree Kind) (forest : Trees Labelled) → is_well_formed forest ≡ true → every is_valid_node (one t) ≡ true → is_element t.0 ≡ true → levels (one t) ≤ 200
    → every has_room (numbered_behind forest t) ≡ true → LiesBetween (last_segment [] None forest) (next_label forest) None → is_well_formed (load t forest) ≡ true
load_formed t forest w v k n r lies =
    let x = next_label forest in
    let u = number x t in
    let a = and_parts (are_labelled [] None forest) (every has_room forest && (every has_valid_kind forest && (are_elements forest && nat_le (levels forest) 200))) w in
    let b = and_parts (every has_room forest) (every has_valid_kind forest && (are_elements forest && nat_le (levels forest) 200)) a.1 in
    let f = and_parts (every has_valid_kind forest) (are_elements forest && nat_le (levels forest) 200) b.1 in
    let c = and_parts (are_elements forest) (nat_le (levels forest) 200) f.1 in
    let d : levels forest ≤ 200 = leb-true (levels forest) 200 c.1 in
    let m : levels (load t forest) ≤ 200 = omega (arith, levels-and_then forest (one u), levels-number x t, d, n) in
    and_from (are_labelled [] None (load t forest)) _ (at_end [] None u x forest a.0 refl lies.one (rises_is (last_segment [] None forest) x lies.above) (number_form x t))
    (and_from (every has_room (load t forest)) _ (every_behind has_room forest (one u) b.0 r)
    (and_from (every has_valid_kind (load t forest)) _ (every_behind has_valid_kind forest (one u) f.0 (valid_numbered x t v))
    (and_from (are_elements (load t forest)) _ (elements_behind forest (one u) c.0 (and_from (is_element t.0) _ k refl)) (le-leb (levels (load t forest)) 200 m))))

element_is : (tree : Plain) (b : Bool) → b ≡ not (is_element (out-Plain tree).kind) → b ≡ false → is_element (tree_of tree).0 ≡ true
element_is tree b e f = ap (λ (t : Tree Kind). is_element t.0) (tree_of_out tree) ∙ so_after_all (is_element (out-Plain tree).kind) (sym e ∙ f)
  where
    so_after_all : (a : Bool) → not a ≡ false → a ≡ true
    so_after_all true h = refl
    so_after_all false h = absurd cc

-- what the steps of a load give together
pub record Steps (ns ms : List Node) (n : Node) (tree : Plain) (x : List ℤ) (text : Bool) : Type 0 where
  pub formed : is_well_formed (forest_of ns) ≡ true
  pub valid : is_valid_tree (tree_of tree) ≡ true
  pub text_is : text ≡ not (is_element (out-Plain tree).kind)
  pub no_text : text ≡ false
  pub levels_fit : levels (one (tree_of tree)) ≤ 200
  pub label : x ≡ next_label (forest_of ns)
  pub label_fits : fits (next_label (forest_of ns)) ≡ true
  pub lies : LiesBetween (last_segment [] None (forest_of ns)) x None
  pub numbered : node_of n ≡ number x (tree_of tree)
  pub below_fits : every has_room (number x (tree_of tree)).1 ≡ true
  pub pushed : ms ≡ ns ++ n ∷ []

module _ (ns ms : List Node) (n : Node) (tree : Plain) (x : List ℤ) (text : Bool) (s : Steps ns ms n tree x text) where
  element : is_element (tree_of tree).0 ≡ true
  element = element_is tree text s.text_is s.no_text

  room : every has_room (numbered_behind (forest_of ns) (tree_of tree)) ≡ true
  room =
      ap (λ z. every has_room (one (number z (tree_of tree)))) (sym s.label) ∙ all_room x (tree_of tree) (ap (λ z. fits z) s.label ∙ s.label_fits) s.below_fits

  pub steps_load : forest_of ms ≡ load (tree_of tree) (forest_of ns)
  steps_load = forest_loaded ns ms n (tree_of tree) x s.pushed s.numbered s.label

  pub steps_accept : load_refusal (tree_of tree) (forest_of ns) ≡ None
  steps_accept = is_accepted (tree_of tree) (forest_of ns) element s.levels_fit room

  pub steps_form : is_well_formed (forest_of ms) ≡ true
  steps_form =
      ap (λ f. is_well_formed f) steps_load
      ∙ load_formed (tree_of tree) (forest_of ns) s.formed (and_parts (every is_valid_node (one (tree_of tree))) _ s.valid).0 element s.levels_fit room (subst (λ z. LiesBetween (last_segment [] None (forest_of ns)) z None) s.label s.lies)

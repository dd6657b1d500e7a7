-- Why an edit is refused, and that the forest stays well formed.
use Rattle.std.proofs.Common.{◌≡◌, refl, ap, sym, ◌∙◌, ℕ, ◌+◌, ◌-◌, ◌≤◌, ◌^◌, min, arith, Bool, true, false, ◌&&◌, ◌||◌, not, List, [], inl}
use Rattle.std.specs.Prelude.{ℤ, Option, Some, None, if◌then◌else◌, nat_le, IfSome, Err}
use Rattle.std.specs.Ordering.{is_lt}
use Rattle.std.proofs.lemmas.Bool.{leb-true, le-leb, and_from, and_parts}
use Rattle.mm_label.specs.Label.{is_segment, level, IsBefore}
use Rattle.mm_label.specs.Between.{between, LiesBetween}
use Rattle.mm_tree.specs.declared.plain.Kind.{Kind}
use Rattle.mm_tree.specs.declared.node.Node.{Node}
use Rattle.mm_tree.specs.declared.node.Node.TheViews.{out-Node}
use Rattle.mm_tree.specs.declared.forest.place.Place.{Place}
use Rattle.mm_tree.specs.declared.forest.place.Place.TheVariants.{Before, After, First, Last}
use Rattle.mm_tree.specs.declared.refusal.TreeError.{TreeError}
use Rattle.mm_tree.specs.declared.refusal.TreeError.TheVariants as error
use Rattle.mm_tree.specs.declared.refusal.Refusal.TheVariants.{Absent, Room}
use Rattle.mm_tree.specs.Trees.{Trees, none, node, Tree, one, every, nodes, levels}
use Rattle.mm_tree.specs.Validity.{is_element, is_valid_kind, is_valid_node, is_valid_tree}
use Rattle.mm_tree.specs.Numbering.{Labelled, node_of, forest_of, number, fits, has_room, Labels, Numbers}
use Rattle.mm_tree.specs.Forests.{are_labelled, has_valid_kind, are_elements, is_well_formed, IsRefusal}
use Rattle.mm_tree.specs.Edits.{has_label, has_node, found, is_text_node, size_of, subtree_size, Change, taken_out, put_instead, put, edit, Gap, gap_at, gap, left_segment, right_segment, label_in, inserted_label, insert, delete, replace, is_inside, room_refusal, placed_refusal, delete_refusal, replace_refusal}
use Rattle.mm_tree.specs.Gaps.{IsOpen}
use Rattle.mm_tree.specs.Inside.Ways.{leads_to, found_down, edit_down, gap_down}
use Rattle.mm_tree.specs.Facts.Numbers.{number_form, valid_numbered}
use Rattle.mm_tree.specs.Facts.Formed.{parts}
use Rattle.mm_tree.proofs.LoadFacts.{no_fit, no_fit_either, all_room, rises_is}
use Rattle.mm_tree.proofs.WayLaws.{label_is, within, is_found, found_is, edit_is, gap_is, labels_of}
use Rattle.mm_tree.specs.Facts.Walks.{node_of_out}
use Rattle.mm_tree.proofs.FormLaws.{Suits, falls, put_keeps, delete_keeps, replace_keeps}
use Rattle.mm_tree.proofs.EveryLaws.{Lenient, every_put, every_delete, every_replace}
use Rattle.mm_tree.proofs.LevelLaws.{is_shallow, level_append, one_level, child_level, shallow, shallow_only, number_shallow}
use Rattle.mm_tree.proofs.OpenFacts.{gap_open}
use Rattle.mm_tree.specs.Facts.Found.{present}

-- ---- what the way down tells

down_is : (x : List ℤ) (forest : Trees Labelled) → is_well_formed forest ≡ true → found_down x forest ≡ found x forest
down_is x forest w = found_is x [] None forest (labels_of forest w)

pub absent_by : (x : List ℤ) (forest : Trees Labelled) → is_well_formed forest ≡ true → found_down x forest ≡ None → has_node x forest ≡ false
absent_by x forest w h = by_test (has_node x forest) (λ k. is_found x forest k (sym (down_is x forest w) ∙ h))
  where
    by_test : (b : Bool) → (b ≡ true → true ≡ false) → b ≡ false
    by_test true f = f refl
    by_test false f = refl

pub found_by : (x : List ℤ) (forest : Trees Labelled) (n : Tree Labelled) → is_well_formed forest ≡ true → found_down x forest ≡ Some n → found x forest ≡ Some n
found_by x forest n w h = sym (down_is x forest w) ∙ h

pub present_by : (x : List ℤ) (forest : Trees Labelled) (n : Tree Labelled) → is_well_formed forest ≡ true → found_down x forest ≡ Some n → has_node x forest ≡ true
present_by x forest n w h = present x forest n (found_by x forest n w h)

pub gap_by : (p : Place) (x : List ℤ) (forest : Trees Labelled) (g : Gap) → is_well_formed forest ≡ true → gap_down p x [] None forest ≡ Some g → gap p x [] None forest ≡ g
gap_by p x forest g w h = by_test (has_node x forest) (sym (gap_is p x [] None None forest (labels_of forest w)) ∙ h)
  where
    by_test : (b : Bool) → (if b then Some (gap p x [] None forest) else None) ≡ Some g → gap p x [] None forest ≡ g
    by_test true h = cc
    by_test false h = absurd cc

pub no_gap_by : (p : Place) (x : List ℤ) (forest : Trees Labelled) → is_well_formed forest ≡ true → gap_down p x [] None forest ≡ None → has_node x forest ≡ false
no_gap_by p x forest w h = by_test (has_node x forest) (sym (gap_is p x [] None None forest (labels_of forest w)) ∙ h)
  where
    by_test : (b : Bool) → (if b then Some (gap p x [] None forest) else None) ≡ None → b ≡ false
    by_test true h = absurd cc
    by_test false h = refl

pub open_by : (p : Place) (x : List ℤ) (forest : Trees Labelled) (g : Gap) → is_well_formed forest ≡ true → gap_down p x [] None forest ≡ Some g → IsOpen g
open_by p x forest g w h = gap_open p x [] None forest g (inl refl) tt (labels_of forest w) h

-- ---- refusals of an insertion

text_is : (p : Place) (n : Node) (r : Option (Tree Labelled)) → r ≡ Some (node_of n) → (is_inside p && is_text_node r) ≡ (is_inside p && not (is_element (out-Node n).kind))
text_is p n r e = ap (λ z. is_inside p && is_text_node z) (e ∙ ap (λ (z : Tree Labelled). Some z) (node_of_out n))

pub childless_by : (p : Place) (x : List ℤ) (forest : Trees Labelled) (n : Node) (b : Bool) → is_well_formed forest ≡ true → found_down x forest ≡ Some (node_of n)
    → b ≡ (is_inside p && not (is_element (out-Node n).kind)) → (is_inside p && is_text_node (found x forest)) ≡ b
childless_by p x forest n b w h k = text_is p n (found x forest) (found_by x forest (node_of n) w h) ∙ sym k

-- ---- labels without room

pub no_room : (x : List ℤ) (t : Tree Kind) → every has_room (one (number x t)) ≡ false → room_refusal x t ≡ Some Room
no_room x t h = rw h refl

pub has_room_for : (x : List ℤ) (t : Tree Kind) → fits x ≡ true → every has_room (number x t).1 ≡ true → room_refusal x t ≡ None
has_room_for x t f g = rw (all_room x t f g) refl

-- the root's label doesn't fit
pub label_refused : (x : List ℤ) (t : Tree Kind) (e : TreeError) → Labels (Err e) x → IsRefusal e (room_refusal x t)
label_refused x t (error.Refused r) h = no_room x t (no_fit (fits x) _ h.1) ∙ ap (λ z. Some z) (sym h.0)
label_refused x t error.Memory h = tt

-- a label below the root doesn't fit
pub number_refused : (x : List ℤ) (t : Tree Kind) (e : TreeError) → Numbers (Err e) (number x t) → IsRefusal e (room_refusal x t)
number_refused x t (error.Refused r) h = no_room x t (no_fit_either (fits x) _ (no_fit (every has_room (number x t).1) _ h.1)) ∙ ap (λ z. Some z) (sym h.0)
number_refused x t error.Memory h = tt

-- ---- kinds

lenient : Lenient has_valid_kind
lenient e h =
    let q = and_parts (is_valid_kind e.kind) (is_element e.kind || false) h in
    and_from (is_valid_kind e.kind) _ q.0 (either (is_element e.kind))
  where
    either : (b : Bool) → (b || true) ≡ true
    either true = refl
    either false = refl

with_child : (e : Labelled) (b : Bool) → is_element e.kind ≡ true → has_valid_kind e b ≡ true → has_valid_kind e true ≡ true
with_child e b h k =
    let q = and_parts (is_valid_kind e.kind) (is_element e.kind || not b) k in
    and_from (is_valid_kind e.kind) _ q.0 (ap (λ z. z || false) h)

second_so : (a b : Bool) → (a && b) ≡ false → a ≡ true → b ≡ false
second_so true b e f = e
second_so false b e f = absurd cc

so_after_all : (b : Bool) → not b ≡ false → b ≡ true
so_after_all true e = refl
so_after_all false e = absurd cc

-- ---- elements on top

some_gap : (a b : Gap) → Some a ≡ Some b → a ≡ b
some_gap a b e = cc

elements_put : (p : Place) (x : List ℤ) (u : Tree Labelled) (l : Option (List ℤ)) (ts : Trees Labelled) (g : Gap) → gap_down p x [] l ts ≡ Some g → (g.parent ≡ [] → is_element u.0.kind ≡ true)
    → are_elements ts ≡ true → are_elements (edit_down (put p u) x ts) ≡ true
elements_put p x u l none g h k t = refl
elements_put p x u l (node e inner rest) g h k t =
    let q = and_parts (is_element e.kind) (are_elements rest) t in
    by_tests (leads_to x e) (has_label x e) h (λ m. and_from (is_element e.kind) _ q.0 (elements_put p x u (Some e.label) rest g m k q.1))
  where
    here : (p : Place) → gap_at p [] l e inner rest ≡ g → are_elements (put p u e inner rest) ≡ true
    here Before m = and_from (is_element u.0.kind) _ (k (ap (λ (z : Gap). z.parent) (sym m))) t
    here After m = let q = and_parts (is_element e.kind) (are_elements rest) t in and_from (is_element e.kind) _ q.0 (and_from (is_element u.0.kind) _ (k (ap (λ (z : Gap). z.parent) (sym m))) q.1)
    here First m = t
    here Last m = t

    by_tests : (a b : Bool) → (if a then (if b then Some (gap_at p [] l e inner rest) else gap_down p x e.label None inner) else gap_down p x [] (Some e.label) rest) ≡ Some g
        → (gap_down p x [] (Some e.label) rest ≡ Some g → are_elements (node e inner (edit_down (put p u) x rest)) ≡ true)
        → are_elements (if a then (if b then put p u e inner rest else node e (edit_down (put p u) x inner) rest) else node e inner (edit_down (put p u) x rest)) ≡ true
    by_tests true true h r = here p (some_gap (gap_at p [] l e inner rest) g h)
    by_tests true false h r = t
    by_tests false b h r = r h

elements_keep : (f : Change) (x : List ℤ)
    → ((e : Labelled) (inner rest : Trees Labelled) → e.label ≡ x → is_segment e.label ≡ true → are_elements (node e inner rest) ≡ true → are_elements (f e inner rest) ≡ true)
    → (left : Option (List ℤ)) (ts : Trees Labelled) → are_labelled [] left ts ≡ true → are_elements ts ≡ true → are_elements (edit_down f x ts) ≡ true
elements_keep f x k left none l t = refl
elements_keep f x k left (node e inner rest) l t =
    let p = parts [] left e inner rest l in
    let q = and_parts (is_element e.kind) (are_elements rest) t in
    by_tests (leads_to x e) (has_label x e) (λ m. k e inner rest (label_is x e m) p.whole t) (and_from (is_element e.kind) _ q.0 (elements_keep f x k (Some e.label) rest p.after q.1))
  where
    by_tests : (a b : Bool) → (b ≡ true → are_elements (f e inner rest) ≡ true) → are_elements (node e inner (edit_down f x rest)) ≡ true
        → are_elements (if a then (if b then f e inner rest else node e (edit_down f x inner) rest) else node e inner (edit_down f x rest)) ≡ true
    by_tests true true h r = h refl
    by_tests true false h r = t
    by_tests false b h r = r

-- ---- the parts of a well-formed forest

pub record Form (forest : Trees Labelled) : Type 0 where
  pub labels : are_labelled [] None forest ≡ true
  pub room : every has_room forest ≡ true
  pub kinds : every has_valid_kind forest ≡ true
  pub elements : are_elements forest ≡ true
  pub shallow : every (is_shallow 200) forest ≡ true

pub form_of : (forest : Trees Labelled) → is_well_formed forest ≡ true → Form forest
form_of forest w =
    let a = and_parts (are_labelled [] None forest) (every has_room forest && (every has_valid_kind forest && (are_elements forest && nat_le (levels forest) 200))) w in
    let b = and_parts (every has_room forest) (every has_valid_kind forest && (are_elements forest && nat_le (levels forest) 200)) a.1 in
    let f = and_parts (every has_valid_kind forest) (are_elements forest && nat_le (levels forest) 200) b.1 in
    let c = and_parts (are_elements forest) (nat_le (levels forest) 200) f.1 in
    let d : levels forest ≤ 200 = leb-true (levels forest) 200 c.1 in
    record { labels = a.0; room = b.0; kinds = f.0; elements = c.0; shallow = shallow 200 [] None forest a.0 (omega (arith, d)) }

pub formed : (forest : Trees Labelled) → Form forest → is_well_formed forest ≡ true
formed forest f =
    let d : level [] + levels forest ≤ 200 = shallow_only 200 [] None forest f.labels f.shallow (omega arith) in
    and_from (are_labelled [] None forest) _ f.labels
    (and_from (every has_room forest) _ f.room
    (and_from (every has_valid_kind forest) _ f.kinds (and_from (are_elements forest) _ f.elements (le-leb (levels forest) 200 (omega (arith, d))))))

-- ---- an insertion

falls_is : (s : List ℤ) (right : Option (List ℤ)) → IfSome right (λ r. IsBefore s r) → falls s right ≡ true
falls_is s None h = refl
falls_is s (Some r) h = ap is_lt h

-- what the steps of an insertion give together
pub record Inserting (p : Place) (x : List ℤ) (forest new : Trees Labelled) (t : Tree Kind) (u : Tree Labelled) (g : Gap) (label : List ℤ) : Type 0 where
  pub well : is_well_formed forest ≡ true
  pub valid : is_valid_tree t ≡ true
  pub down : gap_down p x [] None forest ≡ Some g
  pub here : gap p x [] None forest ≡ g
  pub childless : (is_inside p && is_text_node (found x forest)) ≡ false
  pub element : level g.parent ≡ 0 → is_element t.0 ≡ true
  pub levels_fit : level g.parent + levels (one t) ≤ 200
  pub label_is : label ≡ label_in g
  pub label_fits : fits (label_in g) ≡ true
  pub lies : LiesBetween (left_segment g) (between (left_segment g) (right_segment g)) (right_segment g)
  pub numbered : u ≡ number label t
  pub below_fits : every has_room (number label t).1 ≡ true
  pub edited : new ≡ edit_down (put p u) x forest

module _ (p : Place) (x : List ℤ) (forest new : Trees Labelled) (t : Tree Kind) (u : Tree Labelled) (g : Gap) (label : List ℤ) (s : Inserting p x forest new t u g label) where
  given : u ≡ number (label_in g) t
  given = s.numbered ∙ ap (λ z. number z t) s.label_is

  room_below : every has_room (number (label_in g) t).1 ≡ true
  room_below = ap (λ z. every has_room (number z t).1) (sym s.label_is) ∙ s.below_fits

  new_is : new ≡ edit_down (put p (number (label_in g) t)) x forest
  new_is = s.edited ∙ ap (λ z. edit_down (put p z) x forest) given

  pub the_label : label ≡ inserted_label p x forest
  the_label = s.label_is ∙ ap (λ (z : Gap). label_in z) (sym s.here)

  pub the_insertion : new ≡ insert p x t forest
  the_insertion =
      new_is ∙ edit_is (put p (number (label_in g) t)) x [] None forest (labels_of forest s.well) ∙ ap (λ (z : Gap). edit (put p (number (label_in z) t)) x forest) (sym s.here)

  pub has_room_there : room_refusal (label_in g) t ≡ None
  has_room_there = has_room_for (label_in g) t s.label_fits room_below

  suits : Suits g (number (label_in g) t)
  suits = record {
    segment = between (left_segment g) (right_segment g);
    label = refl;
    whole = s.lies.one;
    above = rises_is (left_segment g) (between (left_segment g) (right_segment g)) s.lies.above;
    below = falls_is (between (left_segment g) (right_segment g)) (right_segment g) s.lies.below;
    inner = number_form (label_in g) t;
  }

  low_enough : level (label_in g) + levels t.1 ≤ 200
  low_enough = omega (arith, child_level g.parent (between (left_segment g) (right_segment g)) (label_in g) refl s.lies.one, s.levels_fit)

  target_is_element : is_inside p ≡ true → (e : Labelled) (inner : Trees Labelled) → found_down x forest ≡ Some (e, inner) → is_element e.kind ≡ true
  target_is_element i e inner h =
      so_after_all (is_element e.kind) (ap (λ z. is_text_node z) (sym (found_by x forest (e, inner) s.well h)) ∙ second_so (is_inside p) (is_text_node (found x forest)) s.childless i)

  form : Form (edit_down (put p (number (label_in g) t)) x forest)
  form =
      let f = form_of forest s.well in
      let u0 = number (label_in g) t in
      record {
        labels = put_keeps p u0 x [] None forest g f.labels s.down suits;
        room = every_put has_room p x u0 (λ e h. h) (all_room (label_in g) t s.label_fits room_below) forest (λ i e inner h b k. k) f.room;
        kinds = every_put has_valid_kind p x u0 lenient (valid_numbered (label_in g) t (and_parts (every is_valid_node (one t)) _ s.valid).0) forest (λ i e inner h b k. with_child e b (target_is_element i e inner h) k) f.kinds;
        elements = elements_put p x u0 None forest g s.down (λ e. s.element (ap (λ z. level z) e)) f.elements;
        shallow = every_put (is_shallow 200) p x u0 (λ e h. h) (number_shallow 200 (label_in g) t low_enough) forest (λ i e inner h b k. k) f.shallow;
      }

  pub insertion_formed : is_well_formed new ≡ true
  insertion_formed = ap (λ z. is_well_formed z) new_is ∙ formed (edit_down (put p (number (label_in g) t)) x forest) form

-- ---- a deletion

pub the_deletion : (x : List ℤ) (forest new : Trees Labelled) → is_well_formed forest ≡ true → new ≡ edit_down taken_out x forest → new ≡ delete x forest
the_deletion x forest new w e = e ∙ edit_is taken_out x [] None forest (labels_of forest w)

pub deletion_formed : (x : List ℤ) (forest new : Trees Labelled) → is_well_formed forest ≡ true → new ≡ edit_down taken_out x forest → is_well_formed new ≡ true
deletion_formed x forest new w e =
    let f = form_of forest w in
    ap (λ z. is_well_formed z) e ∙ formed (edit_down taken_out x forest) (record {
      labels = delete_keeps x [] None forest f.labels;
      room = every_delete has_room x (λ e h. h) forest f.room;
      kinds = every_delete has_valid_kind x lenient forest f.kinds;
      elements = elements_keep taken_out x (λ e inner rest h i k. (and_parts (is_element e.kind) (are_elements rest) k).1) None forest f.labels f.elements;
      shallow = every_delete (is_shallow 200) x (λ e h. h) forest f.shallow;
    })

pub absent_delete : (x : List ℤ) (forest : Trees Labelled) → has_node x forest ≡ false → delete_refusal x forest ≡ Some Absent
absent_delete x forest h = rw h refl

pub accepted_delete : (x : List ℤ) (forest : Trees Labelled) → has_node x forest ≡ true → delete_refusal x forest ≡ None
accepted_delete x forest h = rw h refl

pub size_is : (x : List ℤ) (forest : Trees Labelled) (n : Node) (cs : List Node) (below both : ℕ) → found x forest ≡ Some (node_of n) → cs ≡ (out-Node n).children
    → below ≡ min (nodes (forest_of cs)) (2 ^ 64 - 1) → both ≡ min (below + 1) (2 ^ 64 - 1) → both ≡ min (subtree_size x forest) (2 ^ 64 - 1)
size_is x forest n cs below both e c b d =
    let s : subtree_size x forest ≡ 1 + nodes (forest_of (out-Node n).children) + 0 = ap (λ (r : Option (Tree Labelled)). size_of r) e ∙ ap (λ (z : Tree Labelled). nodes (one z)) (node_of_out n) in
    let m : nodes (forest_of cs) ≡ nodes (forest_of (out-Node n).children) = ap (λ (zs : List Node). nodes (forest_of zs)) c in
    omega (arith, s, m, b, d)

-- ---- a replacement

-- what the steps of a replacement give together
pub record Replacing (x : List ℤ) (forest new : Trees Labelled) (t : Tree Kind) (u : Tree Labelled) (label : List ℤ) : Type 0 where
  pub well : is_well_formed forest ≡ true
  pub valid : is_valid_tree t ≡ true
  pub there : has_node x forest ≡ true
  pub element : level x - 1 ≡ 0 → is_element t.0 ≡ true
  pub levels_fit : level x - 1 + levels (one t) ≤ 200
  pub label_is : label ≡ x
  pub numbered : u ≡ number label t
  pub below_fits : every has_room (number label t).1 ≡ true
  pub edited : new ≡ edit_down (put_instead u) x forest

pub fits_there : (x : List ℤ) (ts : Trees Labelled) → every has_room ts ≡ true → has_node x ts ≡ true → fits x ≡ true
fits_there x none r h = absurd cc
fits_there x (node e inner rest) r h =
    let p = and_parts (fits e.label) (every has_room inner && every has_room rest) r in
    let q = and_parts (every has_room inner) (every has_room rest) p.1 in
    by_tests (has_label x e) (has_node x inner) h (λ k. ap (λ z. fits z) (sym (label_is x e k)) ∙ p.0) (fits_there x inner q.0) (fits_there x rest q.1)
  where
    by_tests : (a b : Bool) → (a || (b || has_node x rest)) ≡ true → (a ≡ true → fits x ≡ true) → (b ≡ true → fits x ≡ true) → (has_node x rest ≡ true → fits x ≡ true) → fits x ≡ true
    by_tests true b h i j k = i refl
    by_tests false true h i j k = j refl
    by_tests false false h i j k = k h

some_level : (x : List ℤ) (forest : Trees Labelled) → is_well_formed forest ≡ true → has_node x forest ≡ true → 1 ≤ level x
some_level x forest w h =
    let u = within [] None forest x (labels_of forest w) h in
    omega (arith, ap (λ z. level z) u.is, level_append u.segment u.more, one_level u.segment u.whole)

module _ (x : List ℤ) (forest new : Trees Labelled) (t : Tree Kind) (u : Tree Labelled) (label : List ℤ) (s : Replacing x forest new t u label) where
  new_is_2 : new ≡ edit_down (put_instead (number x t)) x forest
  new_is_2 = s.edited ∙ ap (λ z. edit_down (put_instead z) x forest) (s.numbered ∙ ap (λ z. number z t) s.label_is)

  room_below_2 : every has_room (number x t).1 ≡ true
  room_below_2 = ap (λ z. every has_room (number z t).1) (sym s.label_is) ∙ s.below_fits

  x_fits : fits x ≡ true
  x_fits = fits_there x forest (form_of forest s.well).room s.there

  pub the_replacement : new ≡ replace x t forest
  the_replacement = new_is_2 ∙ edit_is (put_instead (number x t)) x [] None forest (labels_of forest s.well)

  pub has_room_here : room_refusal x t ≡ None
  has_room_here = has_room_for x t x_fits room_below_2

  pub replacement_formed : is_well_formed new ≡ true
  replacement_formed =
      let f = form_of forest s.well in
      let r = number x t in
      let top : (e : Labelled) → e.label ≡ x → is_segment e.label ≡ true → is_element t.0 ≡ true = λ e h i. s.element (omega (arith, one_level e.label i, ap (λ z. level z) h)) in
      ap (λ z. is_well_formed z) new_is_2 ∙ formed (edit_down (put_instead r) x forest) (record {
        labels = replace_keeps x r refl (number_form x t) [] None forest f.labels;
        room = every_replace has_room x r (λ e h. h) (all_room x t x_fits room_below_2) forest f.room;
        kinds = every_replace has_valid_kind x r lenient (valid_numbered x t (and_parts (every is_valid_node (one t)) _ s.valid).0) forest f.kinds;
        elements = elements_keep (put_instead r) x (λ e inner rest h i k. and_from (is_element t.0) _ (top e h i) (and_parts (is_element e.kind) (are_elements rest) k).1) None forest f.labels f.elements;
        shallow = every_replace (is_shallow 200) x r (λ e h. h) (number_shallow 200 x t (omega (arith, some_level x forest s.well s.there, s.levels_fit))) forest f.shallow;
      })

pub absent_replace : (x : List ℤ) (t : Tree Kind) (forest : Trees Labelled) → has_node x forest ≡ false → replace_refusal x t forest ≡ Some Absent
absent_replace x t forest h = rw h refl

placed_replace : (x : List ℤ) (t : Tree Kind) (forest : Trees Labelled) → has_node x forest ≡ true → replace_refusal x t forest ≡ placed_refusal (level x - 1) x t
placed_replace x t forest h = rw h refl

-- where the target is there, what is left is whether the tree may stand there
pub there_and_placed : (x : List ℤ) (t : Tree Kind) (ns ms : List Node) (n : Node) (l above : ℕ) → is_well_formed (forest_of ms) ≡ true → ns ≡ ms → found_down x (forest_of ns) ≡ Some (node_of n)
    → l ≡ level x → above ≡ l - 1 → replace_refusal x t (forest_of ms) ≡ placed_refusal above x t
there_and_placed x t ns ms n l above w e h k i =
    placed_replace x t (forest_of ms) (present_by x (forest_of ms) (node_of n) w (ap (λ (zs : List Node). found_down x (forest_of zs)) (sym e) ∙ h))
    ∙ ap (λ m. placed_refusal m x t) (sym (i ∙ ap (λ m. m - 1) k))

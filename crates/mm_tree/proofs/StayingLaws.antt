-- Edits that aren't refused leave a well-formed forest well formed.
use Rattle.std.proofs.Common.{◌≡◌, refl, sym, ◌∙◌, ap, ℕ, ◌+◌, ◌-◌, ◌≤◌, Bool, true, false, ◌&&◌, not, List, []}
use Rattle.std.specs.Prelude.{ℤ, Option, Some, None, IsTrue, IfSome, if◌then◌else◌, nat_le, ◌==◌, option_map}
use Rattle.std.proofs.lemmas.Bool.{eq-eqb, leb-true, and_parts}
use Rattle.mm_label.specs.Label.{is_segment, level, is_child}
use Rattle.mm_label.specs.Between.{between, IsOrdered, LiesBetween}
use Rattle.mm_tree.specs.declared.plain.Kind.{Kind}
use Rattle.mm_tree.specs.declared.refusal.Refusal.TheVariants.{Absent, Leaf, Top, Deep, Room}
use Rattle.mm_tree.specs.declared.forest.place.Place.{Place}
use Rattle.mm_tree.specs.Trees.{Trees, Tree, one, every, levels}
use Rattle.mm_tree.specs.Validity.{is_element, is_valid_node}
use Rattle.mm_tree.specs.Numbering.{Labelled, number, fits, has_room}
use Rattle.mm_tree.specs.Forests.{segment_below, are_labelled, is_well_formed, last_segment, numbered_behind}
use Rattle.mm_tree.specs.Edits.{has_node, found, is_text_node, put, taken_out, put_instead, Gap, gap, left_segment, right_segment, inserted_label, is_inside, placed_refusal}
use Rattle.mm_tree.specs.Gaps.{IsOpen}
use Rattle.mm_tree.specs.Inside.Ways.{edit_down, gap_down}
use Rattle.mm_tree.specs.Staying.{LoadStaysFormed, InsertStaysFormed, DeleteStaysFormed, ReplaceStaysFormed}
use Rattle.mm_tree.proofs.WayLaws.{edit_is, gap_is, labels_of}
use Rattle.mm_tree.proofs.LoadFacts.{last_whole, load_formed}
use Rattle.mm_tree.proofs.EditFacts.{open_by, Inserting, the_insertion, insertion_formed, deletion_formed, Replacing, the_replacement, replacement_formed}

-- what stands between two neighbours is a segment between them
abbrev pub Lies : Type 0
Lies = (l r : Option (List ℤ)) → IfSome l (λ s. IsTrue (is_segment s)) → IfSome r (λ s. IsTrue (is_segment s)) → IsOrdered l r → LiesBetween l (between l r) r

-- ---- what it means that nothing is refused

first_passed : {A : Type 0} (b : Bool) (r : A) (more : Option A) → (if b then Some r else more) ≡ None → (b ≡ false) × (more ≡ None)
first_passed true r more h = absurd cc
first_passed false r more h = (refl, h)

not_false : (b : Bool) → not b ≡ false → b ≡ true
not_false true h = refl
not_false false h = absurd cc

second_so : (a b : Bool) → (a && not b) ≡ false → a ≡ true → b ≡ true
second_so true b h e = not_false b h
second_so false b h e = absurd cc

pub record Placed (above : ℕ) (x : List ℤ) (t : Tree Kind) : Type 0 where
  pub element : above ≡ 0 → is_element t.0 ≡ true
  pub levels_fit : above + levels (one t) ≤ 200
  pub label_fits : fits x ≡ true
  pub below_fits : every has_room (number x t).1 ≡ true

placed : (above : ℕ) (x : List ℤ) (t : Tree Kind) → placed_refusal above x t ≡ None → Placed above x t
placed above x t h =
    let a = first_passed ((above == 0) && not (is_element t.0)) Top _ h in
    let b = first_passed (not (nat_le (above + levels (one t)) 200)) Deep _ a.1 in
    let c = first_passed (not (every has_room (one (number x t)))) Room None b.1 in
    let r = and_parts (fits x) _ (not_false (every has_room (one (number x t))) c.0) in
    record {
      element = λ e. second_so (above == 0) (is_element t.0) a.0 (eq-eqb above 0 e);
      levels_fit = leb-true (above + levels (one t)) 200 (not_false _ b.0);
      label_fits = r.0;
      below_fits = (and_parts (every has_room (number x t).1) _ r.1).0;
    }

-- ---- a load

ordered_left : (l : Option (List ℤ)) → IsOrdered l None
ordered_left None = tt
ordered_left (Some s) = tt

whole_last : (forest : Trees Labelled) → are_labelled [] None forest ≡ true → (l : Option (List ℤ)) → last_segment [] None forest ≡ l → IfSome l (λ s. IsTrue (is_segment s))
whole_last forest k None e = tt
whole_last forest k (Some s) e = last_whole None forest s k tt e

pub load_stays : Lies → LoadStaysFormed
load_stays lies t forest w v h =
    let a = first_passed (not (is_element t.0)) Top _ h in
    let b = first_passed (not (nat_le (levels (one t)) 200)) Deep _ a.1 in
    let c = first_passed (not (every has_room (numbered_behind forest t))) Room None b.1 in
    load_formed t forest w (and_parts (every is_valid_node (one t)) _ v).0 (not_false _ a.0) (leb-true (levels (one t)) 200 (not_false _ b.0)) (not_false _ c.0)
    (lies (last_segment [] None forest) None (whole_last forest (labels_of forest w) (last_segment [] None forest) refl) tt (ordered_left (last_segment [] None forest)))

-- ---- an insertion

whole_neighbour : (y : List ℤ) (l : Option (List ℤ)) → IfSome l (λ z. IsTrue (is_child y z)) → IfSome (option_map (λ z. segment_below y z) l) (λ s. IsTrue (is_segment s))
whole_neighbour y None h = tt
whole_neighbour y (Some l) h = (and_parts _ (is_segment (segment_below y l)) h).1

lies_open : Lies → (g : Gap) → IsOpen g → LiesBetween (left_segment g) (between (left_segment g) (right_segment g)) (right_segment g)
lies_open lies g o = lies (left_segment g) (right_segment g) (whole_neighbour g.parent g.left o.left) (whole_neighbour g.parent g.right o.right) o.ordered

gap_there : (p : Place) (x : List ℤ) (forest : Trees Labelled) → is_well_formed forest ≡ true → has_node x forest ≡ true → gap_down p x [] None forest ≡ Some (gap p x [] None forest)
gap_there p x forest w h = gap_is p x [] None None forest (labels_of forest w) ∙ ap (λ b. if b then Some (gap p x [] None forest) else None) h

pub insert_stays : Lies → InsertStaysFormed
insert_stays lies p x t forest w v h =
    let g = gap p x [] None forest in
    let label = inserted_label p x forest in
    let u = number label t in
    let new = edit_down (put p u) x forest in
    let a = first_passed (not (has_node x forest)) Absent _ h in
    let b = first_passed (is_inside p && is_text_node (found x forest)) Leaf _ a.1 in
    let q = placed (level g.parent) label t b.1 in
    let d = gap_there p x forest w (not_false _ a.0) in
    let s : Inserting p x forest new t u g label = record {
      well = w;
      valid = v;
      down = d;
      here = refl;
      childless = b.0;
      element = q.element;
      levels_fit = q.levels_fit;
      label_is = refl;
      label_fits = q.label_fits;
      lies = lies_open lies g (open_by p x forest g w d);
      numbered = refl;
      below_fits = q.below_fits;
      edited = refl;
    } in
    ap (λ z. is_well_formed z) (sym (the_insertion p x forest new t u g label s)) ∙ insertion_formed p x forest new t u g label s

-- ---- a deletion

pub delete_stays : DeleteStaysFormed
delete_stays x forest w = ap (λ z. is_well_formed z) (sym (edit_is taken_out x [] None forest (labels_of forest w))) ∙ deletion_formed x forest (edit_down taken_out x forest) w refl

-- ---- a replacement

pub replace_stays : ReplaceStaysFormed
replace_stays x t forest w v h =
    let u = number x t in
    let new = edit_down (put_instead u) x forest in
    let a = first_passed (not (has_node x forest)) Absent _ h in
    let q = placed (level x - 1) x t a.1 in
    let s : Replacing x forest new t u x = record {
      well = w;
      valid = v;
      there = not_false _ a.0;
      element = q.element;
      levels_fit = q.levels_fit;
      label_is = refl;
      numbered = refl;
      below_fits = q.below_fits;
      edited = refl;
    } in
    ap (λ z. is_well_formed z) (sym (the_replacement x forest new t u x s)) ∙ replacement_formed x forest new t u x s

-- The labels of a well-formed forest are labels, and a label has room.
use Rattle.std.proofs.Common.{inl, inr, ◌≡◌, ℤ, Bool, true, false, cond, IsTrue, List, [], ◌∷◌, ◌++◌, refl, sym, subst, Option, Some, None, length}
use Rattle.std.proofs.lemmas.Bool.{and_from, and_parts, le-leb, leb-true}
use Rattle.mm_label.specs.Bytes.{bytes_of}
use Rattle.mm_label.specs.Fronts.{Within}
use Rattle.mm_label.specs.Facts.Members.{within_joined}
use Rattle.mm_label.specs.Label.{IsLabel, all_in_range, is_empty, is_odd, is_segment, last_odd}
use Rattle.mm_tree.specs.Trees.{Trees, none, node, every, has_some, preorder}
use Rattle.mm_tree.specs.Numbering.{Labelled, fits, has_room}
use Rattle.mm_tree.specs.Forests.{are_labelled, is_well_formed, segment_below}
use Rattle.mm_tree.specs.Facts.Formed.{parts, front_splits}

-- what ends in a segment ends in an odd component
ends_odd : (b : Bool) (y s : List ℤ) → is_segment s ≡ true → last_odd b (y ++ s) ≡ true
ends_odd b [] [] h = absurd cc
ends_odd b [] (c ∷ s) h = by (is_odd c) refl h (ends_odd (is_odd c) [] s)
  where
    last : (s : List ℤ) → is_empty s ≡ true → is_odd c ≡ true → last_odd (is_odd c) s ≡ true
    last [] g e = e
    last (d ∷ s) g e = absurd cc

    by : (o : Bool) → is_odd c ≡ o → cond o (is_empty s) (is_segment s) ≡ true → (is_segment s ≡ true → last_odd (is_odd c) s ≡ true) → last_odd (is_odd c) s ≡ true
    by true e h f = last s h e
    by false e h f = f h
ends_odd b (c ∷ y) s h = ends_odd (is_odd c) y s h

pub labels_are : (y : List ℤ) (left : Option (List ℤ)) (f : Trees Labelled) (d : Labelled) → are_labelled y left f ≡ true → every has_room f ≡ true → Within d (preorder f) → IsLabel d.label
labels_are y left none d a r i = absurd i
labels_are y left (node e inner rest) d a r i =
    let p = parts y left e inner rest a in
    let k = and_parts (has_room e (has_some inner)) _ r in
    let l = and_parts (every has_room inner) _ k.1 in
    elim i [
      | inl h ↦ subst (λ (z : Labelled). IsLabel z.label) (sym h) (
          let t = and_parts (all_in_range e.label) _ k.0 in
          record {
            in_range = t.0;
            ends_odd = subst (λ (z : List ℤ). last_odd false z ≡ true) (sym (front_splits y e.label p.front)) (ends_odd false y (segment_below y e.label) p.whole);
            short = leb-true (length (bytes_of e.label)) 512 t.1;
          })
      | inr h ↦ elim (within_joined d (preorder inner) (preorder rest) h) [
        | inl m ↦ labels_are e.label None inner d p.below l.0 m
        | inr m ↦ labels_are y (Some (segment_below y e.label)) rest d p.after l.1 m
      ]
    ]

pub node_is_labelled : (f : Trees Labelled) → IsTrue (is_well_formed f) → (d : Labelled) → Within d (preorder f) → IsLabel d.label
node_is_labelled f w d i =
    let a = and_parts (are_labelled [] None f) _ w in
    let r = and_parts (every has_room f) _ a.1 in
    labels_are [] None f d a.0 r.0 i

pub label_fits : (x : List ℤ) → IsLabel x → fits x ≡ true
label_fits x h = and_from (all_in_range x) _ h.in_range (le-leb (length (bytes_of x)) 512 h.short)

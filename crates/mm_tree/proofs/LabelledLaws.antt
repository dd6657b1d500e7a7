-- Labels below a parent, and a tree behind its siblings.
use Rattle.std.proofs.Common.{◌≡◌, refl, Bool, true, ◌&&◌, List, ◌++◌, arith}
use Rattle.std.specs.Prelude.{ℤ, Option, Some, None, max}
use Rattle.std.specs.List.{starts_with}
use Rattle.std.specs.Ordering.{int_eq}
use Rattle.std.proofs.lemmas.Bool.{and_from, and_parts}
use Rattle.mm_label.specs.Label.{is_segment}
use Rattle.mm_tree.specs.Trees.{Trees, none, node, Tree, one, every, has_some, levels}
use Rattle.mm_tree.specs.Numbering.{Labelled}
use Rattle.mm_tree.specs.Forests.{segment_below, rises, is_child_label, are_labelled, are_elements, and_then, last_segment}
use Rattle.mm_tree.specs.Facts.Formed.{Parts, parts, child_ok}
use Rattle.mm_tree.specs.Validity.{is_element}

pub whole_of : (y : List ℤ) (left : Option (List ℤ)) (e : Labelled) (inner rest : Trees Labelled) → Parts y left e inner rest → are_labelled y left (node e inner rest) ≡ true
whole_of y left e inner rest p =
    and_from (is_child_label y left e.label) _ (and_from (starts_with int_eq e.label y) _ p.front (and_from (is_segment (segment_below y e.label)) _ p.whole p.above)) (and_from (are_labelled e.label None inner) _ p.below p.after)

-- a tree behind its siblings
pub at_end : (y : List ℤ) (left : Option (List ℤ)) (u : Tree Labelled) (s : List ℤ) (ts : Trees Labelled) → are_labelled y left ts ≡ true → u.0.label ≡ y ++ s → is_segment s ≡ true
    → rises (last_segment y left ts) s ≡ true → are_labelled u.0.label None u.1 ≡ true → are_labelled y left (and_then ts (one u)) ≡ true
at_end y left u s none l e w r inner_ok = and_from (is_child_label y left u.0.label) _ (child_ok y s u.0.label left e w r).0 (and_from (are_labelled u.0.label None u.1) _ inner_ok refl)
at_end y left u s (node a inner rest) l e w r inner_ok =
    let p = parts y left a inner rest l in
    whole_of y left a inner (and_then rest (one u)) (record { front = p.front; whole = p.whole; above = p.above; below = p.below; after = at_end y (Some (segment_below y a.label)) u s rest p.after e w r inner_ok })

pub every_behind : {A : Type 0} (test : A → Bool → Bool) (ts us : Trees A) → every test ts ≡ true → every test us ≡ true → every test (and_then ts us) ≡ true
every_behind test none us h k = k
every_behind test (node e inner rest) us h k =
    let p = and_parts (test e (has_some inner)) (every test inner && every test rest) h in
    let q = and_parts (every test inner) (every test rest) p.1 in
    and_from (test e (has_some inner)) _ p.0 (and_from (every test inner) _ q.0 (every_behind test rest us q.1 k))

pub elements_behind : (ts us : Trees Labelled) → are_elements ts ≡ true → are_elements us ≡ true → are_elements (and_then ts us) ≡ true
elements_behind none us h k = k
elements_behind (node e inner rest) us h k =
    let p = and_parts (is_element e.kind) (are_elements rest) h in
    and_from (is_element e.kind) _ p.0 (elements_behind rest us p.1 k)

pub levels-and_then : {A : Type 0} (ts us : Trees A) → levels (and_then ts us) ≡ max (levels ts) (levels us)
levels-and_then none us = omega arith
levels-and_then (node a inner rest) us = omega (arith, levels-and_then rest us)

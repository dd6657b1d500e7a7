use Rattle.std.proofs.Common.{◌≡◌, ℕ, List, drop, nat_cmp}
use Rattle.std.specs.Prelude.{map, is_some}
use Rattle.std.specs.List.{list_any}
use Rattle.std.specs.Str.{bytes_eq}
use Rattle.std.specs.Cmp.Lexicographic.{slice_cmp}
use Rattle.std.specs.BTreeMap.{get_by}
use Rattle.mm_xml.specs.Inside.Distinct.{differ_from}
use Rattle.mm_xml.specs.Syntax.{differ}
use Rattle.mm_xml.proofs.attribute.are_distinct.Given as goal

-- the map has the names so far, and what is left differs from them as all names do
abbrev pub invariant-loop-attribute : goal.invariant-loop-attribute
invariant-loop-attribute l =
    (names : List (List ℕ)) × ((q : List ℕ) → is_some (get_by (λ k. slice_cmp nat_cmp q k.now) l.seen) ≡ list_any (λ m. bytes_eq q m) names)
    × (differ_from names (map (λ a. a.name) (drop l.attribute-index l.attributes)) ≡ differ l.attributes)

use Rattle.std.proofs.Common.{◌≡◌, ◌<◌, true, List, length, subst, sym}
use Rattle.std.specs.List.{list_all}
use Rattle.mm_tree.specs.declared.plain.Attribute.{Attribute}
use Rattle.mm_tree.specs.Validity.{is_valid_attribute}
use Rattle.mm_image.proofs.ChunkFacts.{few_attributes, name_fits, valid_attributes, valid_name}
use Rattle.mm_image.proofs.content.pieces_of.Goals as goal

pub push_element-requires-clause-name : goal.push_element-requires-clause-name
push_element-requires-clause-name c = let h = rw c.in-Element.is at c.requires in name_fits c.in-Element.name (valid_name c.in-Element.name c.in-Element.attributes h)

pub push_element-requires-clause-attributes : goal.push_element-requires-clause-attributes
push_element-requires-clause-attributes c =
    let h = rw c.in-Element.is at c.requires in
    subst (λ (z : List Attribute). list_all is_valid_attribute z ≡ true) (sym c.as_slice.ensures) (valid_attributes c.in-Element.name c.in-Element.attributes h)

pub push_element-requires-clause-count : goal.push_element-requires-clause-count
push_element-requires-clause-count c =
    let h = rw c.in-Element.is at c.requires in
    subst (λ (z : List Attribute). length z < 4294967296) (sym c.as_slice.ensures) (few_attributes c.in-Element.name c.in-Element.attributes h)

use Rattle.mm_image.proofs.ChunkFacts.{name_fits, valid_at, value_fits}
use Rattle.std.proofs.lemmas.Bool.{and_parts}
use Rattle.mm_tree.specs.Validity.{is_node_name}
use Rattle.mm_image.proofs.content.push_attributes.Goals as goal

pub push_name-requires : goal.push_name-requires
push_name-requires c =
    let a = c.attribute-item.result in
    let h = valid_at c.args.attributes.now c.loop-attribute.attribute-index a c.requires c.loop-attribute-test.true c.attribute-item.is in
    name_fits a.name (and_parts (is_node_name a.name) _ h).0

pub push_value-requires : goal.push_value-requires
push_value-requires c =
    let a = c.attribute-item.result in
    value_fits a (valid_at c.args.attributes.now c.loop-attribute.attribute-index a c.requires c.loop-attribute-test.true c.attribute-item.is)

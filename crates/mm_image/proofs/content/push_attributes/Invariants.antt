use Rattle.std.proofs.Common.{◌≡◌, ◌++◌, take}
use Rattle.std.specs.Prelude.{flat_map}
use Rattle.mm_image.specs.Content.{attribute_bytes}
use Rattle.mm_image.proofs.content.push_attributes.Given as goal

abbrev pub invariant-loop-attribute : goal.invariant-loop-attribute
invariant-loop-attribute l = l.pieces ≡ l.fn.pieces ++ flat_map attribute_bytes (take l.attribute-index l.attributes)

use Rattle.std.proofs.Common.{◌≡◌, ◌++◌, take}
use Rattle.std.specs.List.{flat_map}
use Rattle.mm_xml.specs.Writing.{written_attribute}
use Rattle.mm_xml.proofs.writer.put_tag_front.Given as goal

-- what was written of the first attributes stands behind what stood there
abbrev pub invariant-loop-attribute : goal.invariant-loop-attribute
invariant-loop-attribute l = l.out.items ≡ l.initial.out.items ++ flat_map written_attribute (take l.attribute-index l.attributes)

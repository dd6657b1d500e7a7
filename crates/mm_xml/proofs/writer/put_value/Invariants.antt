use Rattle.std.proofs.Common.{◌≡◌, ◌++◌, take}
use Rattle.std.specs.List.{flat_map}
use Rattle.mm_xml.specs.Writing.{value_byte}
use Rattle.mm_xml.proofs.writer.put_value.Given as goal

-- what was written of the first bytes stands behind what stood there
abbrev pub invariant-loop-byte : goal.invariant-loop-byte
invariant-loop-byte l = record {
  same : l.byte-items ≡ l.value;
  so_far : l.out.items ≡ l.initial.out.items ++ flat_map value_byte (take l.byte-index l.value);
}

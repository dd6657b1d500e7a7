use Rattle.std.proofs.Common.{◌≡◌, ◌-◌, [], length}
use denote.Text.{Utf8}
use denote.Shadow.{shadow}
use Rattle.std.specs.Str.{chars}
use Rattle.mm_xml.specs.Inside.Lexing.{attributes_at}
use Rattle.mm_xml.specs.Inside.Telling.{tell_attributes}
use Rattle.mm_xml.proofs.attribute.attributes_of.Given as goal

-- the attributes so far, and those that are read from here on, are those that are read from the start
abbrev pub invariant-loop : goal.invariant-loop
invariant-loop l = record {
  utf8 : shadow (Utf8 l.rest);
  same : tell_attributes l.attributes (attributes_at (length l.text - l.counter) (chars l.rest)) ≡ tell_attributes [] (attributes_at (length (chars l.text)) (chars l.text));
}

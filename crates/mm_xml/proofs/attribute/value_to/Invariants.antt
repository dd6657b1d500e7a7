use Rattle.std.proofs.Common.{◌≡◌, ◌-◌, [], length}
use denote.Text.{Utf8}
use denote.Shadow.{shadow}
use Rattle.std.specs.Str.{chars}
use Rattle.mm_xml.specs.Inside.Lexemes.{chars_of}
use Rattle.mm_xml.specs.Inside.Lexing.{parts_at}
use Rattle.mm_xml.specs.Inside.Telling.{tell_parts}
use Rattle.mm_xml.proofs.attribute.value_to.Given as goal

-- the characters so far, and those that are read from here on, are those that are read from the start
abbrev pub invariant-loop : goal.invariant-loop
invariant-loop l = record {
  utf8 : shadow (Utf8 l.rest);
  same : tell_parts (chars_of l.value) (parts_at (length l.text - l.counter) l.quote (chars l.rest)) ≡ tell_parts [] (parts_at (length (chars l.text)) l.quote (chars l.text));
}

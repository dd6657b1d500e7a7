use Rattle.std.proofs.Common.{◌≡◌, drop}
use denote.Text.{Utf8}
use denote.Shadow.{shadow}
use Rattle.std.specs.Str.{chars}
use Rattle.mm_xml.proofs.text.split_after.Given as goal

-- what is left is what stands behind so many characters
abbrev pub invariant-loop : goal.invariant-loop
invariant-loop l = record {
  utf8 : shadow (Utf8 l.rest);
  same : chars l.rest ≡ drop l.counter (chars l.text);
}

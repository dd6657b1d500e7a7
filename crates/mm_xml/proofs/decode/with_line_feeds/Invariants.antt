use Rattle.std.proofs.Common.{◌≡◌, ◌++◌, length, false}
use denote.Text.{Utf8}
use denote.Shadow.{shadow}
use Rattle.std.specs.Str.{chars}
use Rattle.mm_xml.specs.Grammar.{normal}
use Rattle.mm_xml.specs.Inside.Lexemes.{chars_of}
use Rattle.mm_xml.proofs.decode.with_line_feeds.Given as goal

-- the characters so far, and what the others become, are what all become
abbrev pub invariant-loop-c : goal.invariant-loop-c
invariant-loop-c l = record {
  utf8 : shadow (Utf8 l.rest);
  same : chars_of l.lines ++ normal l.returned (chars l.rest) ≡ normal false (chars l.text);
}

abbrev pub decreases-loop-c : goal.decreases-loop-c
decreases-loop-c l = length (chars l.rest)

use Rattle.std.proofs.Common.{◌≡◌, ◌≤◌, length}
use denote.Text.{Utf8}
use denote.Shadow.{shadow}
use Rattle.std.specs.Str.{chars}
use Rattle.mm_xml.specs.Letters.{digits_value}
use Rattle.mm_xml.specs.Inside.Numbers.{capped}
use Rattle.mm_xml.proofs.reference.number.Given as goal

-- the number so far, with the digits that are left, gives the same number or one that is as much too large
abbrev pub invariant-loop-c : goal.invariant-loop-c
invariant-loop-c l = record {
  utf8 : shadow (Utf8 l.rest);
  same : capped (digits_value l.base l.n (chars l.rest)) ≡ capped (digits_value l.base 0 (chars l.digits));
  small : l.n ≤ 1114112;
}

abbrev pub decreases-loop-c : goal.decreases-loop-c
decreases-loop-c l = length (chars l.rest)

use Rattle.std.proofs.Common.{◌≡◌, ◌+◌, ◌-◌, ◌≤◌, length}
use denote.Text.{Utf8}
use denote.Shadow.{shadow}
use Rattle.std.specs.Str.{chars}
use Rattle.mm_xml.specs.Inside.Outlines.{outline_from, outline_as}
use Rattle.mm_xml.specs.Inside.Builds.{outline_of, order_of}
use Rattle.mm_xml.proofs.outline.find_tree.Given as goal

-- what is found from here on is what is found from the start
abbrev pub invariant-loop : goal.invariant-loop
invariant-loop l = record {
  utf8 : shadow (Utf8 l.rest);
  few : length (chars l.rest) ≤ length l.text - l.counter;
  same : outline_from (length l.text - l.counter) (outline_of l.outline) l.blank (order_of l.order) (chars l.rest) ≡ outline_as (order_of l.fn.order) (chars l.text);
  depth : l.order.depth ≤ l.counter + 1;
  squares : l.order.squares ≤ l.counter;
}

use Rattle.std.proofs.Common.{◌≡◌, ◌+◌, ◌-◌, ◌≤◌, length}
use denote.Text.{Utf8}
use denote.Shadow.{shadow}
use Rattle.std.specs.Str.{chars}
use Rattle.mm_tree.specs.Forests.{level_limit}
use Rattle.mm_xml.specs.Inside.Lexemes.{chars_of}
use Rattle.mm_xml.specs.Inside.Machine.{read_from, read_as, deepest_of}
use Rattle.mm_xml.specs.Inside.Builds.{state_of, order_of}
use Rattle.mm_xml.proofs.builder.build.Given as goal

-- what is read from here on is what is read from the start, and no level too many was met
abbrev pub invariant-loop : goal.invariant-loop
invariant-loop l = record {
  utf8 : shadow (Utf8 l.rest);
  few : length (chars l.rest) ≤ length l.text - l.counter;
  same : read_from (length l.text - l.counter) (state_of l.builder.stack) (chars_of l.builder.run) (order_of l.order) (chars l.rest) ≡ read_as (order_of l.fn.order) (chars l.text);
  shallow : deepest_of (state_of l.builder.stack) ≤ level_limit;
  depth : l.order.depth ≤ l.counter + 1;
  squares : l.order.squares ≤ l.counter;
}

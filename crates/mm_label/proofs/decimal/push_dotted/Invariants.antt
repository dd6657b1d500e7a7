use Rattle.std.proofs.Common.{◌≡◌, ◌++◌, drop, flat_map, string_bytes}
use Rattle.mm_label.specs.Text.{dotted}
use Rattle.mm_label.proofs.decimal.push_dotted.Given as goal

abbrev pub invariant-loop-c : goal.invariant-loop-c
invariant-loop-c l = string_bytes l.out ++ flat_map dotted (drop l.c-index l.components) ≡ string_bytes l.initial.out ++ flat_map dotted l.components

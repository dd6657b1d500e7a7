use Rattle.std.proofs.Common.{◌≡◌, ◌++◌, drop, map, bytes_eq}
use Rattle.std.specs.List.{list_any}
use Rattle.mm_tree.specs.Search.{own}
use Rattle.mm_tree.proofs.search.own_flags.Given as goal

-- the list has the node's own words; the flags so far, and those of the words to come, are those of all
abbrev pub invariant-loop-word : goal.invariant-loop-word
invariant-loop-word l = record {
  words : l.list.items ≡ own l.fn.kind;
  rest : l.flags ++ map (λ w. list_any (bytes_eq w) (own l.fn.kind)) (drop l.word-index l.query) ≡ map (λ w. list_any (bytes_eq w) (own l.fn.kind)) l.query;
}

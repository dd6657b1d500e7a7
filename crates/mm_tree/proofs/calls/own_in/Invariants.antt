use Rattle.std.proofs.Common.{◌≡◌, ◌++◌, drop, bytes_eq}
use Rattle.std.specs.List.{list_any, filter}
use Rattle.mm_tree.specs.Search.{own}
use Rattle.mm_tree.proofs.calls.own_in.Given as goal

-- the list has the node's own words; the words so far, and those to come, are all
abbrev pub invariant-loop-word : goal.invariant-loop-word
invariant-loop-word l = record {
  listed : l.list.items ≡ own l.fn.kind;
  rest : l.words ++ filter (λ w. list_any (bytes_eq w) (own l.fn.kind)) (drop l.word-index l.query) ≡ filter (λ w. list_any (bytes_eq w) (own l.fn.kind)) l.query;
}

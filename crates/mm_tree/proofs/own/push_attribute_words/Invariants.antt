use Rattle.std.proofs.Common.{◌≡◌, ◌++◌, drop, flat_map}
use Rattle.mm_tree.specs.Search.{attribute_words}
use Rattle.mm_tree.proofs.own.push_attribute_words.Given as goal

-- the words so far, and those of the attributes to come, are those of all
abbrev pub invariant-loop-attribute : goal.invariant-loop-attribute
invariant-loop-attribute l = l.list.items ++ flat_map attribute_words (drop l.attribute-index l.attributes) ≡ l.fn.list.items ++ flat_map attribute_words l.attributes

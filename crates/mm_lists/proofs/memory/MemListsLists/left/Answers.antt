use Rattle.std.proofs.Common.{arith}
use Rattle.mm_lists.proofs.Lookups.{left_in, none_in}
use Rattle.mm_lists.proofs.memory.MemListsLists.left.Goals as goal

pub returns-then-count-eq0-clause-value : goal.returns-then-count-eq0-clause-value
returns-then-count-eq0-clause-value g c = λ f a. none_in c.args.self.now.lists f c.args.word.now c.args.at.now c.list-list.result.now c.count_up_to-count.result a c.list-list.ensures c.count_up_to-count.ensures.point c.if-count-eq0.true

pub returns-clause-value : goal.returns-clause-value
returns-clause-value g c = λ f a. left_in c.args.self.now.lists f c.args.word.now c.args.at.now c.list-list.result.now c.count_up_to-count.result c.in_ok-copied.field-0 a c.list-list.ensures c.count_up_to-count.ensures.within c.count_up_to-count.ensures.point (omega arith) c.in_ok-copied.ensures

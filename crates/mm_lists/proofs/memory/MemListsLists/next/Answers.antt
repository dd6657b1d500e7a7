use Rattle.mm_lists.proofs.Lookups.{next_in}
use Rattle.mm_lists.proofs.memory.MemListsLists.next.Goals as goal

pub returns-clause-value : goal.returns-clause-value
returns-clause-value g c = λ f a. next_in c.args.self.now.lists f c.args.word.now c.args.at.now c.list-list.result.now c.count_up_to.result c.in_ok-copied.field-0 a c.list-list.ensures c.count_up_to.ensures.point c.in_ok-copied.ensures

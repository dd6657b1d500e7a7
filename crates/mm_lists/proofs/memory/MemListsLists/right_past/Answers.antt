use Rattle.mm_lists.proofs.Lookups.{right_past_in}
use Rattle.mm_lists.proofs.memory.MemListsLists.right_past.Goals as goal

pub returns-clause-value : goal.returns-clause-value
returns-clause-value g c = λ f a. right_past_in c.args.self.now.lists f c.args.word.now c.args.at.now c.list-list.result.now c.count_through.result c.in_ok-copied.field-0 a c.list-list.ensures c.count_through.ensures c.in_ok-copied.ensures
